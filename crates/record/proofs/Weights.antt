-- The weights as they are stored: read in the order of the loops, one behind the other, and the two ways between them and their numbers as inverses.
use mathlib.Core.List.{List, [], ◌∷◌, ◌++◌, append-nil, append_assoc, map, map-append}
use mathlib.Core.Path.{◌≡◌, refl, sym, ap, ap₂, ◌∙◌}
use Prim.Native.Nat.{ℕ, zero, suc, ◌+◌, ◌-◌, ◌*◌, ◌^◌, ◌≤◌, ◌<◌}
use native.Mathlib.Numerals.{add-one}
use native.Mathlib.Omega.{arith}
use lib.IntN.{ℤ, pos}
use lib.ListN.{length, get_or, set, take, drop, replicate, length-append, length-map}
use lib.Seq.{set_at, take_at}
use lib.Signed.{mag}
use Rattle.bits.specs.Fields.{field_at}
use Rattle.record.specs.Format.{weight_fields}
use Rattle.record.specs.Reading.{in_array, numbers_at, weights_in}
use Rattle.record.specs.Signed.{raised, lowered}
use Rattle.record.specs.Widths.{weight_bits}
use Rattle.record.specs.Writing.{stored_weights}
use Rattle.rule.proofs.Filling.{drop-replicate, take-replicate}
use Rattle.record.proofs.Put.{Fit}
use Rattle.record.proofs.Signed.{raised_lowered, lowered_raised, raised_fits}

-- weights in the first of n places, whose others are 0; the record's array has 32
abbrev pub padded : ℕ → List ℤ → List ℤ
padded n ws = ws ++ replicate (n - length ws) (pos 0)

-- one weight more takes the place of the first 0
array_set : (n : ℕ) (ws : List ℤ) (w : ℤ) → length ws < n → set (padded n ws) (length ws) w ≡ padded n (ws ++ w ∷ [])
array_set n ws w h =
    let e : n - length ws ≡ suc (n - length (ws ++ w ∷ [])) = omega (arith, length-append ws (w ∷ [])) in
    let rest = replicate (n - length (ws ++ w ∷ [])) (pos 0) in
    ap (λ (m : ℕ). set (ws ++ replicate m (pos 0)) (length ws) w) e ∙ set_at ws (pos 0) rest w (length ws) refl ∙ sym (append_assoc ws (w ∷ []) rest)

numbers_length : (bytes : List ℕ) (at n : ℕ) → length (numbers_at bytes at (weight_fields n)) ≡ n
numbers_length bytes at zero = refl
numbers_length bytes at (suc n) = ap suc (numbers_length bytes (at + weight_bits) n)

weights_length : (bytes : List ℕ) (at n : ℕ) → length (weights_in bytes at n) ≡ n
weights_length bytes at n = length-map (numbers_at bytes at (weight_fields n)) (lowered 31) ∙ numbers_length bytes at n

numbers_more : (bytes : List ℕ) (at n : ℕ) → numbers_at bytes at (weight_fields (suc n)) ≡ numbers_at bytes at (weight_fields n) ++ field_at bytes (at + weight_bits * n) weight_bits ∷ []
numbers_more bytes at zero = let e : at ≡ at + weight_bits * 0 = omega arith in ap (λ (p : ℕ). field_at bytes p weight_bits ∷ []) e
numbers_more bytes at (suc n) =
    let e : at + weight_bits + weight_bits * n ≡ at + weight_bits * suc n = omega arith in
    ap (λ (l : List ℕ). field_at bytes at weight_bits ∷ l) (numbers_more bytes (at + weight_bits) n)
    ∙ ap (λ (p : ℕ). field_at bytes at weight_bits ∷ numbers_at bytes (at + weight_bits) (weight_fields n) ++ field_at bytes p weight_bits ∷ []) e

pub array_more : (n : ℕ) (bytes : List ℕ) (at i : ℕ) → i < n →
    set (padded n (weights_in bytes at i)) i (lowered 31 (field_at bytes (at + weight_bits * i) weight_bits)) ≡ padded n (weights_in bytes at (i + 1))
array_more n bytes at i h =
    let v = field_at bytes (at + weight_bits * i) weight_bits in
    let ws = weights_in bytes at i in
    ap (λ (m : ℕ). set (padded n ws) m (lowered 31 v)) (sym (weights_length bytes at i))
    ∙ array_set n ws (lowered 31 v) (omega (arith, weights_length bytes at i))
    ∙ ap (padded n) (sym (map-append (lowered 31) (numbers_at bytes at (weight_fields i)) (v ∷ [])) ∙ ap (map (lowered 31)) (sym (numbers_more bytes at i)))
    ∙ ap (λ (m : ℕ). padded n (weights_in bytes at m)) (sym (add-one i))

-- before the first weight
pub array_begun : (n : ℕ) → n ≤ 32 → take n (in_array []) ≡ padded n []
array_begun n h =
    let e : n ≡ n - 0 = omega arith in
    take-replicate 32 n (pos 0) h ∙ ap (λ (m : ℕ). replicate m (pos 0)) e

-- all n places filled, and behind them the places of an array of 0 that no weight took
pub array_filled : (bytes : List ℕ) (at n : ℕ) → padded n (weights_in bytes at n) ++ drop n (in_array []) ≡ in_array (weights_in bytes at n)
array_filled bytes at n =
    let ws = weights_in bytes at n in
    let none : n - length ws ≡ 0 = omega (arith, weights_length bytes at n) in
    let left : 32 - n ≡ 32 - length ws = omega (arith, weights_length bytes at n) in
    ap (λ (m : ℕ). (ws ++ replicate m (pos 0)) ++ drop n (in_array [])) none
    ∙ ap (λ (l : List ℤ). l ++ drop n (in_array [])) (append-nil ws)
    ∙ ap (λ (l : List ℤ). ws ++ l) (drop-replicate 32 n (pos 0) ∙ ap (λ (m : ℕ). replicate m (pos 0)) left)

-- the weights read are stored as the numbers that they were read from
raised_all : (numbers : List ℕ) → map (raised 31) (map (lowered 31) numbers) ≡ numbers
raised_all [] = refl
raised_all (n ∷ numbers) = ap₂ (λ (m : ℕ) (ms : List ℕ). m ∷ ms) (raised_lowered 31 n) (raised_all numbers)

pub array_stored : (bytes : List ℕ) (at n : ℕ) → stored_weights n (in_array (weights_in bytes at n)) ≡ numbers_at bytes at (weight_fields n)
array_stored bytes at n =
    let ws = weights_in bytes at n in
    ap (map (raised 31)) (take_at ws (replicate (32 - length ws) (pos 0)) n (weights_length bytes at n)) ∙ raised_all (numbers_at bytes at (weight_fields n))

-- weights of 32 bits are read from the numbers that they are stored as, and these fit
pub stored_read : (n : ℕ) (ws : List ℤ) → ((i : ℕ) → mag (get_or ws i (pos 0)) < 2 ^ 31) → map (lowered 31) (stored_weights n ws) ≡ take n ws
stored_read zero ws fits = refl
stored_read (suc n) [] fits = refl
stored_read (suc n) (w ∷ ws) fits = ap₂ (λ (v : ℤ) (vs : List ℤ). v ∷ vs) (lowered_raised 31 w (fits 0)) (stored_read n ws (λ i. fits (suc i)))

pub weights_fit : (n : ℕ) (ws : List ℤ) → n ≤ length ws → ((i : ℕ) → mag (get_or ws i (pos 0)) < 2 ^ 31) → Fit (weight_fields n) (stored_weights n ws)
weights_fit zero ws long fits = tt
weights_fit (suc n) [] long fits = absurd (omega arith)
weights_fit (suc n) (w ∷ ws) long fits = (raised_fits 31 w (fits 0), weights_fit n ws (omega arith) (λ i. fits (suc i)))
