-- One entry: a number and its bytes, each from the other; what is read where an entry was written, and what is left beside it.
-- Assumes nothing.
use mathlib.Core.Path.{◌≡◌, refl, ap, ap₂, ◌∙◌}
use mathlib.Core.List.{List, [], ◌∷◌, ◌++◌}
use Prim.Native.Nat.{ℕ, zero, suc, ◌+◌, ◌*◌, ◌/◌, ◌%◌, ◌^◌, ◌≤◌, ◌<◌}
use native.Mathlib.Nat.{pow-suc, pow-le-pow_right, mod-add-div, mod-eq_of_lt, div-lt_iff_lt-mul}
use native.Mathlib.Omega.{arith}
use lib.ListN.{length, get_or, take, drop, length-append, length-take, length-drop}
use lib.Seq.{take_at, drop_at, length-take-le, get_or-drop}
use Rattle.rule.proofs.Parts as parts
use Rattle.entries.specs.Entries.{value_of, bytes_of, entry_at, with_entry}

-- a list of bytes
pub record Bytes (bs : List ℕ) : Type 0 where
  pub below : (i : ℕ) → get_or bs i 0 < 256

rest_bytes : {b : ℕ} {bs : List ℕ} → Bytes (b ∷ bs) → Bytes bs
rest_bytes h = record { below = λ i. h.below (suc i) }

pub take_bytes : (n : ℕ) {bs : List ℕ} → Bytes bs → Bytes (take n bs)
take_bytes n {bs} h = record { below = go n bs h }
  where
    go : (n : ℕ) (bs : List ℕ) → Bytes bs → (i : ℕ) → get_or (take n bs) i 0 < 256
    go zero bs h i = omega arith
    go (suc n) [] h i = omega arith
    go (suc n) (b ∷ bs) h zero = h.below 0
    go (suc n) (b ∷ bs) h (suc i) = go n bs (rest_bytes h) i

pub drop_bytes : (n : ℕ) {bs : List ℕ} → Bytes bs → Bytes (drop n bs)
drop_bytes n {bs} h = record { below = λ i. rw (get_or-drop n bs i 0) (h.below (n + i)) }

pub length_bytes : (n v : ℕ) → length (bytes_of n v) ≡ n
length_bytes zero v = refl
length_bytes (suc n) v = ap suc (length_bytes n (v / 256))

pub value_below : (bs : List ℕ) → Bytes bs → value_of bs < 256 ^ length bs
value_below [] h = omega arith
value_below (b ∷ bs) h = rw pow-suc (omega (arith, h.below 0, value_below bs (rest_bytes h)))

pub entry_below : (n at : ℕ) (bytes : List ℕ) → Bytes bytes → entry_at n bytes at < 256 ^ n
unfolding entry_at
entry_below n at bytes h =
    let few : length (take n (drop at bytes)) ≤ n = simp length-take (omega arith) in
    let most : 256 ^ length (take n (drop at bytes)) ≤ 256 ^ n = pow-le-pow_right (omega arith) few in
    omega (arith, value_below (take n (drop at bytes)) (take_bytes n (drop_bytes at h)))

-- and nothing of it is cut off by the bits of its bytes
pub entry_whole : (n W at : ℕ) (bytes : List ℕ) → 256 ^ n ≡ 2 ^ W → Bytes bytes → entry_at n bytes at % 2 ^ W ≡ entry_at n bytes at
entry_whole n W at bytes bits h = mod-eq_of_lt (rw (← bits) (entry_below n at bytes h))

-- ---- a number, its bytes, and the number again
pub value_of_bytes : (n v : ℕ) → v < 256 ^ n → value_of (bytes_of n v) ≡ v
value_of_bytes zero v h = omega arith
value_of_bytes (suc n) v h =
    let less : v / 256 < 256 ^ n = (div-lt_iff_lt-mul {k = 256} (omega arith)).1 (rw pow-suc at h) in
    ap (λ (z : ℕ). v % 256 + 256 * z) (value_of_bytes n (v / 256) less) ∙ mod-add-div v 256

-- bytes, their number, and the bytes again
pub bytes_of_value : (bs : List ℕ) → Bytes bs → bytes_of (length bs) (value_of bs) ≡ bs
bytes_of_value [] h = refl
bytes_of_value (b ∷ bs) h =
    let digit : (b + 256 * value_of bs) % 256 ≡ b = omega (arith, h.below 0) in
    let above : (b + 256 * value_of bs) / 256 ≡ value_of bs = omega (arith, h.below 0) in
    ap₂ (λ (d : ℕ) (ds : List ℕ). d ∷ ds) digit (ap (bytes_of (length bs)) above ∙ bytes_of_value bs (rest_bytes h))

-- ---- written
module _ (n at v : ℕ) (bytes : List ℕ) (inside : at + n ≤ length bytes) where
  front : length (take at bytes) ≡ at
  front = length-take-le at bytes (omega arith)

  pub length_written : length (with_entry n bytes at v) ≡ length bytes
  unfolding with_entry
  length_written =
      rw (length-append, front, length-append, length_bytes n v, length-drop, length-drop) (omega arith)

  -- an entry that was written is read
  pub read_written : v < 256 ^ n → entry_at n (with_entry n bytes at v) at ≡ v
  unfolding entry_at with_entry
  read_written h =
      rw (
        drop_at (take at bytes) (bytes_of n v ++ drop n (drop at bytes)) at front,
        take_at (bytes_of n v) (drop n (drop at bytes)) n (length_bytes n v),
      )
      (value_of_bytes n v h)

  -- only its bytes change
  pub written_before : (i : ℕ) → i < at → get_or (with_entry n bytes at v) i 0 ≡ get_or bytes i 0
  unfolding with_entry
  written_before i h = parts.before_part at n bytes (bytes_of n v) 0 inside (length_bytes n v) i h

  pub written_after : (i : ℕ) → at + n ≤ i → get_or (with_entry n bytes at v) i 0 ≡ get_or bytes i 0
  unfolding with_entry
  written_after i h = parts.after_part at n bytes (bytes_of n v) 0 inside (length_bytes n v) i h
