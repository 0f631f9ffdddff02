-- Lists of entries: their bytes and back, the entries of a part, and the loops that load and store them. Over the number n of bytes
-- in an entry. Assumes nothing.
use mathlib.Core.Path.{◌≡◌, refl, sym, ap, ◌∙◌}
use mathlib.Core.List.{List, [], ◌∷◌, ◌++◌, map, map-append, append_assoc, append-nil}
use Prim.Native.Nat.{ℕ, zero, suc, ◌+◌, ◌-◌, ◌*◌, ◌/◌, ◌^◌, ◌≤◌, ◌<◌}
use native.Mathlib.Nat.{zero-add, add_comm, mul-zero, mul-suc, mul-div_cancel_left, mul-le-mul_left, mul-add, le-div_iff_mul-le, mul_comm}
use native.Mathlib.Numerals.{add-one}
use native.Mathlib.Omega.{arith}
use lib.IntN.{ℤ}
use mir.Syntax.{Width}
use mir.Val.{to_z}
use lib.ListN.{length, get_or, take, drop, length-append, length-drop}
use lib.Seq.{take_at, drop_at, drop-append-add, length-take-le, take-take, take-suc, drop-drop, take-add, take_all}
use Rattle.rule.specs.Coding.{tabulate}
use Rattle.rule.proofs.Parts.{drop-take}
use Rattle.rule.proofs.Filling.{Filled, length-tabulate, get_d_tabulate, tabulate_same, tabulate_part}
use Rattle.entries.specs.Entries.{value_of, bytes_of, entry_at, with_entry, entries, bytes_of_all, signed_entries}
use Rattle.entries.proofs.Bytes.{Bytes, take_bytes, drop_bytes, length_bytes, value_of_bytes, bytes_of_value}

module _ (n : ℕ) where
  pub length_bytes_all : (vs : List ℕ) → length (bytes_of_all n vs) ≡ n * length vs
  length_bytes_all [] = sym (mul-zero n)
  length_bytes_all (v ∷ vs) =
      length-append (bytes_of n v) (bytes_of_all n vs) ∙ omega (arith, length_bytes n v, length_bytes_all vs, mul-suc n (length vs))

  pub bytes_append : (vs us : List ℕ) → bytes_of_all n (vs ++ us) ≡ bytes_of_all n vs ++ bytes_of_all n us
  bytes_append [] us = refl
  bytes_append (v ∷ vs) us = rw (bytes_append vs us, append_assoc)

  pub length_entries : (bytes : List ℕ) → length (entries n bytes) ≡ length bytes / n
  unfolding entries
  length_entries bytes = length-tabulate (length bytes / n) (λ (i : ℕ). entry_at n bytes (n * i))

  -- ---- a list, its bytes, and the list again
  entry_bytes : (vs : List ℕ) (i : ℕ) → i < length vs → take n (drop (n * i) (bytes_of_all n vs)) ≡ bytes_of n (get_or vs i 0)
  entry_bytes [] i h = absurd (omega arith)
  entry_bytes (v ∷ vs) zero h = rw mul-zero (take_at (bytes_of n v) (bytes_of_all n vs) n (length_bytes n v))
  entry_bytes (v ∷ vs) (suc i) h =
      let past : drop (n * suc i) (bytes_of n v ++ bytes_of_all n vs) ≡ drop (n * i) (bytes_of_all n vs)
      = ap (λ (m : ℕ). drop m (bytes_of n v ++ bytes_of_all n vs)) (mul-suc n i ∙ add_comm (n * i) n ∙ ap (λ (m : ℕ). m + n * i) (sym (length_bytes n v)))
      ∙ drop-append-add (bytes_of n v) (bytes_of_all n vs) (n * i) in
      rw past (entry_bytes vs i (omega arith))

  pub entries_of_bytes : 0 < n → (vs : List ℕ) → ((i : ℕ) → get_or vs i 0 < 256 ^ n) → entries n (bytes_of_all n vs) ≡ vs
  unfolding entries entry_at
  entries_of_bytes some vs below =
      let count : length (bytes_of_all n vs) / n ≡ length vs = rw length_bytes_all (mul-div_cancel_left (length vs) some) in
      rw count
      (tabulate_same (length vs) _ (λ (i : ℕ). get_or vs (0 + i) 0) (λ i h. rw (zero-add, entry_bytes vs i h) (value_of_bytes n (get_or vs i 0) (below i)))
      ∙ tabulate_part vs 0 (length vs) 0 (omega arith)
      ∙ take_all (length vs) vs (omega arith))

  -- bytes, their entries, and the bytes again
  front_bytes : (bytes : List ℕ) → Bytes bytes → (m : ℕ) → n * m ≤ length bytes → bytes_of_all n (tabulate m (λ i. entry_at n bytes (n * i))) ≡ take (n * m) bytes
  unfolding entry_at
  front_bytes bytes are zero h = rw mul-zero
  front_bytes bytes are (suc m) h =
      let room : n * m + n ≤ length bytes = omega (arith, mul-suc n m) in
      let part = take n (drop (n * m) bytes) in
      let long : length part ≡ n = length-take-le n (drop (n * m) bytes) (omega (arith, length-drop (n * m) bytes)) in
      let same : bytes_of n (value_of part) ≡ part = ap (λ (l : ℕ). bytes_of l (value_of part)) (sym long) ∙ bytes_of_value part (take_bytes n (drop_bytes (n * m) are)) in
      bytes_append (tabulate m (λ i. value_of (take n (drop (n * i) bytes)))) (value_of part ∷ [])
      ∙ rw (front_bytes bytes are m (omega arith), append-nil, same, mul-suc) (sym (take-add (n * m) n bytes))

  pub bytes_of_entries : 0 < n → (bytes : List ℕ) → Bytes bytes → (m : ℕ) → length bytes ≡ n * m → bytes_of_all n (entries n bytes) ≡ bytes
  unfolding entries
  bytes_of_entries some bytes are m whole =
      let count : length bytes / n ≡ m = rw whole (mul-div_cancel_left m some) in
      rw count (front_bytes bytes are m (omega arith) ∙ take_all (n * m) bytes (omega arith))

  -- ---- the entries of a part are a part of the entries
  pub entries_part : 0 < n → (bytes : List ℕ) (s m : ℕ) → n * s + n * m ≤ length bytes
      → entries n (take (n * m) (drop (n * s) bytes)) ≡ take m (drop s (entries n bytes))
  unfolding entries entry_at
  entries_part some bytes s m inside =
      let long : length (take (n * m) (drop (n * s) bytes)) ≡ n * m = length-take-le (n * m) (drop (n * s) bytes) (omega (arith, length-drop (n * s) bytes)) in
      let count : length (take (n * m) (drop (n * s) bytes)) / n ≡ m = rw long (mul-div_cancel_left m some) in
      let room : s + m ≤ length bytes / n = (le-div_iff_mul-le {k = n} some).1 (rw (mul_comm, mul-add) inside) in
      rw count
      (tabulate_same m _ _ (λ i h.
      let next : n * i + n ≤ n * m = rw (mul-suc n i) at (mul-le-mul_left n h) in
      let left : n ≤ n * m - n * i = omega arith in
      let at : n * s + n * i ≡ n * (s + i) = sym (mul-add n s i) in
      rw (drop-take (n * i) (n * m) (drop (n * s) bytes), take-take n (n * m - n * i) (drop (n * i) (drop (n * s) bytes)) left, drop-drop, at)
      (sym (get_d_tabulate (length bytes / n) (λ (j : ℕ). value_of (take n (drop (n * j) bytes))) (s + i) 0 (omega arith))))
      ∙ tabulate_part (entries n bytes) 0 m s (rw (length_entries bytes) room))

-- ---- the loop that loads entries: `Filling`'s, with this table
pub loaded : (n : ℕ) (from to₀ to : List ℕ) (i : ℕ) → Filled (λ i. entry_at n from (n * i)) to₀ to i → i ≡ length from / n
    → to ≡ entries n from ++ drop (length from / n) to₀
unfolding entries
loaded n from to₀ to i k e = k.is ∙ rw e

pub loaded_signed : (w : Width) (n : ℕ) (from : List ℕ) (to₀ to : List ℤ) (i : ℕ) → Filled (λ i. to_z w (entry_at n from (n * i))) to₀ to i → i ≡ length from / n
    → to ≡ signed_entries w n from ++ drop (length from / n) to₀
unfolding entries
loaded_signed w n from to₀ to i k e =
    k.is ∙ rw e (ap (λ (z : List ℤ). z ++ drop (length from / n) to₀) (table (length from / n)))
  where
    table : (m : ℕ) → tabulate m (λ i. to_z w (entry_at n from (n * i))) ≡ map (to_z w) (tabulate m (λ i. entry_at n from (n * i)))
    table zero = refl
    table (suc m) = rw (table m) (sym (map-append (to_z w) (tabulate m (λ i. entry_at n from (n * i))) (entry_at n from (n * m) ∷ [])))

-- ---- the loop that stores them: the first i are stored
pub record Stored (n : ℕ) (from to₀ to : List ℕ) (i : ℕ) : Type 0 where
  pub within : i ≤ length from
  pub is : to ≡ bytes_of_all n (take i from) ++ drop (n * i) to₀

module _ (n : ℕ) (from to₀ : List ℕ) (room : n * length from ≤ length to₀) where
  pub store_begin : Stored n from to₀ to₀ 0
  store_begin = record { within = omega arith; is = rw mul-zero }

  module _ {to : List ℕ} {i : ℕ} (k : Stored n from to₀ to i) where
    done_long : length (bytes_of_all n (take i from)) ≡ n * i
    done_long = length_bytes_all n (take i from) ∙ ap (λ (m : ℕ). n * m) (length-take-le i from k.within)

    far : n * i ≤ n * length from
    far = mul-le-mul_left n k.within

    pub store_length : length to ≡ length to₀
    store_length = rw (k.is, length-append, done_long, length-drop) (omega (arith, far))

    pub store_turn : (h : i < length from) → Stored n from to₀ (with_entry n to (n * i) (get_or from i 0)) (i + 1)
    unfolding with_entry
    store_turn h =
        let one : bytes_of_all n (take i from ++ get_or from i 0 ∷ []) ≡ bytes_of_all n (take i from) ++ bytes_of n (get_or from i 0)
        = bytes_append n (take i from) (get_or from i 0 ∷ []) ∙ rw append-nil in
        record {
          within = omega arith;
          is =
              rw (
                k.is,
                take_at (bytes_of_all n (take i from)) (drop (n * i) to₀) (n * i) done_long,
                drop_at (bytes_of_all n (take i from)) (drop (n * i) to₀) (n * i) done_long,
                drop-drop,
                add-one,
                take-suc from i 0 h,
                one,
                mul-suc,
                append_assoc,
              );
        }

    pub store_end : length from ≤ i → to ≡ bytes_of_all n from ++ drop (n * length from) to₀
    store_end past =
        let e : i ≡ length from = omega (arith, k.within) in
        k.is ∙ rw (e, take_all (length from) from (omega arith))
