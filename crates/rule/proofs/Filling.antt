-- A loop that fills a list from the front, one place a turn: with a table's values, or with another list's elements.
-- Assumes nothing.
use mathlib.Core.Path.{◌≡◌, refl, sym, ap, ap₂, ◌∙◌}
use mathlib.Core.List.{List, [], ◌∷◌, ◌++◌, append_assoc, append-nil}
use Prim.Native.Nat.{ℕ, zero, suc, ◌+◌, ◌-◌, ◌<◌, ◌≤◌}
use native.Mathlib.Numerals.{add-one}
use native.Mathlib.Omega.{arith}
use mathlib.Core.Logic.{⊎_elim}
use native.Mathlib.Nat.{not-suc-le-zero, eq-or-lt_of_le, le_of_suc-le-suc, zero-add, sub-zero, zero-sub, suc-sub-suc}
use lib.ListN.{length, get_or, take, drop, set, replicate, length-append, length-drop, get_or-append}
use lib.Seq.{drop-cons, set_at, length-take-le, drop-length, get_or_at, get_or-append-add, get_or-drop, get_or-take, ext_get_or}
use Rattle.rule.specs.Coding.{tabulate, coded_at, encoded_buffer}

module _ {A : Type 0} where
  pub length-tabulate : (n : ℕ) (f : ℕ → A) → length (tabulate n f) ≡ n
  length-tabulate zero f = refl
  length-tabulate (suc n) f = length-append (tabulate n f) (f n ∷ []) ∙ ap (λ (m : ℕ). m + 1) (length-tabulate n f) ∙ add-one n

  pub get_d_tabulate : (n : ℕ) (f : ℕ → A) (i : ℕ) (d : A) → i < n → get_or (tabulate n f) i d ≡ f i
  get_d_tabulate zero f i d h = absurd (not-suc-le-zero h)
  get_d_tabulate (suc n) f i d h =
      ⊎_elim
      (λ (e : i ≡ n). rw e (get_or_at (tabulate n f) (f n) [] d n (length-tabulate n f)))
      (λ (k : i < n). get_or-append (tabulate n f) (f n ∷ []) d i (rw (length-tabulate n f) k) ∙ get_d_tabulate n f i d k)
      (eq-or-lt_of_le (le_of_suc-le-suc h))

  pub tabulate_same : (n : ℕ) (f g : ℕ → A) → ((i : ℕ) → i < n → f i ≡ g i) → tabulate n f ≡ tabulate n g
  tabulate_same zero f g h = refl
  tabulate_same (suc n) f g h =
      ap₂ (λ (l : List A) (a : A). l ++ a ∷ []) (tabulate_same n f g (λ i k. h i (omega arith))) (h n (omega arith))

  -- the place after the i filled ones
  set_next : (p z : List A) (i : ℕ) (v d : A) → length p ≡ i → i < length z → set (p ++ drop i z) i v ≡ (p ++ v ∷ []) ++ drop (i + 1) z
  set_next p z i v d e h = rw (add-one, drop-cons z i d, set_at p (get_or z i d) (drop (suc i) z) v i e, append_assoc)

  tabulate_next : (f : ℕ → A) (z : List A) (i : ℕ) (v d : A) → i < length z → v ≡ f i → set (tabulate i f ++ drop i z) i v ≡ tabulate (i + 1) f ++ drop (i + 1) z
  tabulate_next f z i v d h e = set_next (tabulate i f) z i v d (length-tabulate i f) h ∙ rw (e, add-one)

  pub drop-replicate : (n i : ℕ) (a : A) → drop i (replicate n a) ≡ replicate (n - i) a
  drop-replicate n zero a = rw sub-zero
  drop-replicate zero (suc i) a = rw zero-sub
  drop-replicate (suc n) (suc i) a = rw suc-sub-suc (drop-replicate n i a)

  pub take-replicate : (n i : ℕ) (a : A) → i ≤ n → take i (replicate n a) ≡ replicate i a
  take-replicate n zero a h = refl
  take-replicate zero (suc i) a h = absurd (not-suc-le-zero h)
  take-replicate (suc n) (suc i) a h = ap (λ (l : List A). a ∷ l) (take-replicate n i a (le_of_suc-le-suc h))

-- l is z with its first i places filled from the table f
pub record Filled {A : Type 0} (f : ℕ → A) (z l : List A) (i : ℕ) : Type 0 where
  pub at : i ≤ length z
  pub is : l ≡ tabulate i f ++ drop i z

module _ {A : Type 0} {f : ℕ → A} {z : List A} where
  pub fill_begin : Filled f z z 0
  fill_begin = record { at = omega arith; is = refl }

  pub fill_length : {l : List A} {i : ℕ} → Filled f z l i → length l ≡ length z
  fill_length {l} {i} k =
      ap length k.is ∙ length-append (tabulate i f) (drop i z) ∙ omega (arith, length-tabulate i f, length-drop i z, k.at)

  pub fill_turn : {l : List A} {i : ℕ} {v : A} (d : A) → i < length z → v ≡ f i → Filled f z l i → Filled f z (set l i v) (i + 1)
  fill_turn {l} {i} {v} d h e k = record { at = omega arith; is = rw k.is (tabulate_next f z i v d h e) }

  pub fill_end : {l : List A} {i : ℕ} → Filled f z l i → length z ≤ i → l ≡ tabulate (length z) f
  fill_end {l} {i} k h =
      let e : i ≡ length z = omega (arith, k.at) in
      k.is ∙ rw (e, drop-length, append-nil)

  -- a place that is not filled yet
  pub fill_rest : {l : List A} {i : ℕ} (j : ℕ) (d : A) → Filled f z l i → i ≤ j → get_or l j d ≡ get_or z j d
  fill_rest {l} {i} j d k h =
      let at : j ≡ length (tabulate i f) + (j - i) = omega (arith, length-tabulate i f) in
      let from : i + (j - i) ≡ j = omega arith in
      ap (λ (m : List A). get_or m j d) k.is
      ∙ ap (λ (n : ℕ). get_or (tabulate i f ++ drop i z) n d) at
      ∙ get_or-append-add (tabulate i f) (drop i z) (j - i) d
      ∙ get_or-drop i z (j - i) d
      ∙ ap (λ (n : ℕ). get_or z n d) from

-- ---- a table of another list's elements is a part of that list
module _ {A : Type 0} (z : List A) (d : A) where
  pub tabulate_part : (n a : ℕ) → a + n ≤ length z → tabulate n (λ i. get_or z (a + i) d) ≡ take n (drop a z)
  tabulate_part n a h =
      ext_get_or d (tabulate n (λ i. get_or z (a + i) d)) (take n (drop a z))
      (length-tabulate n (λ i. get_or z (a + i) d) ∙ sym (length-take-le n (drop a z) (omega (arith, length-drop a z))))
      (λ i k.
      let inside : i < n = omega (arith, length-tabulate n (λ i. get_or z (a + i) d)) in
      get_d_tabulate n (λ i. get_or z (a + i) d) i d inside ∙ sym (get_or-take n (drop a z) i d inside ∙ get_or-drop a z i d))

  tabulate-take : (n : ℕ) → n ≤ length z → tabulate n (λ i. get_or z i d) ≡ take n z
  tabulate-take n h = tabulate_same n (λ i. get_or z i d) (λ i. get_or z (0 + i) d) (λ i k. rw zero-add) ∙ tabulate_part n 0 (omega arith)

  -- the first places filled with the first elements of z
  pub fill_copied : {y l : List A} {n : ℕ} → n ≤ length z → Filled (λ i. get_or z i d) y l n → l ≡ take n z ++ drop n y
  fill_copied {y} {l} {n} h k = k.is ∙ ap (λ (t : List A). t ++ drop n y) (tabulate-take n h)

pub get_or_zeros : (n i : ℕ) → ◌≡◌ {A = ℕ} (get_or (replicate n 0) i 0) 0
get_or_zeros zero i = refl
get_or_zeros (suc n) zero = refl
get_or_zeros (suc n) (suc i) = get_or_zeros n i

pub length_encoded : (W k : ℕ) (p : List ℕ → ℕ) (xs : List ℕ) → length (encoded_buffer W k p xs) ≡ length xs
unfolding encoded_buffer
length_encoded W k p xs = length-tabulate (length xs) (coded_at W k p xs)
