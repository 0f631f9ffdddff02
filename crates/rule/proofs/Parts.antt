-- A list whose part from a on, k places long, was lent and has come back as ys: what stands at each place.
-- Assumes nothing.
use mathlib.Core.Path.{◌≡◌, sym, ap, ◌∙◌}
use mathlib.Core.List.{List, [], ◌∷◌, ◌++◌}
use Prim.Native.Nat.{ℕ, zero, suc, ◌+◌, ◌-◌, ◌≤◌, ◌<◌}
use native.Mathlib.Nat.{zero-sub, sub-zero, suc-sub-suc}
use native.Mathlib.Omega.{arith}
use borrow.Rule.Slice.PartMut.{put_mid, post_of}
use lib.ListN.{length, get_or, take, drop, get_or-append}
use lib.Seq.{take-nil, length-take-le, get_or-take, get_or-drop, get_or-append-add}

module _ {A : Type 0} (a k : ℕ) (xs ys : List A) (d : A) (inside : a + k ≤ length xs) (long : length ys ≡ k) where
  front : length (take a xs) ≡ a
  front = length-take-le a xs (omega arith)

  pub before_part : (i : ℕ) → i < a → get_or (put_mid a k xs ys) i d ≡ get_or xs i d
  before_part i h = get_or-append (take a xs) (ys ++ post_of a k xs) d i (omega (arith, front)) ∙ get_or-take a xs i d h

  from_part : (j : ℕ) → get_or (put_mid a k xs ys) (a + j) d ≡ get_or (ys ++ post_of a k xs) j d
  from_part j =
      ap (λ (n : ℕ). get_or (put_mid a k xs ys) (n + j) d) (sym front) ∙ get_or-append-add (take a xs) (ys ++ post_of a k xs) j d

  pub in_part : (j : ℕ) → j < k → get_or (put_mid a k xs ys) (a + j) d ≡ get_or ys j d
  in_part j h = from_part j ∙ get_or-append ys (post_of a k xs) d j (omega (arith, long))

  past_part : (j : ℕ) → get_or (put_mid a k xs ys) (a + (k + j)) d ≡ get_or xs (a + (k + j)) d
  past_part j =
      from_part (k + j)
      ∙ ap (λ (n : ℕ). get_or (ys ++ post_of a k xs) (n + j) d) (sym long)
      ∙ get_or-append-add ys (post_of a k xs) j d
      ∙ get_or-drop k (drop a xs) j d
      ∙ get_or-drop a xs (k + j) d

  pub after_part : (i : ℕ) → a + k ≤ i → get_or (put_mid a k xs ys) i d ≡ get_or xs i d
  after_part i h =
      let e : a + (k + (i - a - k)) ≡ i = omega arith in
      rw e at (past_part (i - a - k))

-- a part of a front is the front of a part
pub drop-take : (a t : ℕ) (l : List ℕ) → drop a (take t l) ≡ take (t - a) (drop a l)
drop-take zero t l = rw sub-zero
drop-take (suc a) zero l = rw zero-sub
drop-take (suc a) (suc t) [] = sym (take-nil (suc t - suc a))
drop-take (suc a) (suc t) (x ∷ l) = rw suc-sub-suc (drop-take a t l)
