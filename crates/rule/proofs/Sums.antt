-- The sums of a prediction, over the width W. Above `admitted` stand two laws alone: on any samples of W bits every sum of the
-- first weights, from the bias, and every product lies inside the accumulator, and none is its least number. What else is needed of them
-- follows here.
-- Assumes nothing.
use mathlib.Core.Path.{◌≡◌, refl}
use mathlib.Core.Bool.{true}
use mathlib.Core.List.{List, [], ◌∷◌}
use Prim.Native.Nat.{ℕ, zero, suc, ◌+◌, ◌-◌, ◌*◌, ◌^◌, ◌≤◌, ◌<◌}
use native.Mathlib.Nat.{lt_of_lt_of_le, mul-add, mul-le-mul_left, not-suc-le-zero, le_of_suc-le-suc}
use native.Mathlib.Numerals.{add-one}
use native.Mathlib.Omega.{arith}
use borrow.Author.Tests.{leb-true}
use lib.IntN.{ℤ, pos, nat_abs, ◌+ℤ◌, ◌*ℤ◌, one, *ℤ-one}
use lib.ListN.{length, get_or, take}
use lib.Pow.{pow_pos, pow-lt, pow_mono}
use lib.Seq.{take_all}
use mir.Syntax.{Width}
use mir.Val.{SFits, hbits}
use Rattle.rule.specs.Numbers.{greatest, accumulator, limit, Inside}
use Rattle.rule.specs.Prediction.{sum_abs, admitted, sum_at}
use Rattle.rule.proofs.Sizes as sizes

-- xs are samples of W bits
pub record Samples (W : ℕ) (xs : List ℕ) : Type 0 where
  pub below : (i : ℕ) → get_or xs i 0 < 2 ^ W

-- ---- the size of a sum
sum_abs_le : (m : ℕ) (s : ℤ) (ws : List ℤ) (xs : List ℕ) → ((i : ℕ) → get_or xs i 0 ≤ m) → nat_abs (sum_at s ws xs) ≤ nat_abs s + m * sum_abs ws
sum_abs_le m s [] xs h = omega arith
sum_abs_le m s (w ∷ ws) [] h = omega arith
sum_abs_le m s (w ∷ ws) (x ∷ xs) h =
    omega (
      arith,
      sum_abs_le m (s +ℤ w *ℤ pos x) ws xs (λ i. h (suc i)),
      sizes.add-abs-le s (w *ℤ pos x),
      sizes.product_abs_le m w x (h 0),
      mul-add m (nat_abs w) (sum_abs ws),
    )

pub first_abs_le : (i : ℕ) (ws : List ℤ) → sum_abs (take i ws) ≤ sum_abs ws
first_abs_le zero ws = omega arith
first_abs_le (suc i) [] = omega arith
first_abs_le (suc i) (w ∷ ws) = omega (arith, first_abs_le i ws)

one_abs_le : (i : ℕ) (ws : List ℤ) → nat_abs (get_or ws i (pos 0)) ≤ sum_abs ws
one_abs_le i [] = omega arith
one_abs_le zero (w ∷ ws) = omega arith
one_abs_le (suc i) (w ∷ ws) = omega (arith, one_abs_le i ws)

pub small : (W : ℕ) (z : ℤ) → nat_abs z ≤ limit W → Inside W z
small W z h = record { inside = omega (arith, sizes.mag-le-abs z, pow_pos (accumulator W - 1)) }

pub size_inside : {W : ℕ} {z : ℤ} → nat_abs z < 2 ^ (accumulator W - 1) → Inside W z
size_inside {W} {z} h = small W z (omega (arith, h))

-- a term and the sum with it, as they are asked for where the term is added
pub sizes_inside : {W : ℕ} {y z : ℤ} → (nat_abs y < 2 ^ (accumulator W - 1)) × (nat_abs z < 2 ^ (accumulator W - 1)) → Inside W y × Inside W z
sizes_inside h = (size_inside h.0, size_inside h.1)

pub sample_le : (W x : ℕ) → x < 2 ^ W → x ≤ greatest W
sample_le W x h = omega arith

times_one : (z : ℤ) → z *ℤ pos 1 ≡ z
unfolding one
times_one z = *ℤ-one z

module _ (W : ℕ) (bias : ℤ) (ws : List ℤ) (ok : admitted W bias ws ≡ true) where
  pub within : nat_abs bias + greatest W * sum_abs ws ≤ limit W
  unfolding admitted
  within = leb-true (nat_abs bias + greatest W * sum_abs ws) (limit W) ok

  -- ---- the two laws: the size of a sum of the first weights, from the bias, and of a product
  pub prefix_inside : (i : ℕ) (xs : List ℕ) → Samples W xs → nat_abs (sum_at bias (take i ws) xs) < 2 ^ (accumulator W - 1)
  prefix_inside i xs s =
      omega (
        arith,
        sum_abs_le (greatest W) bias (take i ws) xs (λ j. sample_le W (get_or xs j 0) (s.below j)),
        mul-le-mul_left (greatest W) (first_abs_le i ws),
        within,
        pow_pos (accumulator W - 1),
      )

  pub product_inside : (i x : ℕ) → x < 2 ^ W → nat_abs (get_or ws i (pos 0) *ℤ pos x) < 2 ^ (accumulator W - 1)
  product_inside i x h =
      omega (
        arith,
        sizes.product_abs_le (greatest W) (get_or ws i (pos 0)) x (sample_le W x h),
        mul-le-mul_left (greatest W) (one_abs_le i ws),
        within,
        pow_pos (accumulator W - 1),
      )

  -- ---- what follows of the bias and of a weight
  pub bias_inside : nat_abs bias < 2 ^ (accumulator W - 1)
  bias_inside = prefix_inside 0 [] (record { below = λ i. pow_pos W })

  pub weight_inside : 0 < W → (i : ℕ) → nat_abs (get_or ws i (pos 0)) < 2 ^ (accumulator W - 1)
  weight_inside h i = rw times_one at (product_inside i 1 (pow-lt h))

-- ---- a machine's signed width that has the accumulator's bits, or more
pub fits : {w : Width} {W : ℕ} {z : ℤ} → accumulator W - 1 ≤ hbits w → Inside W z → SFits w z
fits h k = record { sfits = lt_of_lt_of_le k.inside (pow_mono h) }

-- ---- the sum, one weight more
next_at : (s : ℤ) (ws : List ℤ) (xs : List ℕ) (i : ℕ) → i < length ws → i < length xs
    → sum_at s (take (suc i) ws) xs ≡ sum_at s (take i ws) xs +ℤ get_or ws i (pos 0) *ℤ pos (get_or xs i 0)
next_at s [] xs i h k = absurd (not-suc-le-zero h)
next_at s (w ∷ ws) [] i h k = absurd (not-suc-le-zero k)
next_at s (w ∷ ws) (x ∷ xs) zero h k = refl
next_at s (w ∷ ws) (x ∷ xs) (suc i) h k = next_at (s +ℤ w *ℤ pos x) ws xs i (le_of_suc-le-suc h) (le_of_suc-le-suc k)

pub sum_next : (s : ℤ) (ws : List ℤ) (xs : List ℕ) (i : ℕ) → i < length ws → i < length xs
    → sum_at s (take (i + 1) ws) xs ≡ sum_at s (take i ws) xs +ℤ get_or ws i (pos 0) *ℤ pos (get_or xs i 0)
sum_next s ws xs i h k = rw add-one (next_at s ws xs i h k)

pub sum_whole : (s : ℤ) (ws : List ℤ) (xs : List ℕ) (i : ℕ) → length ws ≤ i → sum_at s (take i ws) xs ≡ sum_at s ws xs
sum_whole s ws xs i h = rw take_all
