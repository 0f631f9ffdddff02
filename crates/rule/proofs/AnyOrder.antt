-- Whatever the order in which the terms of an admitted configuration are added to its bias, no sum on the way leaves the
-- accumulator, or is its least number: `any_order`. Nothing else leans on it; the code adds in weight order.
-- Assumes nothing.
use mathlib.Core.Path.{◌≡◌, refl, ap, ◌∙◌}
use mathlib.Core.Bool.{true}
use mathlib.Core.List.{List, [], ◌∷◌}
use Prim.Native.Nat.{ℕ, suc, ◌+◌, ◌-◌, ◌*◌, ◌^◌, ◌≤◌, ◌<◌}
use native.Mathlib.Nat.{mul-add}
use native.Mathlib.Omega.{arith}
use lib.IntN.{ℤ, pos, nat_abs, ◌+ℤ◌, ◌*ℤ◌}
use lib.ListN.{get_or, take}
use lib.Pow.{pow_pos}
use Rattle.rule.specs.Numbers.{greatest, accumulator}
use Rattle.rule.specs.Prediction.{sum_abs, admitted, sum_at}
use Rattle.rule.specs.AnyOrder.{terms, added, Reordered, none, keep, swap, both}
use Rattle.rule.proofs.Sizes as sizes
use Rattle.rule.proofs.Sums as sums
use Rattle.rule.proofs.Sums.{Samples}

-- the rule's own sum adds these terms in weight order
pub sum_added : (s : ℤ) (ws : List ℤ) (xs : List ℕ) → sum_at s ws xs ≡ added s (terms ws xs)
sum_added s [] xs = refl
sum_added s (w ∷ ws) [] = refl
sum_added s (w ∷ ws) (x ∷ xs) = sum_added (s +ℤ w *ℤ pos x) ws xs

added_abs_le : (s : ℤ) (ts : List ℤ) → nat_abs (added s ts) ≤ nat_abs s + sum_abs ts
added_abs_le s [] = omega arith
added_abs_le s (t ∷ ts) = omega (arith, added_abs_le (s +ℤ t) ts, sizes.add-abs-le s t)

terms_abs_le : (m : ℕ) (ws : List ℤ) (xs : List ℕ) → ((i : ℕ) → get_or xs i 0 ≤ m) → sum_abs (terms ws xs) ≤ m * sum_abs ws
terms_abs_le m [] xs h = omega arith
terms_abs_le m (w ∷ ws) [] h = omega arith
terms_abs_le m (w ∷ ws) (x ∷ xs) h =
    omega (arith, terms_abs_le m ws xs (λ i. h (suc i)), sizes.product_abs_le m w x (h 0), mul-add m (nat_abs w) (sum_abs ws))

reordered_abs : {us vs : List ℤ} → Reordered us vs → sum_abs us ≡ sum_abs vs
reordered_abs none = refl
reordered_abs (keep {t = t} r) = ap (λ (n : ℕ). nat_abs t + n) (reordered_abs r)
reordered_abs (swap {t = t} {u = u} {us = us}) = turn (nat_abs t) (nat_abs u) (sum_abs us)
  where
    turn : (a b n : ℕ) → a + (b + n) ≡ b + (a + n)
    turn a b n = omega arith
reordered_abs (both r q) = reordered_abs r ∙ reordered_abs q

module _ (W : ℕ) (bias : ℤ) (ws : List ℤ) (xs : List ℕ) (ok : admitted W bias ws ≡ true) (samples : Samples W xs) where
  pub any_order : {ts : List ℤ} → Reordered (terms ws xs) ts → (j : ℕ) → nat_abs (added bias (take j ts)) < 2 ^ (accumulator W - 1)
  any_order {ts} r j =
      omega (
        arith,
        added_abs_le bias (take j ts),
        sums.first_abs_le j ts,
        reordered_abs r,
        terms_abs_le (greatest W) ws xs (λ i. sums.sample_le W (get_or xs i 0) (samples.below i)),
        sums.within W bias ws ok,
        pow_pos (accumulator W - 1),
      )
