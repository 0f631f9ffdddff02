-- What becomes of a sum, by its sign, over the width W.
-- Assumes nothing.
use mathlib.Core.Path.{◌≡◌, refl, sym, subst}
use mathlib.Core.Bool.{true, false}
use Prim.Native.Nat.{ℕ, ◌/◌, ◌%◌, ◌^◌}
use native.Mathlib.Nat.{not-suc-le-zero, zero-div, zero-mod}
use borrow.Author.Tests.{ltb-true}
use lib.Dec.{T}
use lib.IntN.{ℤ, pos, negsuc, nat_abs}
use lib.Signed.{lt_z, non_neg}
use Rattle.rule.specs.Prediction.{clamped, settle}

clamped_negative : (z : ℤ) → lt_z z (pos 0) ≡ true → clamped z ≡ 0
clamped_negative (pos n) e = absurd (not-suc-le-zero (ltb-true n 0 e))
clamped_negative (negsuc n) e = refl

clamped_abs : (z : ℤ) → lt_z z (pos 0) ≡ false → nat_abs z ≡ clamped z
clamped_abs (pos n) e = refl
clamped_abs (negsuc n) e = absurd (subst T e tt)

pub not_negative : (z : ℤ) → lt_z z (pos 0) ≡ false → T (non_neg z)
not_negative (pos n) e = tt
not_negative (negsuc n) e = subst T e tt

module _ (W q : ℕ) (z : ℤ) where
  pub settle_negative : lt_z z (pos 0) ≡ true → 0 ≡ settle W q z
  unfolding settle
  settle_negative t = sym (rw (clamped_negative z t, zero-div, zero-mod))

  pub settle_shifted : lt_z z (pos 0) ≡ false → nat_abs z / 2 ^ q % 2 ^ W ≡ settle W q z
  unfolding settle
  settle_shifted t = rw (clamped_abs z t)
