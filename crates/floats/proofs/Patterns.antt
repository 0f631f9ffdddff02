-- The bit pattern of a magnitude: it has no sign bit, so that its quotient by 2 ^ 52 is the exponent field.
use mathlib.Core.Path.{◌≡◌, refl, sym, ap, ◌∙◌, subst}
use mathlib.Core.Bool.{Bool, true, false, not}
use Prim.Native.Nat.{ℕ, zero, suc, ◌+◌, ◌-◌, ◌*◌, ◌/◌, ◌%◌, ◌^◌, ◌<◌}
use native.Mathlib.Nat.{mod-eq_of_lt}
use native.Mathlib.Omega.{arith}
use borrow.Author.Tests.{lt-leb}
use lib.Dec.{T}
use lib.Ieee.{Float, nan, inf, fin, binary64, of_bits, of_fields, to_bits, is_nan, fits, up, down, size}
use lib.Ieee.Bits.{of_bits-to_bits, to_bits-lt}
use lib.Ieee.Scale.{finite}
use Rattle.std.specs.Float.{float_is_finite, float_with_sign}
use Rattle.floats.specs.Values.{magnitude}

pub yes : {b : Bool} → b ≡ true → T b
yes h = subst T (sym h) tt

-- the library's test is the logic's
pub finite_is : (x : Float) → float_is_finite x ≡ finite x
unfolding float_is_finite
finite_is nan = refl
finite_is (inf s) = refl
finite_is (fin s m e) = refl

pub finite_no_nan : (x : Float) → T (finite x) → T (not (is_nan x))
unfolding is_nan
finite_no_nan nan p = absurd p
finite_no_nan (inf s) p = absurd p
finite_no_nan (fin s m e) p = tt

-- ---- with another sign
pub sign_finite : (t : Bool) (x : Float) → T (finite x) → T (finite (float_with_sign t x))
unfolding float_with_sign
sign_finite t nan p = p
sign_finite t (inf s) p = p
sign_finite t (fin s m e) p = p

sign_fits : (t : Bool) (x : Float) → T (fits binary64 x) → T (fits binary64 (float_with_sign t x))
unfolding float_with_sign fits
sign_fits t nan p = p
sign_fits t (inf s) p = p
sign_fits t (fin s zero e) p = p
sign_fits t (fin s (suc m) e) p = p

-- with a minus the pattern is 2 ^ 63 more, and that still fits 64 bits
small : (x : Float) → T (finite x) → to_bits binary64 (float_with_sign true x) < 2 ^ 64 → to_bits binary64 (magnitude x) < 2 ^ 63
unfolding float_with_sign to_bits
small nan p h = absurd p
small (inf s) p h = absurd p
small (fin s m e) p h =
    let n = m * up e * 2 ^ 1074 / down e in
    let k = size n - 53 in
    less (k * 2 ^ 52) (n / 2 ^ k) h
  where
    less : (a b : ℕ) → 9223372036854775808 + a + b < 18446744073709551616 → 0 + a + b < 9223372036854775808
    less a b h = omega arith

module _ (x : Float) (held : T (fits binary64 x)) (p : T (finite x)) where
  abbrev pub b : ℕ
  b = to_bits binary64 (magnitude x)

  pub magnitude_no_nan : T (not (is_nan (magnitude x)))
  magnitude_no_nan = finite_no_nan (magnitude x) (sign_finite false x p)

  pub pattern_small : b < 2 ^ 63
  pattern_small = small x p (to_bits-lt binary64 (float_with_sign true x) (sign_fits true x held))

  pub by_fields : of_fields binary64 false (b / 2 ^ 52) (b % 2 ^ 52) ≡ magnitude x
  unfolding of_bits
  by_fields =
      ap (λ (n : ℕ). of_fields binary64 false (n / 2 ^ 52) (b % 2 ^ 52)) (sym (mod-eq_of_lt pattern_small))
      ∙ ap (λ (s : Bool). of_fields binary64 s (b % 2 ^ 63 / 2 ^ 52) (b % 2 ^ 52)) (sym (lt-leb (2 ^ 63) b pattern_small))
      ∙ of_bits-to_bits binary64 (magnitude x) (sign_fits false x held)
