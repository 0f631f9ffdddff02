-- The divisor of step 2, where it is finite, is at least 1.0, so that the quotient of step 3 is finite and above zero.
use mathlib.Core.Path.{◌≡◌, sym, ap, subst}
use mathlib.Core.Bool.{Bool, true, false, cond, ◌&&◌, true≢false}
use Prim.Native.Nat.{ℕ, zero, suc, ◌+◌, ◌*◌, ◌%◌, ◌^◌, ◌≤◌, ◌<◌}
use native.Mathlib.Nat.{le_trans, le_of_eq, le_of_lt, lt_of_lt_of_le, mul-one, one-mul, mul-pos, mul_assoc, mul_comm, mul_left_comm, mul-le-mul, mul-le-mul_left}
use native.Mathlib.Omega.{arith}
use lib.Dec.{T, leb, ltb, eqb, ltb→lt, lit≤, lit<, eqb-suc-zero}
use lib.Pow.{pow_pos, pow_mono}
use lib.Ieee.{Float, nan, inf, fin, binary64, up, down, round, sum, add, div, le, of_int, fits}
use lib.Ieee.Fits.{down_pos, and_r, add-fits}
use lib.Ieee.Order.{round_mono}
use lib.Ieee.Positive.{num, den, positive, above, den_pos, le→cross, above_of_le, between}
use lib.Ieee.Scale.{finite}
use Rattle.floats.specs.Values.{magnitude}
use Rattle.kinds.specs.declared.Width.{Width}
use Rattle.kinds.specs.declared.Width.TheVariants.{Eight, Sixteen, ThirtyTwo}
use Rattle.kinds.specs.Widths.{bits_of}
use Rattle.rule.specs.Numbers.{greatest, limit}
use Rattle.quantising.specs.Scale.{◌⊕◌, ◌⊗◌, ◌⊘◌, float, divisor, quotient}
use Rattle.quantising.proofs.Unsigned.{Unsigned, float_unsigned, magnitude_unsigned, add_unsigned, mul_unsigned}

one_positive : T (positive (float 1))
unfolding of_int
one_positive = tt

finite_above : (x : Float) → T (finite x) → T (above x) → T (positive x)
finite_above nan f a = absurd f
finite_above (inf s) f a = absurd f
finite_above (fin true m e) f a = absurd a
finite_above (fin false m e) f a = a

-- one more than what has no minus sign
one_le : (y : Float) → Unsigned y → T (finite (y ⊕ float 1)) → T (le (float 1) (y ⊕ float 1))
unfolding add sum of_int
one_le nan u f = absurd f
one_le (inf s) u f = absurd f
one_le (fin true m e) u f = absurd (true≢false u)
one_le (fin false m e) u f = round_mono binary64 1 1 (m * up e * 1 + 1 * 1 * down e) (down e * 1) (lit< tt) (subst (λ (z : ℕ). 0 < z) (sym (mul-one (down e))) (down_pos e)) (more (m * up e) (down e))
  where
    more : (n d : ℕ) → 1 * (d * 1) ≤ (n * 1 + 1 * 1 * d) * 1
    more n d = omega arith

module _ (W : ℕ) (S bias : Float) (u : Unsigned S) (f : T (finite (divisor W S bias))) where
  abbrev before : Float
  before = S ⊗ float (greatest W) ⊕ magnitude bias

  pub divisor_ge_one : T (le (float 1) (divisor W S bias))
  unfolding divisor
  divisor_ge_one = one_le before (add_unsigned (S ⊗ float (greatest W)) (magnitude bias) (mul_unsigned S (float (greatest W)) u (float_unsigned (greatest W))) (magnitude_unsigned bias)) f

  pub divisor_positive : T (positive (divisor W S bias))
  divisor_positive = finite_above (divisor W S bias) f (above_of_le (float 1) (divisor W S bias) one_positive divisor_ge_one)

  pub divisor_size : den (divisor W S bias) ≤ num (divisor W S bias)
  unfolding of_int
  divisor_size = unit (den (divisor W S bias)) (num (divisor W S bias)) (le→cross (float 1) (divisor W S bias) one_positive divisor_positive divisor_ge_one)
    where
      unit : (a b : ℕ) → 1 * a ≤ b * 1 → a ≤ b
      unit a b h = omega arith

  pub divisor_fits : T (fits binary64 (divisor W S bias))
  unfolding divisor
  divisor_fits = add-fits binary64 before (float 1)

-- ---- L over d, where L is from 1 to 2 ^ 63 and d is at least 1
least : Float
least = round binary64 false 1 (2 ^ 1074)

least_positive : T (positive least)
unfolding least round
least_positive = tt

greatest_positive : T (positive (round binary64 false (2 ^ 63) 1))
unfolding round
greatest_positive = tt

pub record Limit (L : Float) : Type 0 where
  pub above_zero : T (positive L)
  pub from_one : den L ≤ num L
  pub to_top : num L ≤ 2 ^ 63 * den L

pub quotient_of : (L d : Float) → T (positive L) → T (positive d) → L ⊘ d ≡ round binary64 false (num L * den d) (num d * den L)
unfolding div
quotient_of nan d p q = absurd p
quotient_of (inf s) d p q = absurd p
quotient_of (fin true l k) d p q = absurd p
quotient_of (fin false l k) nan p q = absurd q
quotient_of (fin false l k) (inf t) p q = absurd q
quotient_of (fin false l k) (fin true n g) p q = absurd q
quotient_of (fin false l k) (fin false zero g) p q = absurd q
quotient_of (fin false l k) (fin false (suc n) g) p q = ap (λ (b : Bool). cond b (cond (eqb l 0) nan (inf false)) (round binary64 false (l * up k * down g) (suc n * up g * down k))) (eqb-suc-zero n)

size_lt : (d : Float) → T (positive d) → T (fits binary64 d) → num d < 2 ^ 1024 * den d
unfolding fits
size_lt nan p f = absurd p
size_lt (inf s) p f = absurd p
size_lt (fin true n g) p f = absurd p
size_lt (fin false zero g) p f = absurd p
size_lt (fin false (suc n) g) p f = ltb→lt (suc n * up g) (2 ^ 1024 * down g) (and_r (eqb (suc n % 2) 1 && ltb (suc n) (2 ^ 53) && leb (down g) (2 ^ 1074)) (ltb (suc n * up g) (2 ^ 1024 * down g)) f)

num_pos : (x : Float) → T (positive x) → den x ≤ num x → 0 < num x
num_pos x p h = lt_of_lt_of_le (den_pos x) h

module _ (L d : Float) (l : Limit L) (p : T (positive d)) (f : T (fits binary64 d)) (g : den d ≤ num d) where
  abbrev a : ℕ
  a = num L * den d

  abbrev b : ℕ
  b = num d * den L

  b_pos : 0 < b
  b_pos = mul-pos (num_pos d p g) (den_pos L)

  lower : 1 * b ≤ a * 2 ^ 1074
  lower =
      le_trans (le_of_eq (one-mul b))
      (le_trans (mul-le-mul (le_of_lt (size_lt d p f)) l.from_one)
      (le_trans (le_of_eq (again (2 ^ 1024) (den d) (num L))) (mul-le-mul_left (num L * den d) (pow_mono {i = 1024} {j = 1074} (lit≤ tt)))))
    where
      again : (c x y : ℕ) → c * x * y ≡ y * x * c
      again c x y = simp (mul_assoc, mul_comm, mul_left_comm)

  upper : a * 1 ≤ 2 ^ 63 * b
  upper =
      le_trans (le_of_eq (mul-one a))
      (le_trans (mul-le-mul l.to_top g) (le_of_eq (again (2 ^ 63) (den L) (num d))))
    where
      again : (c x y : ℕ) → c * x * y ≡ c * (y * x)
      again c x y = simp (mul_assoc, mul_comm)

  pub over_positive : T (positive (L ⊘ d))
  unfolding least
  over_positive =
      subst (λ (x : Float). T (positive x)) (sym (quotient_of L d l.above_zero p))
      (between least (round binary64 false a b) (round binary64 false (2 ^ 63) 1) least_positive greatest_positive
      (round_mono binary64 1 (2 ^ 1074) a b (pow_pos 1074) b_pos lower) (round_mono binary64 a b (2 ^ 63) 1 b_pos (lit< tt) upper))

-- ---- the three limits
pub limit_float : (w : Width) → Limit (float (limit (bits_of w)))
unfolding of_int
limit_float Eight = record { above_zero = tt; from_one = lit≤ tt; to_top = lit≤ tt }
limit_float Sixteen = record { above_zero = tt; from_one = lit≤ tt; to_top = lit≤ tt }
limit_float ThirtyTwo = record { above_zero = tt; from_one = lit≤ tt; to_top = lit≤ tt }

pub quotient_positive : (w : Width) (S bias : Float) → Unsigned S → T (finite (divisor (bits_of w) S bias)) → T (positive (quotient (bits_of w) (divisor (bits_of w) S bias)))
unfolding quotient
quotient_positive w S bias u f =
    over_positive (float (limit (bits_of w))) (divisor (bits_of w) S bias) (limit_float w) (divisor_positive (bits_of w) S bias u f) (divisor_fits (bits_of w) S bias u f) (divisor_size (bits_of w) S bias u f)
