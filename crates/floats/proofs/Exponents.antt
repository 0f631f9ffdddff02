-- The exponent of a float above zero: `exponent_of` is the greatest e with 2 ^ e not above it, and is read off the leading zeros of its digits.
use mathlib.Core.Path.{◌≡◌, refl, sym, ap, ◌∙◌, subst}
use mathlib.Core.Bool.{Bool, true, false, cond}
use Prim.Native.Nat.{ℕ, suc, ◌+◌, ◌-◌, ◌*◌, ◌/◌, ◌^◌, ◌≤◌, ◌<◌}
use native.Mathlib.Nat.{le_trans, le_of_eq, lt_of_lt_of_le, lt_of_le_of_lt, lt_of_not-le, not-le_of_lt, mul-le-mul_right, mul-lt-mul_of_pos_right, le-div_iff_mul-le, div-lt_iff_lt-mul}
use native.Mathlib.Omega.{arith}
use lib.IntN.{pos, negsuc}
use lib.Dec.{T, leb, lit≤, leb-suc-suc}
use lib.Pow.{pow_pos, pow-add, pow_mono}
use lib.Count.{count_leading_zeros, leading_top}
use lib.Ieee.{Float, nan, inf, fin, binary64, fits, minus, size}
use lib.Ieee.Digits.{size-lt, size-le}
use lib.Ieee.Exact.{HasValue}
use lib.Ieee.Positive.{num, den, positive, den_pos, value_pos, first_pos, positive-finite}
use Rattle.floats.specs.Values.{Unpacked, exponent_of, is_negative}
use Rattle.floats.proofs.Unpacking.{value_sign, value_size, packed}

-- n is e + 1074 for the greatest e with 2 ^ e not above x
pub record Greatest (x : Float) (n : ℕ) : Type 0 where
  pub not_above : 2 ^ n * den x ≤ num x * 2 ^ 1074
  pub next_above : num x * 2 ^ 1074 < 2 ^ (n + 1) * den x

minus_step : (n c : ℕ) → minus (suc n) (suc c) ≡ minus n c
minus_step n c = ap (λ (b : Bool). cond b (pos (suc n - suc c)) (negsuc (suc c - suc (suc n)))) (leb-suc-suc c n) ∙ same (leb c n)
  where
    one : (a b : ℕ) → suc a - suc b ≡ a - b
    one a b = omega arith

    same : (b : Bool) → cond b (pos (suc n - suc c)) (negsuc (suc c - suc (suc n))) ≡ cond b (pos (n - c)) (negsuc (c - suc n))
    same true = ap pos (one n c)
    same false = ap negsuc (one c (suc n))

-- it is the only one, and the exponent
pub greatest_exponent : (x : Float) (n : ℕ) → Greatest x n → minus n 1074 ≡ exponent_of x
unfolding exponent_of
greatest_exponent x n g =
    let units = num x * 2 ^ 1074 / den x in
    sym (minus_step n 1074)
    ∙ ap (λ (k : ℕ). minus k 1075) (between (size units) (reaches units ((le-div_iff_mul-le (den_pos x)).1 g.not_above)) (size-le units (n + 1) ((div-lt_iff_lt-mul (den_pos x)).1 g.next_above)))
  where
    reaches : (u : ℕ) → 2 ^ n ≤ u → n < size u
    reaches u h = lt_of_not-le (λ (k : size u ≤ n). not-le_of_lt (lt_of_lt_of_le (size-lt u) (pow_mono k)) h)

    between : (z : ℕ) → n < z → z ≤ n + 1 → suc n ≡ z
    between z a b = omega arith

above_zero : (x : Float) → T (positive x) → is_negative x ≡ false
above_zero nan p = absurd p
above_zero (inf t) p = absurd p
above_zero (fin true m e) p = absurd p
above_zero (fin false m e) p = refl

module _ (x : Float) (s : Bool) (q k : ℕ) (p : T (positive x)) (u : Unpacked x s q k) where
  value : HasValue x false (q * 2 ^ k) (2 ^ 1074)
  value = subst (λ (b : Bool). HasValue x b (q * 2 ^ k) (2 ^ 1074)) (sym (value_sign x s (q * 2 ^ k) (2 ^ 1074) u.value) ∙ above_zero x p) u.value

  cross : num x * 2 ^ 1074 ≡ q * 2 ^ k * den x
  cross = value_size x s (q * 2 ^ k) (2 ^ 1074) u.value

  some : 0 < q
  some = first_pos q (2 ^ k) (value_pos x (q * 2 ^ k) (2 ^ 1074) p (pow_pos 1074) value)

  -- the place of the leading digit
  top : (j : ℕ) × (count_leading_zeros 64 q + suc j ≡ 64) × (2 ^ j ≤ q) × (q < 2 ^ suc j)
  top = leading_top 64 q some (lt_of_lt_of_le u.held.few (lit≤ tt))

  pub zeros_bound : count_leading_zeros 64 q ≤ 63
  zeros_bound = go (count_leading_zeros 64 q) top.0 top.1
    where
      go : (z j : ℕ) → z + suc j ≡ 64 → z ≤ 63
      go z j h = omega arith

  leading_greatest : Greatest x (63 - count_leading_zeros 64 q + k)
  leading_greatest =
      subst (λ (j : ℕ). Greatest x (j + k)) (place (count_leading_zeros 64 q) top.0 top.1)
      (record {
        not_above = le_trans (mul-le-mul_right (den x) (le_trans (le_of_eq (pow-add 2 top.0 k)) (mul-le-mul_right (2 ^ k) top.2))) (le_of_eq (sym cross));
        next_above =
            lt_of_le_of_lt (le_of_eq cross)
            (mul-lt-mul_of_pos_right (lt_of_lt_of_le (mul-lt-mul_of_pos_right top.3 (pow_pos k)) (le_of_eq (sym (pow-add 2 (suc top.0) k) ∙ ap (λ (n : ℕ). 2 ^ n) (next top.0 k)))) (den_pos x));
      })
    where
      place : (z j : ℕ) → z + suc j ≡ 64 → j ≡ 63 - z
      place z j h = omega arith

      next : (j k : ℕ) → suc j + k ≡ j + k + 1
      next j k = omega arith

  pub leading_exponent : minus (63 - count_leading_zeros 64 q + k) 1074 ≡ exponent_of x
  leading_exponent = greatest_exponent x (63 - count_leading_zeros 64 q + k) leading_greatest

-- `exponent_of` is the greatest exponent of each float above zero
pub record Exponent (x : Float) : Type 0 where
  pub above : ℕ
  pub greatest : Greatest x above
  pub is : minus above 1074 ≡ exponent_of x

pub exponent_greatest : (x : Float) → T (fits binary64 x) → T (positive x) → Exponent x
exponent_greatest x F p =
    let k = packed x F (positive-finite x p) in
    record {
      above = 63 - count_leading_zeros 64 k.digits + k.shift;
      greatest = leading_greatest x k.negative k.digits k.shift p k.parts;
      is = leading_exponent x k.negative k.digits k.shift p k.parts;
    }
