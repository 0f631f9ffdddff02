-- The shift of step 4 against the divisor: three times 2 ^ q divisors are at most twice the limit.
use mathlib.Core.Path.{◌≡◌, refl, sym, ap, ◌∙◌, subst}
use mathlib.Core.Bool.{Bool, true, false, cond}
use Prim.Native.Nat.{ℕ, zero, suc, ◌+◌, ◌-◌, ◌*◌, ◌/◌, ◌^◌, ◌≤◌, ◌<◌, min}
use native.Mathlib.Nat.{le_trans, le_of_eq, lt_of_lt_of_le, lt_of_le_of_lt, lt_of_not-le, mul-pos, mul_assoc, mul_comm, mul_left_comm, mul_right_comm, mul-le-mul_right, mul-lt-mul_of_pos_right, lt_of_mul-lt-mul_right, le_of_mul-le-mul_right, le-div_iff_mul-le}
use native.Mathlib.Omega.{arith}
use lib.Dec.{T, leb, lit<}
use lib.IntN.{ℤ, pos, negsuc}
use lib.Pow.{pow_pos, pow-add, pow_mono, shl_lt}
use lib.Ieee.{Float, binary64, size, minus, round}
use lib.Ieee.Digits.{size_reaches}
use lib.Ieee.Exact.{HasValue, round_exact}
use lib.Ieee.Order.{round_mono}
use lib.Ieee.Positive.{num, den, positive, den_pos, own_value, positive_of_value, values_of_le}
use Rattle.floats.specs.Values.{exponent_of}
use Rattle.kinds.specs.declared.Shift.{Shift}
use Rattle.record.specs.Widths.{greatest_shift}
use Rattle.rule.specs.Numbers.{accumulator}
use Rattle.quantising.specs.Scale.{◌⊘◌, least_shift, by, scale_at}
use Rattle.quantising.proofs.Divisors.{quotient_of}
use Rattle.quantising.proofs.Choosing.{by_once, not_by}
use Rattle.quantising.proofs.Units.{Counts}

-- ---- 2 ^ (q + 1) is not above x
-- the exponent, and with it the binary digits of x in units
shift_size : (W : ℕ) (e : ℤ) (bias : Float) (q : Shift) (b : Float) → by q b ≡ scale_at W e bias → (less : ℕ) × (e ≡ pos (suc less)) × (q.0 ≤ less) × (b ≡ bias)
unfolding scale_at
shift_size W (pos (suc less)) bias q b h =
    let e = by_once q (least_shift W less) b bias h in
    (less, refl, subst (λ (k : ℕ). k ≤ less) (sym (ap (λ (s : Shift). s.0) e.0)) (least less (accumulator W - 1)), e.1)
  where
    least : (n a : ℕ) → min (min n greatest_shift) a ≤ n
    least n a = omega arith
shift_size W (pos zero) bias q b h = absurd (not_by q b h)
shift_size W (negsuc n) bias q b h = absurd (not_by q b h)

minus_size : (n less : ℕ) → minus n 1075 ≡ pos (suc less) → 1075 + less < n
minus_size n less h = go (leb 1075 n) h
  where
    same : (a b : ℕ) → pos a ≡ pos b → a ≡ b
    same a b h = cc

    big : (n less : ℕ) → n - 1075 ≡ suc less → 1075 + less < n
    big n less h = omega arith

    go : (b : Bool) → cond b (pos (n - 1075)) (negsuc (1075 - suc n)) ≡ pos (suc less) → 1075 + less < n
    go true h = big n less (same (n - 1075) (suc less) h)
    go false h =
        let z : ◌≡◌ {A = ℕ} 0 1 = cc in
        absurd (none z)
      where
        none : ◌≡◌ {A = ℕ} 0 1 → ⊥
        none e = omega arith

pub power_not_above : (W : ℕ) (x bias : Float) (s : Shift) (b : Float) → by s b ≡ scale_at W (exponent_of x) bias → (2 ^ (s.0 + 1) * den x ≤ num x) × (b ≡ bias)
unfolding exponent_of
power_not_above W x bias s b h =
    let q = s.0 in
    let at = shift_size W (exponent_of x) bias s b h in
    let less = at.0 in
    let reached : 2 ^ (1075 + less) ≤ num x * 2 ^ 1074 / den x = size_reaches (num x * 2 ^ 1074 / den x) (1075 + less) (minus_size (size (num x * 2 ^ 1074 / den x)) less at.1) in
    let crossed : 2 ^ (1075 + less) * den x ≤ num x * 2 ^ 1074 = (le-div_iff_mul-le (den_pos x)).0 reached in (
      le_of_mul-le-mul_right
          (le_trans (le_of_eq (mul_right_comm (2 ^ (q + 1)) (den x) (2 ^ 1074) ∙ ap (λ (k : ℕ). k * den x) (sym (pow-add 2 (q + 1) 1074)))) (le_trans (mul-le-mul_right (den x) (pow_mono (more q less at.2))) crossed))
          (pow_pos 1074),
      at.3,
    )
  where
    more : (q l : ℕ) → q ≤ l → q + 1 + 1074 ≤ 1075 + l
    more q l h = omega arith

-- ---- so the fraction that x was rounded from is above three quarters of it
module _ (a b q : ℕ) (B : 0 < b) (small : q ≤ greatest_shift) where
  abbrev x : Float
  x = round binary64 false a b

  abbrev y : Float
  y = round binary64 false (3 * 2 ^ (q + 1)) 4

  y_value : HasValue y false (3 * 2 ^ (q + 1)) 4
  y_value =
      round_exact binary64 false (3 * 2 ^ (q + 1)) 4 3 (q + 1073) (lit< tt) (lit< tt) (lt_of_lt_of_le (shl_lt 2 (q + 1073) (lit< tt)) (pow_mono {i = 2 + (q + 1073)} {j = 2098} (few q small)))
      (mul_assoc 3 (2 ^ (q + 1)) (2 ^ 1074) ∙ ap (λ (k : ℕ). 3 * k) (sym (pow-add 2 (q + 1) 1074) ∙ ap (λ (n : ℕ). 2 ^ n) (same q) ∙ pow-add 2 (q + 1073) 2) ∙ sym (mul_assoc 3 (2 ^ (q + 1073)) 4))
    where
      few : (q : ℕ) → q ≤ greatest_shift → 2 + (q + 1073) ≤ 2098
      few q h = omega arith

      same : (q : ℕ) → q + 1 + 1074 ≡ q + 1073 + 2
      same q = omega arith

  y_positive : T (positive y)
  y_positive = positive_of_value y (3 * 2 ^ (q + 1)) 4 y_value (mul-pos (lit< tt) (pow_pos (q + 1)))

  pub above_three_quarters : T (positive x) → 2 ^ (q + 1) * den x ≤ num x → 3 * 2 ^ (q + 1) * b < a * 4
  above_three_quarters p h = lt_of_not-le (λ (l : a * 4 ≤ 3 * 2 ^ (q + 1) * b). clash (num x) (2 ^ (q + 1) * den x) (mul-pos (pow_pos (q + 1)) (den_pos x)) h (le_trans (between l) (le_of_eq (mul_assoc 3 (2 ^ (q + 1)) (den x)))))
    where
      between : a * 4 ≤ 3 * 2 ^ (q + 1) * b → num x * 4 ≤ 3 * 2 ^ (q + 1) * den x
      between l = values_of_le x y (num x) (den x) (3 * 2 ^ (q + 1)) 4 p y_positive (own_value x p) y_value (round_mono binary64 a b (3 * 2 ^ (q + 1)) 4 B (lit< tt) l)

      clash : (n r : ℕ) → 0 < r → r ≤ n → n * 4 ≤ 3 * r → ⊥
      clash n r a b c = omega arith

-- ---- with v for the limit as an integer and D for the divisor in units
pub shift_bound : (L d : Float) (v D q : ℕ) → q ≤ greatest_shift → T (positive L) → num L ≡ v * den L → T (positive d) → den d ≤ num d → Counts d D → T (positive (L ⊘ d)) → 2 ^ (q + 1) * den (L ⊘ d) ≤ num (L ⊘ d) → 3 * (2 ^ q * D) ≤ 2 * (v * 2 ^ 1074)
shift_bound L d v D q small l e p g c r h =
    let is = quotient_of L d l p in
    let a = num L * den d in
    let b = num d * den L in
    let B : 0 < b = mul-pos (lt_of_lt_of_le (den_pos d) g) (den_pos L) in
    let above : 3 * 2 ^ (q + 1) * b < a * 4 = above_three_quarters a b q B small (subst (λ (x : Float). T (positive x)) is r) (subst (λ (x : Float). 2 ^ (q + 1) * den x ≤ num x) is h) in
    let w = den d * den L in
    let lower : 3 * 2 ^ (q + 1) * b * 2 ^ 1074 ≡ 3 * 2 ^ (q + 1) * D * w = left (3 * 2 ^ (q + 1)) (num d) (den L) (2 ^ 1074) D (den d) c.size_is in
    let upper : a * 4 * 2 ^ 1074 ≡ v * 2 ^ 1074 * 4 * w = right (num L) (den d) (2 ^ 1074) v (den L) e in
    half (2 ^ q) (2 ^ (q + 1)) D (v * 2 ^ 1074) (pow-add 2 q 1)
    (lt_of_mul-lt-mul_right w (lt_of_le_of_lt (le_of_eq (sym lower)) (lt_of_lt_of_le (mul-lt-mul_of_pos_right above (pow_pos 1074)) (le_of_eq upper))))
  where
    left : (t n l U D m : ℕ) → n * U ≡ D * m → t * (n * l) * U ≡ t * D * (m * l)
    left t n l U D m e =
        mul_assoc t (n * l) U ∙ ap (λ (k : ℕ). t * k) (mul_right_comm n l U ∙ ap (λ (k : ℕ). k * l) e ∙ mul_assoc D m l) ∙ sym (mul_assoc t D (m * l))

    right : (n m U v l : ℕ) → n ≡ v * l → n * m * 4 * U ≡ v * U * 4 * (m * l)
    right n m U v l e = ap (λ (k : ℕ). k * m * 4 * U) e ∙ simp (mul_assoc, mul_comm, mul_left_comm)

    half : (s t D v : ℕ) → t ≡ s * 2 → 3 * t * D < v * 4 → 3 * (s * D) ≤ 2 * v
    half s t D v e h = go (s * D) v (subst (λ (k : ℕ). k < v * 4) (ap (λ (k : ℕ). 3 * k * D) e ∙ again s D) h)
      where
        again : (s D : ℕ) → 3 * (s * 2) * D ≡ 6 * (s * D)
        again s D = ap (λ (k : ℕ). k * D) (six s) ∙ mul_assoc 6 s D
          where
            six : (s : ℕ) → 3 * (s * 2) ≡ 6 * s
            six s = omega arith

        go : (r v : ℕ) → 6 * r < v * 4 → 3 * r ≤ 2 * v
        go r v h = omega arith
