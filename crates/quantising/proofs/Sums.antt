-- The divisor of step 2 against the exact figure: eight ninths of M times the exact sum of the absolute weights, plus the absolute float bias, are at most the divisor.
use mathlib.Core.Path.{◌≡◌, refl, sym, ap, ◌∙◌, subst}
use mathlib.Core.Bool.{true, false}
use mathlib.Core.List.{List, [], ◌∷◌}
use Prim.Native.Nat.{ℕ, suc, ◌+◌, ◌*◌, ◌/◌, ◌^◌, ◌≤◌}
use native.Mathlib.Nat.{mul-div_cancel}
use native.Mathlib.Omega.{arith}
use lib.Dec.{T}
use lib.ListN.{length}
use lib.Ieee.{Float, nan, inf, fin, binary64, add, of_int, fits}
use lib.Ieee.Positive.{num, den, den_pos}
use lib.Ieee.Scale.{finite}
use Rattle.std.specs.Float.{float_with_sign}
use Rattle.floats.specs.Values.{magnitude}
use Rattle.floats.proofs.Unpacking.{value_size, Packed, packed}
use Rattle.rule.specs.Numbers.{greatest}
use Rattle.quantising.specs.Scale.{◌⊕◌, ◌⊗◌, float, abs_sum_from, abs_total, divisor}
use Rattle.quantising.proofs.Unsigned.{Unsigned, float_unsigned, magnitude_unsigned, add_unsigned, mul_unsigned, abs_total_unsigned}
use Rattle.quantising.proofs.Units.{Counts, add_near, mul_near, integer_float}
use Rattle.quantising.proofs.Losses.{Under, under_start, under_round, under_add, under_mul, under_all}

-- ---- a float's size in units, and a list's
unfoldable pub units_of : Float → ℕ
units_of x = num x * 2 ^ 1074 / den x

pub units_packed : (x : Float) (p : Packed x) → units_of x ≡ p.digits * 2 ^ p.shift
unfolding units_of
units_packed x p = ap (λ (n : ℕ). n / den x) (value_size x p.negative (p.digits * 2 ^ p.shift) (2 ^ 1074) p.parts.value) ∙ mul-div_cancel (p.digits * 2 ^ p.shift) (den_pos x)

pub counted : (x : Float) → T (fits binary64 x) → T (finite x) → Counts x (units_of x)
counted x F f =
    let p = packed x F f in
    record { is_finite = f; size_is = value_size x p.negative (p.digits * 2 ^ p.shift) (2 ^ 1074) p.parts.value ∙ ap (λ (n : ℕ). n * den x) (sym (units_packed x p)) }

counted_magnitude : (x : Float) (n : ℕ) → Counts x n → Counts (magnitude x) n
unfolding float_with_sign
counted_magnitude nan n c = absurd c.is_finite
counted_magnitude (inf s) n c = absurd c.is_finite
counted_magnitude (fin s m e) n c = record { is_finite = tt; size_is = c.size_is }

abbrev pub total_units : List Float → ℕ
total_units [] = 0
total_units (w ∷ ws) = units_of w + total_units ws

-- each is a value of binary64, as every float of the machine is; and each is finite
abbrev pub Held : List Float → Type 0
Held [] = Unit
Held (w ∷ ws) = T (fits binary64 w) × Held ws

abbrev pub Finite : List Float → Type 0
Finite [] = Unit
Finite (w ∷ ws) = T (finite w) × Finite ws

-- ---- a finite sum has finite terms
left_finite : (x y : Float) → T (finite (x ⊕ y)) → T (finite x)
unfolding add
left_finite nan y f = f
left_finite (inf s) nan f = f
left_finite (inf true) (inf true) f = f
left_finite (inf true) (inf false) f = f
left_finite (inf false) (inf true) f = f
left_finite (inf false) (inf false) f = f
left_finite (inf s) (fin t n d) f = f
left_finite (fin s m e) y f = tt

right_finite : (x y : Float) → T (finite (x ⊕ magnitude y)) → T (finite y)
unfolding add float_with_sign
right_finite nan y f = absurd f
right_finite (inf s) nan f = f
right_finite (inf true) (inf t) f = f
right_finite (inf false) (inf t) f = f
right_finite (inf s) (fin t n d) f = tt
right_finite (fin s m e) nan f = f
right_finite (fin s m e) (inf t) f = f
right_finite (fin s m e) (fin t n d) f = tt

start_finite : (t : Float) (ws : List Float) → T (finite (abs_sum_from t ws)) → T (finite t)
start_finite t [] f = f
start_finite t (w ∷ ws) f = left_finite t (magnitude w) (start_finite (t ⊕ magnitude w) ws f)

pub terms_finite : (t : Float) (ws : List Float) → T (finite (abs_sum_from t ws)) → Finite ws
terms_finite t [] f = tt
terms_finite t (w ∷ ws) f = (right_finite t w (start_finite (t ⊕ magnitude w) ws f), terms_finite (t ⊕ magnitude w) ws f)

-- ---- step 1
pub record Summed (z : Float) (a n : ℕ) : Type 0 where
  pub count : ℕ
  pub counts : Counts z count
  pub under : Under a count n

sum_under : (ws : List Float) (t : Float) (a z n : ℕ) → Unsigned t → Counts t z → Under a z n → Held ws → T (finite (abs_sum_from t ws)) → Summed (abs_sum_from t ws) (a + total_units ws) (n + length ws)
sum_under [] t a z n s c u h f = record { count = z; counts = c; under = subst (λ (k : ℕ). Under k z (n + 0)) (none a) (subst (λ (k : ℕ). Under a z k) (none n) u) }
  where
    none : (a : ℕ) → a ≡ a + 0
    none a = omega arith
sum_under (w ∷ ws) t a z n s c u h f =
    let g : T (finite (t ⊕ magnitude w)) = start_finite (t ⊕ magnitude w) ws f in
    let k = units_of w in
    let near = add_near t (magnitude w) z k s (magnitude_unsigned w) c (counted_magnitude w k (counted w h.0 (right_finite t w g))) g in
    let r = sum_under ws (t ⊕ magnitude w) (a + k) near.count (suc n) (add_unsigned t (magnitude w) s (magnitude_unsigned w)) near.counts (under_round (a + k) (z + k) near.count n (under_add a z k n u) near.kept) h.1 f in
    record { count = r.count; counts = r.counts; under = subst (λ (m : ℕ). Under (a + (k + total_units ws)) r.count m) (more n (length ws)) (subst (λ (m : ℕ). Under m r.count (suc n + length ws)) (join a k (total_units ws)) r.under) }
  where
    join : (a b c : ℕ) → a + b + c ≡ a + (b + c)
    join a b c = omega arith

    more : (n m : ℕ) → suc n + m ≡ n + suc m
    more n m = omega arith

zero_counts : Counts (float 0) 0
unfolding of_int
zero_counts = record { is_finite = tt; size_is = refl }

abs_total_under : (ws : List Float) → Held ws → T (finite (abs_total ws)) → Summed (abs_total ws) (total_units ws) (length ws)
unfolding abs_total
abs_total_under ws h f =
    let r = sum_under ws (float 0) 0 0 0 (float_unsigned 0) zero_counts under_start h f in
    record { count = r.count; counts = r.counts; under = subst (λ (k : ℕ). Under k r.count (length ws)) (none (total_units ws)) (subst (λ (k : ℕ). Under (0 + total_units ws) r.count k) (none (length ws)) r.under) }
  where
    none : (a : ℕ) → 0 + a ≡ a
    none a = omega arith

-- ---- step 2
pub record Bounded (d : Float) (a : ℕ) : Type 0 where
  pub count : ℕ
  pub counts : Counts d count
  pub bound : 8 * a ≤ 9 * count

one_counts : Counts (float 1) (2 ^ 1074)
unfolding of_int
one_counts = record { is_finite = tt; size_is = refl }

pub divisor_bounded : (W : ℕ) (ws : List Float) (bias : Float) → Held ws → T (fits binary64 bias) → greatest W ≤ 2 ^ 53 → length ws ≤ 32 → T (finite (abs_total ws)) → T (finite (divisor W (abs_total ws) bias)) → Bounded (divisor W (abs_total ws) bias) (total_units ws * greatest W + units_of bias)
unfolding divisor
divisor_bounded W ws bias h F g l f d =
    let S = abs_total ws in
    let M = greatest W in
    let B = units_of bias in
    let n = length ws in
    let s = abs_total_under ws h f in
    let u = abs_total_unsigned ws in
    let d2 : T (finite (S ⊗ float M ⊕ magnitude bias)) = left_finite (S ⊗ float M ⊕ magnitude bias) (float 1) d in
    let d1 : T (finite (S ⊗ float M)) = left_finite (S ⊗ float M) (magnitude bias) d2 in
    let u1 = mul_unsigned S (float M) u (float_unsigned M) in
    let u2 = add_unsigned (S ⊗ float M) (magnitude bias) u1 (magnitude_unsigned bias) in
    let n1 = mul_near S (float M) s.count M u s.counts (integer_float M g) d1 in
    let n2 = add_near (S ⊗ float M) (magnitude bias) n1.count B u1 (magnitude_unsigned bias) n1.counts (counted_magnitude bias B (counted bias F (right_finite (S ⊗ float M) bias d2))) d2 in
    let n3 = add_near (S ⊗ float M ⊕ magnitude bias) (float 1) n2.count (2 ^ 1074) u2 (float_unsigned 1) n2.counts one_counts d in
    let r1 = under_round (total_units ws * M) (s.count * M) n1.count n (under_mul (total_units ws) s.count M n s.under) n1.kept in
    let r2 = under_round (total_units ws * M + B) (n1.count + B) n2.count (suc n) (under_add (total_units ws * M) n1.count B (suc n) r1) n2.kept in
    let r3 = under_round (total_units ws * M + B) n2.count n3.count (suc (suc n)) r2 (less n2.count (2 ^ 1074) n3.count n3.kept) in
    record { count = n3.count; counts = n3.counts; bound = under_all (total_units ws * M + B) n3.count (suc (suc (suc n))) r3 (few n l) }
  where
    less : (a b c : ℕ) → (a + b) * 4503599627370495 ≤ c * 4503599627370496 → a * 4503599627370495 ≤ c * 4503599627370496
    less a b c h = omega arith

    few : (n : ℕ) → n ≤ 32 → suc (suc (suc n)) ≤ 35
    few n h = omega arith

pub bias_finite : (W : ℕ) (S bias : Float) → T (finite (divisor W S bias)) → T (finite bias)
unfolding divisor
bias_finite W S bias f = right_finite (S ⊗ float (greatest W)) bias (left_finite (S ⊗ float (greatest W) ⊕ magnitude bias) (float 1) f)
