-- Steps 5 and 6 never refuse: where steps 1 to 4 give a shift, each weight fits 32 bits, the bias fits 64, and the accumulator rule holds with room to spare.
-- By rounding each weight gains at most a half, so with U units to 1 all comes to 2 ^ q (M Σ|w| + |bias|) + 16 M U; the first part is at most three quarters of the limit.
use mathlib.Core.Path.{◌≡◌, refl, sym, ap, ap₂, ◌∙◌, subst}
use mathlib.Core.Bool.{Bool, true, false, ◌&&◌}
use mathlib.Core.List.{List, [], ◌∷◌, map}
use Prim.Native.Nat.{ℕ, zero, suc, ◌+◌, ◌-◌, ◌*◌, ◌/◌, ◌^◌, ◌≤◌, ◌<◌}
use native.Mathlib.Nat.{le_trans, le_of_eq, le_refl, lt_of_le_of_lt, mul_assoc, mul_comm, mul_left_comm, mul_right_comm, mul-mul-mul_comm, mul-add, add-mul, add-le-add, mul-le-mul_left, mul-le-mul_right, le_of_mul-le-mul_right, lt_of_mul-lt-mul_right, le-mul_of_pos_right, div-mul-le_self}
use native.Mathlib.Omega.{arith}
use lib.Dec.{T, leb, lt→ltb, le→leb, lit<, lit≤}
use lib.IntN.{nat_abs}
use lib.ListN.{length}
use lib.Pow.{pow_pos, pow-add, pow-lt, pow_mono}
use lib.Ieee.{Float, binary64, of_int, fits}
use lib.Ieee.Bits.{is_true}
use lib.Ieee.Fits.{add-fits, and_i}
use lib.Ieee.Positive.{num, den, den_pos}
use lib.Ieee.Scale.{finite}
use Rattle.floats.specs.Values.{is_negative}
use Rattle.floats.specs.Integers.{half_up, signed, rounded_of, cut_of, in_bits, holds}
use Rattle.floats.proofs.Unpacking.{packed}
use Rattle.kinds.specs.declared.Width.{Width}
use Rattle.kinds.specs.declared.Width.TheVariants.{Eight, Sixteen, ThirtyTwo}
use Rattle.kinds.specs.Widths.{bits_of}
use Rattle.kinds.specs.declared.Shift.{Shift}
use Rattle.record.specs.Widths.{greatest_shift}
use Rattle.rule.specs.Numbers.{greatest, limit}
use Rattle.rule.specs.Prediction.{sum_abs, admitted}
use Rattle.quantising.specs.Scale.{◌⊗◌, float, total, abs_total, float_bias, divisor, quotient, by, scale_of}
use Rattle.quantising.specs.Steps.{weight_of, weights_hold, bias_of, bias_holds, found, completed, outcome}
use Rattle.quantising.proofs.Unsigned.{abs_total_unsigned}
use Rattle.quantising.proofs.Divisors.{limit_float, divisor_positive, divisor_size, quotient_positive}
use Rattle.quantising.proofs.Units.{Counts, integer_float, scale_exact}
use Rattle.quantising.proofs.Sums.{units_of, units_packed, total_units, Held, Finite, terms_finite, divisor_bounded, bias_finite}
use Rattle.quantising.proofs.Quotients.{power_not_above, shift_bound}
use Rattle.quantising.proofs.Completing.{is_admitted, past_scale}
use Rattle.quantising.proofs.Choosing.{reached, shift_fits}

-- ---- a size with its sign
nat_abs_signed : (s : Bool) (n : ℕ) → nat_abs (signed s n) ≡ n
nat_abs_signed true zero = refl
nat_abs_signed true (suc n) = refl
nat_abs_signed false n = refl

in_bits_signed : (bits : ℕ) (s : Bool) (n : ℕ) → n < 2 ^ (bits - 1) → T (in_bits bits (signed s n))
in_bits_signed bits true zero h = lt→ltb 0 (2 ^ (bits - 1)) h
in_bits_signed bits true (suc n) h = lt→ltb n (2 ^ (bits - 1)) (less n (2 ^ (bits - 1)) h)
  where
    less : (n p : ℕ) → suc n < p → n < p
    less n p h = omega arith
in_bits_signed bits false n h = lt→ltb n (2 ^ (bits - 1)) h

-- ---- what a float of X units rounds and is cut to, with U units to 1
rounded_size : (n d X U : ℕ) → 0 < d → n * U ≡ X * d → 2 * U * half_up n d ≤ 2 * X + U
rounded_size n d X U D e =
    le_of_mul-le-mul_right
    (le_trans (le_of_eq (left (half_up n d) d U)) (le_trans (mul-le-mul_right U (div-mul-le_self (2 * n + d) (2 * d))) (le_of_eq (add-mul (2 * n) d U ∙ ap₂ (λ (a b : ℕ). a + b) (mul_assoc 2 n U ∙ ap (λ (k : ℕ). 2 * k) e ∙ sym (mul_assoc 2 X d)) (mul_comm d U) ∙ sym (add-mul (2 * X) U d)))))
    D
  where
    left : (r d U : ℕ) → 2 * U * r * d ≡ r * (2 * d) * U
    left r d U = simp (mul_assoc, mul_comm, mul_left_comm)

cut_size : (n d X U : ℕ) → 0 < d → n * U ≡ X * d → n / d * U ≤ X
cut_size n d X U D e = le_of_mul-le-mul_right (le_trans (le_of_eq (mul_right_comm (n / d) U d)) (le_trans (mul-le-mul_right U (div-mul-le_self n d)) (le_of_eq e))) D

-- ---- what a width leaves room for: v is the limit as f64, an integer
pub record Room (W v : ℕ) : Type 0 where
  pub value : num (float (limit W)) ≡ v * den (float (limit W))
  pub exact : greatest W ≤ 2 ^ 53
  pub some : 0 < greatest W
  pub top : v ≤ 2 ^ 63
  pub weights : 6 * v + 4 * greatest W < 2 ^ 31 * (8 * greatest W)
  pub sums : 3 * v + 64 * greatest W ≤ 4 * limit W + 3

limit_as : Width → ℕ
limit_as Eight = 32767
limit_as Sixteen = 2147483647
limit_as ThirtyTwo = 9223372036854775808

room : (w : Width) → Room (bits_of w) (limit_as w)
unfolding limit_as of_int
room Eight = record { value = refl; exact = lit≤ tt; some = lit< tt; top = lit≤ tt; weights = lit< tt; sums = lit≤ tt }
room Sixteen = record { value = refl; exact = lit≤ tt; some = lit< tt; top = lit≤ tt; weights = lit< tt; sums = lit≤ tt }
room ThirtyTwo = record { value = refl; exact = lit≤ tt; some = lit< tt; top = lit≤ tt; weights = lit< tt; sums = lit≤ tt }

-- ---- the arithmetic, over plain numbers
first : (a b c : ℕ) → 4 * (a + b) ≤ c → 4 * a ≤ c
first a b c h = omega arith

second : (a b c : ℕ) → 4 * (a + b) ≤ c → 4 * b ≤ c
second a b c h = omega arith

alone : (x m c : ℕ) → 0 < m → 4 * (x * m) ≤ 3 * c → 4 * x ≤ 3 * c
alone x m c p h = le_trans (mul-le-mul_left 4 (le-mul_of_pos_right x p)) h

parts : (u t s m c : ℕ) → 4 * ((u + t) * s * m) ≤ c → (4 * (u * s * m) ≤ c) × (4 * (t * s * m) ≤ c)
parts u t s m c h =
    let e : 4 * (u * s * m + t * s * m) ≤ c = subst (λ (k : ℕ). 4 * k ≤ c) (ap (λ (k : ℕ). k * m) (add-mul u t s) ∙ add-mul (u * s) (t * s) m) h in
    (first (u * s * m) (t * s * m) c e, second (u * s * m) (t * s * m) c e)

weight_room : (r m v U x : ℕ) → 0 < U → 2 * U * r ≤ 2 * x + U → 4 * (x * m) ≤ 3 * (v * U) → 6 * v + 4 * m < 2 ^ 31 * (8 * m) → r < 2 ^ 31
weight_room r m v U x p h k l =
    lt_of_mul-lt-mul_right (8 * m)
    (lt_of_le_of_lt
    (le_of_mul-le-mul_right
    (le_trans (le_of_eq (left r m U))
    (le_trans (go (m * (U * r)) (x * m) (v * U) (m * U) (le_trans (le_of_eq (sym (outer m (U * r)) ∙ ap (λ (z : ℕ). 4 * m * z) (sym (mul_assoc 2 U r)))) (le_trans (mul-le-mul_left (4 * m) h) (le_of_eq (right m x U)))) k) (le_of_eq (sym (sums v m U)))))
    p)
    l)
  where
    left : (r m U : ℕ) → r * (8 * m) * U ≡ 8 * (m * (U * r))
    left r m U = simp (mul_assoc, mul_comm, mul_left_comm)

    outer : (m n : ℕ) → 4 * m * (2 * n) ≡ 8 * (m * n)
    outer m n = mul-mul-mul_comm 4 m 2 n

    right : (m x U : ℕ) → 4 * m * (2 * x + U) ≡ 8 * (x * m) + 4 * (m * U)
    right m x U = mul-add (4 * m) (2 * x) U ∙ ap₂ (λ (a b : ℕ). a + b) (outer m x ∙ ap (λ (z : ℕ). 8 * z) (mul_comm m x)) (mul_assoc 4 m U)

    sums : (v m U : ℕ) → (6 * v + 4 * m) * U ≡ 6 * (v * U) + 4 * (m * U)
    sums v m U = add-mul (6 * v) (4 * m) U ∙ ap₂ (λ (a b : ℕ). a + b) (mul_assoc 6 v U) (mul_assoc 4 m U)

    go : (a b c d : ℕ) → 8 * a ≤ 8 * b + 4 * d → 4 * b ≤ 3 * c → 8 * a ≤ 6 * c + 4 * d
    go a b c d h k = omega arith

bias_room : (n v U y : ℕ) → 0 < U → n * U ≤ y → 4 * y ≤ 3 * (v * U) → v ≤ 2 ^ 63 → n < 2 ^ 63
bias_room n v U y p h k t =
    under n v (le_of_mul-le-mul_right (le_trans (le_of_eq (mul_assoc 4 n U)) (le_trans (go (n * U) y (v * U) h k) (le_of_eq (sym (mul_assoc 3 v U))))) p) t
  where
    go : (a y c : ℕ) → a ≤ y → 4 * y ≤ 3 * c → 4 * a ≤ 3 * c
    go a y c h k = omega arith

    under : (n v : ℕ) → 4 * n ≤ 3 * v → v ≤ 9223372036854775808 → n < 9223372036854775808
    under n v h t = omega arith

all_room : (c s m v lim U e y n : ℕ) → 0 < U → n ≤ 32 → c * U ≤ y → 2 * U * s ≤ 2 * e + n * U → 4 * (e * m + y) ≤ 3 * (v * U) → 3 * v + 64 * m ≤ 4 * lim + 3 → c + m * s ≤ lim
all_room c s m v lim U e y n p few h k l t =
    within (c + m * s) (3 * v + 64 * m) lim (le_of_mul-le-mul_right (le_trans (le_of_eq (left c m s U)) (le_trans total (le_of_eq (sym (right v m U))))) p) t
  where
    left : (c m s U : ℕ) → 4 * (c + m * s) * U ≡ 4 * (c * U) + 4 * (m * (U * s))
    left c m s U = mul_assoc 4 (c + m * s) U ∙ ap (λ (z : ℕ). 4 * z) (add-mul c (m * s) U ∙ ap (λ (z : ℕ). c * U + z) (mul_assoc m s U ∙ ap (λ (z : ℕ). m * z) (mul_comm s U))) ∙ mul-add 4 (c * U) (m * (U * s))

    right : (v m U : ℕ) → (3 * v + 64 * m) * U ≡ 3 * (v * U) + 64 * (m * U)
    right v m U = add-mul (3 * v) (64 * m) U ∙ ap₂ (λ (a b : ℕ). a + b) (mul_assoc 3 v U) (mul_assoc 64 m U)

    half : (m n : ℕ) → 2 * m * (2 * n) ≡ 4 * (m * n)
    half m n = mul-mul-mul_comm 2 m 2 n

    weighed : 4 * (m * (U * s)) ≤ 4 * (e * m) + 64 * (m * U)
    weighed =
        le_trans (le_of_eq (sym (half m (U * s)) ∙ ap (λ (z : ℕ). 2 * m * z) (sym (mul_assoc 2 U s))))
        (le_trans (mul-le-mul_left (2 * m) (le_trans k (bound e U n few)))
        (le_of_eq (mul-add (2 * m) (2 * e) (32 * U) ∙ ap₂ (λ (a b : ℕ). a + b) (half m e ∙ ap (λ (z : ℕ). 4 * z) (mul_comm m e)) (mul-mul-mul_comm 2 m 32 U))))
      where
        bound : (e U n : ℕ) → n ≤ 32 → 2 * e + n * U ≤ 2 * e + 32 * U
        bound e U n h = add-le-add (le_refl (2 * e)) (mul-le-mul_right U h)

    total : 4 * (c * U) + 4 * (m * (U * s)) ≤ 3 * (v * U) + 64 * (m * U)
    total = go (c * U) (m * (U * s)) y (e * m) (v * U) (m * U) h weighed l
      where
        go : (a b y x z d : ℕ) → a ≤ y → 4 * b ≤ 4 * x + 64 * d → 4 * (x + y) ≤ 3 * z → 4 * a + 4 * b ≤ 3 * z + 64 * d
        go a b y x z d h k l = omega arith

    within : (a b lim : ℕ) → 4 * a ≤ b → b ≤ 4 * lim + 3 → a ≤ lim
    within a b lim h t = omega arith

module _ (W v q : ℕ) (r : Room W v) (small : q ≤ greatest_shift) where
  abbrev M : ℕ
  M = greatest W

  abbrev p : Float
  p = float (2 ^ q)

  -- ---- one float times 2 ^ q
  scaled : (x : Float) → T (fits binary64 x) → T (finite x) → 4 * (units_of x * 2 ^ q) ≤ 3 * (v * 2 ^ 1074) → Counts (x ⊗ p) (units_of x * 2 ^ q)
  scaled x F f h =
      let k = packed x F f in
      let is = units_packed x k in
      subst (λ (n : ℕ). Counts (x ⊗ p) (n * 2 ^ q)) (sym is)
      (scale_exact x p k.negative k.digits k.shift q k.parts.value k.parts.held.few (integer_float (2 ^ q) (pow-le q small))
      (subst (λ (n : ℕ). n * 2 ^ q < 2 ^ 2098) is (below (units_of x * 2 ^ q) (v * 2 ^ 1074) (2 ^ 1137) (2 ^ 2098) h (le_trans (mul-le-mul_right (2 ^ 1074) r.top) (le_of_eq (sym (pow-add 2 63 1074)))) (pow-lt {i = 1137} {j = 2098} (lit< tt)))))
    where
      pow-le : (q : ℕ) → q ≤ greatest_shift → 2 ^ q ≤ 2 ^ 53
      pow-le q h = pow_mono {i = q} {j = 53} (le_trans h (lit≤ tt))

      below : (x y z b : ℕ) → 4 * x ≤ 3 * y → y ≤ z → z < b → x < b
      below x y z b h g l = omega arith

  -- ---- a weight
  weight_size : (w : Float) → T (fits binary64 w) → T (finite w) → 4 * (units_of w * 2 ^ q) ≤ 3 * (v * 2 ^ 1074) → 2 * 2 ^ 1074 * nat_abs (weight_of p w) ≤ 2 * (units_of w * 2 ^ q) + 2 ^ 1074
  unfolding rounded_of
  weight_size w F f h =
      subst (λ (n : ℕ). 2 * 2 ^ 1074 * n ≤ 2 * (units_of w * 2 ^ q) + 2 ^ 1074) (sym (nat_abs_signed (is_negative (w ⊗ p)) (half_up (num (w ⊗ p)) (den (w ⊗ p)))))
      (rounded_size (num (w ⊗ p)) (den (w ⊗ p)) (units_of w * 2 ^ q) (2 ^ 1074) (den_pos (w ⊗ p)) (scaled w F f h).size_is)

  weight_small : (w : Float) → T (fits binary64 w) → T (finite w) → 4 * (units_of w * 2 ^ q * M) ≤ 3 * (v * 2 ^ 1074) → nat_abs (weight_of p w) < 2 ^ 31
  weight_small w F f h = weight_room (nat_abs (weight_of p w)) M v (2 ^ 1074) (units_of w * 2 ^ q) (pow_pos 1074) (weight_size w F f (alone (units_of w * 2 ^ q) M (v * 2 ^ 1074) r.some h)) h r.weights

  weight_holds : (w : Float) → T (fits binary64 w) → T (finite w) → 4 * (units_of w * 2 ^ q * M) ≤ 3 * (v * 2 ^ 1074) → holds 32 (w ⊗ p) (weight_of p w) ≡ true
  unfolding rounded_of
  weight_holds w F f h =
      is_true (holds 32 (w ⊗ p) (weight_of p w))
      (and_i (finite (w ⊗ p)) (in_bits 32 (weight_of p w)) (scaled w F f (alone (units_of w * 2 ^ q) M (v * 2 ^ 1074) r.some h)).is_finite
      (in_bits_signed 32 (is_negative (w ⊗ p)) (half_up (num (w ⊗ p)) (den (w ⊗ p))) (subst (λ (n : ℕ). n < 2 ^ 31) (nat_abs_signed (is_negative (w ⊗ p)) (half_up (num (w ⊗ p)) (den (w ⊗ p)))) (weight_small w F f h))))

  -- ---- all of them
  weights_hold_lem : (ws : List Float) → Held ws → Finite ws → 4 * (total_units ws * 2 ^ q * M) ≤ 3 * (v * 2 ^ 1074) → weights_hold p ws ≡ true
  weights_hold_lem [] h f l = refl
  weights_hold_lem (w ∷ ws) h f l =
      let t = parts (units_of w) (total_units ws) (2 ^ q) M (3 * (v * 2 ^ 1074)) l in
      ap₂ (λ (a b : Bool). a && b) (weight_holds w h.0 f.0 t.0) (weights_hold_lem ws h.1 f.1 t.1)

  weights_size : (ws : List Float) → Held ws → Finite ws → 4 * (total_units ws * 2 ^ q * M) ≤ 3 * (v * 2 ^ 1074)
      → 2 * 2 ^ 1074 * sum_abs (map (weight_of p) ws) ≤ 2 * (total_units ws * 2 ^ q) + length ws * 2 ^ 1074
  weights_size [] h f l = nothing (2 * 2 ^ 1074) (2 ^ q) (2 ^ 1074)
    where
      nothing : (a b c : ℕ) → a * 0 ≤ 2 * (0 * b) + 0 * c
      nothing a b c = omega arith
  weights_size (w ∷ ws) h f l =
      let t = parts (units_of w) (total_units ws) (2 ^ q) M (3 * (v * 2 ^ 1074)) l in
      join (nat_abs (weight_of p w)) (sum_abs (map (weight_of p) ws)) (units_of w) (total_units ws) (2 ^ q) (2 ^ 1074) (length ws)
      (weight_size w h.0 f.0 (alone (units_of w * 2 ^ q) M (v * 2 ^ 1074) r.some t.0))
      (weights_size ws h.1 f.1 t.1)
    where
      join : (a b u t s U n : ℕ) → 2 * U * a ≤ 2 * (u * s) + U → 2 * U * b ≤ 2 * (t * s) + n * U → 2 * U * (a + b) ≤ 2 * ((u + t) * s) + suc n * U
      join a b u t s U n h k =
          le_trans (le_of_eq (mul-add (2 * U) a b))
          (le_trans (add-le-add h k) (le_of_eq (sums (u * s) (t * s) U (n * U) ∙ ap₂ (λ (x y : ℕ). 2 * x + y) (sym (add-mul u t s)) (one n U))))
        where
          sums : (x y U m : ℕ) → 2 * x + U + (2 * y + m) ≡ 2 * (x + y) + (m + U)
          sums x y U m = omega arith

          one : (n U : ℕ) → n * U + U ≡ suc n * U
          one n U = omega arith

  -- ---- the bias
  bias_size : (b : Float) → T (fits binary64 b) → T (finite b) → 4 * (units_of b * 2 ^ q) ≤ 3 * (v * 2 ^ 1074) → nat_abs (bias_of p b) * 2 ^ 1074 ≤ units_of b * 2 ^ q
  unfolding cut_of
  bias_size b F f h =
      subst (λ (n : ℕ). n * 2 ^ 1074 ≤ units_of b * 2 ^ q) (sym (nat_abs_signed (is_negative (b ⊗ p)) (num (b ⊗ p) / den (b ⊗ p))))
      (cut_size (num (b ⊗ p)) (den (b ⊗ p)) (units_of b * 2 ^ q) (2 ^ 1074) (den_pos (b ⊗ p)) (scaled b F f h).size_is)

  bias_holds_lem : (b : Float) → T (fits binary64 b) → T (finite b) → 4 * (units_of b * 2 ^ q) ≤ 3 * (v * 2 ^ 1074) → bias_holds p b ≡ true
  unfolding cut_of
  bias_holds_lem b F f h =
      is_true (bias_holds p b)
      (and_i (finite (b ⊗ p)) (in_bits 64 (bias_of p b)) (scaled b F f h).is_finite
      (in_bits_signed 64 (is_negative (b ⊗ p)) (num (b ⊗ p) / den (b ⊗ p))
      (subst (λ (n : ℕ). n < 2 ^ 63) (nat_abs_signed (is_negative (b ⊗ p)) (num (b ⊗ p) / den (b ⊗ p))) (bias_room (nat_abs (bias_of p b)) v (2 ^ 1074) (units_of b * 2 ^ q) (pow_pos 1074) (bias_size b F f h) h r.top))))

  -- ---- step 6
  rule_holds : (ws : List Float) (b : Float) → Held ws → Finite ws → T (fits binary64 b) → T (finite b) → length ws ≤ 32 → 4 * (total_units ws * 2 ^ q * M + units_of b * 2 ^ q) ≤ 3 * (v * 2 ^ 1074)
      → admitted W (bias_of p b) (map (weight_of p) ws) ≡ true
  unfolding admitted
  rule_holds ws b h f F g n l =
      is_true (leb (nat_abs (bias_of p b) + M * sum_abs (map (weight_of p) ws)) (limit W))
      (le→leb (nat_abs (bias_of p b) + M * sum_abs (map (weight_of p) ws)) (limit W)
      (all_room (nat_abs (bias_of p b)) (sum_abs (map (weight_of p) ws)) M v (limit W) (2 ^ 1074) (total_units ws * 2 ^ q) (units_of b * 2 ^ q) (length ws) (pow_pos 1074) n
      (bias_size b F g (second (total_units ws * 2 ^ q * M) (units_of b * 2 ^ q) (3 * (v * 2 ^ 1074)) l))
      (weights_size ws h f (first (total_units ws * 2 ^ q * M) (units_of b * 2 ^ q) (3 * (v * 2 ^ 1074)) l))
      l r.sums))

-- ---- from the divisor and the shift to the first part
both_room : (e m b s D c : ℕ) → 8 * (e * m + b) ≤ 9 * D → 3 * (s * D) ≤ 2 * c → 4 * (e * s * m + b * s) ≤ 3 * c
both_room e m b s D c h k =
    le_trans (le_of_eq (ap (λ (z : ℕ). 4 * z) (same e m b s)))
    (go (s * (e * m + b)) (s * D) c (le_trans (le_of_eq (mul_left_comm 8 s (e * m + b))) (le_trans (mul-le-mul_left s h) (le_of_eq (mul_left_comm s 9 D)))) k)
  where
    same : (e m b s : ℕ) → e * s * m + b * s ≡ s * (e * m + b)
    same e m b s = ap₂ (λ (x y : ℕ). x + y) (mul_right_comm e s m ∙ mul_comm (e * m) s) (mul_comm b s) ∙ sym (mul-add s (e * m) b)

    go : (a t c : ℕ) → 8 * a ≤ 9 * t → 3 * t ≤ 2 * c → 4 * a ≤ 3 * c
    go a t c h k = omega arith

-- ---- the theorem: a shift of steps 1 to 4 always leads to a configuration
pub never_refused : (w : Width) (ws : List Float) (centre : ℕ) (c : Float) (s : Shift) (b : Float) → Held ws → length ws ≤ 32 → by s b ≡ scale_of (bits_of w) ws centre c
    → found s (bias_of (float (2 ^ s.0)) b) (map (weight_of (float (2 ^ s.0))) ws) ≡ outcome (bits_of w) ws centre c
unfolding abs_total float_bias quotient
never_refused w ws centre c s b h n e =
    let W = bits_of w in
    let q = s.0 in
    let v = limit_as w in
    let m = room w in
    let bias = float_bias (total ws) centre c in
    let S = abs_total ws in
    let d = divisor W S bias in
    let L = float (limit W) in
    let t = reached W ws centre c s b e in
    let small = (shift_fits W ws centre c s b e).recorded in
    let power = power_not_above W (quotient W d) bias s b t.scale_is in
    let F : T (fits binary64 bias) = add-fits binary64 _ c in
    let f = bias_finite W S bias t.divisor_finite in
    let terms = terms_finite (float 0) ws t.abs_total_finite in
    let u = abs_total_unsigned ws in
    let D = divisor_bounded W ws bias h F m.exact n t.abs_total_finite t.divisor_finite in
    let p = divisor_positive W S bias u t.divisor_finite in
    let shifted = shift_bound L d v D.count q small (limit_float w).above_zero m.value p (divisor_size W S bias u t.divisor_finite) D.counts (quotient_positive w S bias u t.divisor_finite) power.0 in
    let both = both_room (total_units ws) (greatest W) (units_of bias) (2 ^ q) D.count (v * 2 ^ 1074) D.bound shifted in
    let weights = first (total_units ws * 2 ^ q * greatest W) (units_of bias * 2 ^ q) (3 * (v * 2 ^ 1074)) both in
    let rest = second (total_units ws * 2 ^ q * greatest W) (units_of bias * 2 ^ q) (3 * (v * 2 ^ 1074)) both in
    ap (λ (x : Float). found s (bias_of (float (2 ^ q)) x) (map (weight_of (float (2 ^ q))) ws)) power.1
    ∙ sym (is_admitted W ws s bias (weights_hold_lem W v q m small ws h terms weights) (bias_holds_lem W v q m small bias F f rest) (rule_holds W v q m small ws bias h terms F f n both))
    ∙ ap (λ (x : Float). completed W ws (record { shift = s; bias = x })) (sym power.1)
    ∙ sym (past_scale W ws centre c s b e)
