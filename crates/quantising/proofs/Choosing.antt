-- Steps 1 to 4 as the code goes through them: each refusal, and the shift that they choose.
use mathlib.Core.Path.{◌≡◌, sym, ap, ◌∙◌, subst}
use mathlib.Core.Bool.{Bool, true, false, cond, ◌&&◌}
use mathlib.Core.List.{List}
use mathlib.Core.Logic.{⊎_elim}
use Prim.Native.Nat.{ℕ, zero, suc, ◌-◌, ◌≤◌, ◌<◌, min}
use native.Mathlib.Nat.{eq-or-lt_of_le, le_of_suc-le-suc}
use native.Mathlib.Omega.{arith}
use lib.Dec.{T, leb, le→leb}
use lib.Arith.{lt→nleb}
use lib.IntN.{ℤ, pos, negsuc}
use lib.Ieee.{Float, binary64, minus, of_bits}
use lib.Ieee.Bits.{is_true, is_false}
use lib.Ieee.Fits.{and_l, and_r}
use lib.Ieee.Scale.{finite}
use Rattle.floats.specs.Values.{magnitude, exponent_of}
use Rattle.kinds.specs.declared.Shift.{Shift}
use Rattle.record.specs.Widths.{greatest_shift}
use Rattle.rule.specs.Numbers.{greatest, accumulator}
use Rattle.quantising.specs.Scale.{◌⊕◌, ◌⊖◌, ◌⊗◌, float, total, abs_total, float_bias, divisor, quotient, least_shift, by, scale_at, only, scale_of}
use Rattle.quantising.specs.declared.scaling.Scale.{Scale}
use Rattle.std.specs.Prelude.{Option, Some, None}
use Rattle.quantising.proofs.Constants.{one_is}

-- ---- the code's terms, where 1.0 is its bit pattern
abbrev pub one_bits : Float
one_bits = of_bits binary64 0x3ff0_0000_0000_0000

pub bias_is : (T : Float) (centre : ℕ) (c : Float) → (one_bits ⊖ T) ⊗ float centre ⊕ c ≡ float_bias T centre c
unfolding float_bias
bias_is T centre c = ap (λ (one : Float). (one ⊖ T) ⊗ float centre ⊕ c) one_is

pub divisor_is : (W : ℕ) (S m a bias : Float) → m ≡ float (greatest W) → a ≡ magnitude bias → S ⊗ m ⊕ a ⊕ one_bits ≡ divisor W S bias
unfolding divisor
divisor_is W S m a bias e f = ap (λ (one : Float). S ⊗ m ⊕ a ⊕ one) one_is ∙ ap (λ (k : Float). S ⊗ k ⊕ a ⊕ float 1) e ∙ ap (λ (k : Float). S ⊗ float (greatest W) ⊕ k ⊕ float 1) f

-- ---- the shift of step 4
pub record ShiftFits (W q : ℕ) : Type 0 where
  pub recorded : q ≤ greatest_shift
  pub accumulated : q ≤ accumulator W - 1

pub same_some : {A : Type 0} (a b : A) → Some a ≡ Some b → a ≡ b
same_some a b h = cc

pub by_once : (q r : Shift) (a b : Float) → by q a ≡ by r b → (q ≡ r) × (a ≡ b)
by_once q r a b h =
    let e = same_some (record { shift = q; bias = a }) (record { shift = r; bias = b }) h in
    (ap (λ (s : Scale). s.shift) e, ap (λ (s : Scale). s.bias) e)

pub not_by : (q : Shift) (b : Float) → by q b ≡ None → ⊥
not_by q b h = let z : ◌≡◌ {A = ℕ} 0 1 = cc in omega arith

scale_at_fits : (W : ℕ) (e : ℤ) (bias : Float) (q : Shift) (b : Float) → by q b ≡ scale_at W e bias → ShiftFits W q.0
unfolding scale_at
scale_at_fits W (pos (suc less)) bias q b h =
    let e = ap (λ (s : Shift). s.0) (by_once q (least_shift W less) b bias h).0 in
    record { recorded = subst (λ (k : ℕ). k ≤ greatest_shift) (sym e) (first less (accumulator W - 1)); accumulated = subst (λ (k : ℕ). k ≤ accumulator W - 1) (sym e) (second less (accumulator W - 1)) }
  where
    first : (n a : ℕ) → min (min n greatest_shift) a ≤ greatest_shift
    first n a = omega arith

    second : (n a : ℕ) → min (min n greatest_shift) a ≤ a
    second n a = omega arith
scale_at_fits W (pos zero) bias q b h = absurd (not_by q b h)
scale_at_fits W (negsuc n) bias q b h = absurd (not_by q b h)

under_only : (t : Bool) (s : Option Scale) (q : Shift) (b : Float) → by q b ≡ only t s → T t × (by q b ≡ s)
under_only true s q b h = (tt, h)
under_only false s q b h = absurd (not_by q b h)

-- ---- steps 1 and 2
module _ (W : ℕ) (ws : List Float) (centre : ℕ) (c : Float) where
  abbrev bias : Float
  bias = float_bias (total ws) centre c

  abbrev d : Float
  d = divisor W (abs_total ws) bias

  abbrev scale : Option Scale
  scale = scale_at W (exponent_of (quotient W d)) bias

  pub no_total : finite (total ws) ≡ false → None ≡ scale_of W ws centre c
  unfolding scale_of
  no_total h = sym (ap (λ (b : Bool). only (b && finite (abs_total ws)) (only (finite d) scale)) h)

  pub no_abs_total : finite (total ws) ≡ true → finite (abs_total ws) ≡ false → None ≡ scale_of W ws centre c
  unfolding scale_of
  no_abs_total g h = sym (ap (λ (b : Bool). only (b && finite (abs_total ws)) (only (finite d) scale)) g ∙ ap (λ (b : Bool). only b (only (finite d) scale)) h)

  -- past step 1
  past_totals : finite (total ws) ≡ true → finite (abs_total ws) ≡ true → only (finite d) scale ≡ scale_of W ws centre c
  unfolding scale_of
  past_totals g h = sym (ap (λ (b : Bool). only (b && finite (abs_total ws)) (only (finite d) scale)) g ∙ ap (λ (b : Bool). only b (only (finite d) scale)) h)

  pub no_divisor : finite (total ws) ≡ true → finite (abs_total ws) ≡ true → finite d ≡ false → None ≡ scale_of W ws centre c
  no_divisor g h k = sym (ap (λ (b : Bool). only b scale) k) ∙ past_totals g h

  pub past_divisor : finite (total ws) ≡ true → finite (abs_total ws) ≡ true → finite d ≡ true → scale ≡ scale_of W ws centre c
  past_divisor g h k = sym (ap (λ (b : Bool). only b scale) k) ∙ past_totals g h

  -- where there is a shift, every test before it passed
  pub record Reached (q : Shift) (b : Float) : Type 0 where
    pub total_finite : T (finite (total ws))
    pub abs_total_finite : T (finite (abs_total ws))
    pub divisor_finite : T (finite d)
    pub scale_is : by q b ≡ scale

  pub reached : (q : Shift) (b : Float) → by q b ≡ scale_of W ws centre c → Reached q b
  unfolding scale_of
  reached q b h =
      let first = under_only (finite (total ws) && finite (abs_total ws)) (only (finite d) scale) q b h in
      let second = under_only (finite d) scale q b first.1 in
      record { total_finite = and_l (finite (total ws)) (finite (abs_total ws)) first.0; abs_total_finite = and_r (finite (total ws)) (finite (abs_total ws)) first.0; divisor_finite = second.0; scale_is = second.1 }

  pub shift_fits : (q : Shift) (b : Float) → by q b ≡ scale_of W ws centre c → ShiftFits W q.0
  shift_fits q b h = scale_at_fits W (exponent_of (quotient W d)) bias q b (reached q b h).scale_is

-- ---- step 4, with n for e + 1074
minus_low : (n c : ℕ) → n < c → minus n c ≡ negsuc (c - suc n)
minus_low n c h = ap (λ (b : Bool). cond b (pos (n - c)) (negsuc (c - suc n))) (is_false (leb c n) (lt→nleb c n h))

minus_high : (n c : ℕ) → c ≤ n → minus n c ≡ pos (n - c)
minus_high n c h = ap (λ (b : Bool). cond b (pos (n - c)) (negsuc (c - suc n))) (is_true (leb c n) (le→leb c n h))

module _ (W n : ℕ) (bias : Float) where
  pub scale_negative : n < 1075 → None ≡ scale_at W (minus n 1074) bias
  unfolding scale_at
  scale_negative h =
      ⊎_elim
      (λ (e : n ≡ 1074). sym (ap (λ (k : ℕ). scale_at W (minus k 1074) bias) e))
      (λ (l : n < 1074). sym (ap (λ (e : ℤ). scale_at W e bias) (minus_low n 1074 l)))
      (eq-or-lt_of_le (le_of_suc-le-suc h))

  pub scale_by : 1075 ≤ n → by (least_shift W (n - 1075)) bias ≡ scale_at W (minus n 1074) bias
  unfolding scale_at
  scale_by h = sym (ap (λ (e : ℤ). scale_at W e bias) (minus_high n 1074 (weak n h) ∙ ap pos (less n h)))
    where
      weak : (n : ℕ) → 1075 ≤ n → 1074 ≤ n
      weak n h = omega arith

      less : (n : ℕ) → 1075 ≤ n → n - 1074 ≡ suc (n - 1075)
      less n h = omega arith
