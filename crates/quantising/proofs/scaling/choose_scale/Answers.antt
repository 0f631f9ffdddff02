-- The code goes through steps 1 to 4 in their order, and the quotient of step 3 has an exponent.
use Rattle.std.proofs.Common.{◌≡◌, sym, ap, ap₂, ◌∙◌, subst, T, List, ℕ, ℤ, ◌-◌, min}
use native.Mathlib.Nat.{lt_of_not-le}
use Rattle.std.specs.Float.{Float}
use Rattle.std.specs.Float.Ieee.Positive.{positive}
use Rattle.std.specs.Float.Ieee.Scale.{finite}
use Rattle.floats.specs.Values.{magnitude, exponent_of}
use Rattle.floats.proofs.Patterns.{yes}
use Rattle.kinds.specs.Widths.{bits_of}
use Rattle.record.specs.Widths.{greatest_shift}
use Rattle.rule.specs.Numbers.{greatest, accumulator, limit}
use Rattle.quantising.specs.Scale.{◌⊕◌, ◌⊗◌, ◌⊖◌, ◌⊘◌, float, total, abs_total, float_bias, divisor, quotient, by, scale_at}
use Rattle.quantising.proofs.Unsigned.{abs_total_unsigned}
use Rattle.quantising.proofs.Divisors.{quotient_positive}
use Rattle.quantising.proofs.Choosing.{one_bits, bias_is, divisor_is, no_total, no_abs_total, no_divisor, past_divisor, scale_negative, scale_by}
use Rattle.quantising.proofs.scaling.choose_scale.Goals as goal

-- a test of x, which is the definition's y
tested : {x y : Float} {t : _} → x ≡ y → finite x ≡ t → finite y ≡ t
tested e f = sym (ap finite e) ∙ f

-- the code's terms, for its sums s and S and its centre f
module _ (W centre : ℕ) (ws : List Float) (c s S f : Float) (sum : s ≡ total ws) (abs_sum : S ≡ abs_total ws) (from : f ≡ float centre) where
  bias_at : (one_bits ⊖ s) ⊗ f ⊕ c ≡ float_bias (total ws) centre c
  bias_at = ap₂ (λ (x y : Float). (one_bits ⊖ x) ⊗ y ⊕ c) sum from ∙ bias_is (total ws) centre c

  divisor_at : (m a : Float) → m ≡ float (greatest W) → a ≡ magnitude ((one_bits ⊖ s) ⊗ f ⊕ c)
      → S ⊗ m ⊕ a ⊕ one_bits ≡ divisor W (abs_total ws) (float_bias (total ws) centre c)
  divisor_at m a e g =
      divisor_is W S m a (float_bias (total ws) centre c) e (g ∙ ap magnitude bias_at)
      ∙ ap (λ (t : Float). divisor W t (float_bias (total ws) centre c)) abs_sum

quotient_at : (W : ℕ) (x y d : Float) → x ≡ float (limit W) → y ≡ d → x ⊘ y ≡ quotient W d
unfolding quotient
quotient_at W x y d e f = ap₂ (λ (p q : Float). p ⊘ q) e f

pub returns-in_err-sum : goal.returns-in_err-sum
returns-in_err-sum c = c.from_residual.ensures ∙ no_total _ _ _ _ (tested c.total.ensures c.in_err-sum.ensures)

pub returns-in_err-abs_sum : goal.returns-in_err-abs_sum
returns-in_err-abs_sum c =
    c.from_residual-in_err-abs_sum.ensures
    ∙ no_abs_total _ _ _ _ (tested c.total.ensures c.in_ok-sum.ensures.1) (tested c.abs_total.ensures c.in_err-abs_sum.ensures)

pub returns-in_err-divisor : goal.returns-in_err-divisor
returns-in_err-divisor c =
    let s = c.in_ok-sum.ensures.0 ∙ c.total.ensures in
    let S = c.in_ok-abs_sum.ensures.0 ∙ c.abs_total.ensures in
    c.from_residual-in_err-divisor.ensures
    ∙ no_divisor _ _ _ _ (tested c.total.ensures c.in_ok-sum.ensures.1) (tested c.abs_total.ensures c.in_ok-abs_sum.ensures.1)
    (tested (divisor_at _ _ _ _ _ _ _ s S c.from.ensures _ _ (c.nearest_u64_to_f64-greatest.ensures ∙ ap float c.greatest_sample.ensures) c.abs.ensures.value) c.in_err-divisor.ensures)

pub exponent-requires : goal.exponent-requires
exponent-requires c =
    let W = bits_of c.args.width in
    let ws = c.args.weights.now in
    let s = c.in_ok-sum.ensures.0 ∙ c.total.ensures in
    let S = c.in_ok-abs_sum.ensures.0 ∙ c.abs_total.ensures in
    let d = divisor_at W _ ws _ _ _ _ s S c.from.ensures _ _ (c.nearest_u64_to_f64-greatest.ensures ∙ ap float c.greatest_sample.ensures) c.abs.ensures.value in
    let L = c.nearest_u64_to_f64-limit.ensures ∙ ap float c.accumulator_limit.ensures in
    subst (λ (x : Float). T (positive x)) (sym (quotient_at W _ _ _ L (c.in_ok-divisor.ensures.0 ∙ d)))
    (quotient_positive c.args.width _ _ (abs_total_unsigned ws) (yes (tested d c.in_ok-divisor.ensures.1)))

pub returns-in_err-less : goal.returns-in_err-less
returns-in_err-less c =
    let W = bits_of c.args.width in
    let ws = c.args.weights.now in
    let s = c.in_ok-sum.ensures.0 ∙ c.total.ensures in
    let S = c.in_ok-abs_sum.ensures.0 ∙ c.abs_total.ensures in
    let d = divisor_at W _ ws _ _ _ _ s S c.from.ensures _ _ (c.nearest_u64_to_f64-greatest.ensures ∙ ap float c.greatest_sample.ensures) c.abs.ensures.value in
    let L = c.nearest_u64_to_f64-limit.ensures ∙ ap float c.accumulator_limit.ensures in
    let bias = float_bias (total ws) c.args.centre c.args.centred_bias in
    c.from_residual-in_err-less.ensures
    ∙ scale_negative W c.exponent.result bias (lt_of_not-le c.in_err-less.ensures)
    ∙ ap (λ (e : ℤ). scale_at W e bias) (c.exponent.ensures ∙ ap exponent_of (quotient_at W _ _ _ L (c.in_ok-divisor.ensures.0 ∙ d)))
    ∙ past_divisor _ _ _ _ (tested c.total.ensures c.in_ok-sum.ensures.1) (tested c.abs_total.ensures c.in_ok-abs_sum.ensures.1) (tested d c.in_ok-divisor.ensures.1)

pub returns : goal.returns
returns c =
    let W = bits_of c.args.width in
    let ws = c.args.weights.now in
    let s = c.in_ok-sum.ensures.0 ∙ c.total.ensures in
    let S = c.in_ok-abs_sum.ensures.0 ∙ c.abs_total.ensures in
    let d = divisor_at W _ ws _ _ _ _ s S c.from.ensures _ _ (c.nearest_u64_to_f64-greatest.ensures ∙ ap float c.greatest_sample.ensures) c.abs.ensures.value in
    let L = c.nearest_u64_to_f64-limit.ensures ∙ ap float c.accumulator_limit.ensures in
    let bias = float_bias (total ws) c.args.centre c.args.centred_bias in
    let least : c.min-shift.result ≡ min (min (c.exponent.result - 1075) greatest_shift) (accumulator W - 1) =
    c.min-shift.ensures ∙ ap₂ min (c.min-recorded.ensures ∙ ap₂ min c.in_ok-less.ensures.1 c.from-2.ensures) (c.from-3.ensures ∙ ap (λ (A : ℕ). A - 1) c.accumulator_bits.ensures) in
    ap₂ (λ (n : ℕ). by (record { 0 = n })) least (bias_at W _ ws _ _ _ _ s S c.from.ensures)
    ∙ scale_by W c.exponent.result bias c.in_ok-less.ensures.0
    ∙ ap (λ (e : ℤ). scale_at W e bias) (c.exponent.ensures ∙ ap exponent_of (quotient_at W _ _ _ L (c.in_ok-divisor.ensures.0 ∙ d)))
    ∙ past_divisor _ _ _ _ (tested c.total.ensures c.in_ok-sum.ensures.1) (tested c.abs_total.ensures c.in_ok-abs_sum.ensures.1) (tested d c.in_ok-divisor.ensures.1)
