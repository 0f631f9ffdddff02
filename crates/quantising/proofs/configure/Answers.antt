-- Steps 5 and 6 in their order, from the shift and the float bias of `choose_scale`.
use Rattle.std.proofs.Common.{◌≡◌, sym, ap₂, ◌∙◌, subst, false, List, ℕ, ◌≤◌, ℤ, to_z, of_z, w64}
use native.Mathlib.Nat.{lt_of_le_of_lt}
use lib.Dec.{lit<}
use mir.Val.{SFits}
use Rattle.std.proofs.Math.Facts.{to_z-of_z}
use Rattle.std.specs.Float.{Float}
use Rattle.floats.proofs.Holding.{Handed, handed, outside, holds_mag}
use Rattle.kinds.specs.Widths.{bits_of}
use Rattle.kinds.specs.declared.Shift.{Shift}
use Rattle.record.specs.Widths.{greatest_shift}
use Rattle.rule.specs.Prediction.{admitted}
use Rattle.quantising.specs.Scale.{◌⊗◌, by, scale_of}
use Rattle.quantising.specs.Steps.{weights_hold, bias_of, bias_holds, found}
use Rattle.quantising.specs.Stages.{RoundedTo}
use Rattle.quantising.proofs.Choosing.{shift_fits}
use Rattle.quantising.proofs.Completing.{power_exact, power_is, no_scale, past_scale, no_weights_lem, no_bias, not_admitted, is_admitted}
use Rattle.quantising.proofs.configure.Goals as goal

small : (W centre : ℕ) (ws : List Float) (c : Float) (q : Shift) (b : Float) → by q b ≡ scale_of W ws centre c → q.0 ≤ greatest_shift
small W centre ws c q b h = (shift_fits W ws centre c q b h).recorded

-- a bias that is handed out is the same in 64 bits
kept : (x : Float) (z v : ℤ) → Handed 64 x z v → to_z w64 (of_z w64 v) ≡ z
kept x z v h =
    let fits : SFits w64 v = record { sfits = rw h.is (holds_mag 64 x z h.fits) } in
    to_z-of_z {w = w64} fits ∙ h.is

pub returns-in_err-scale : goal.returns-in_err-scale
returns-in_err-scale c = rw c.from_residual.ensures (no_scale _ _ _ _ c.in_err-scale.ensures)

pub overflow_shl-factor : goal.overflow_shl-factor
overflow_shl-factor c = lt_of_le_of_lt (small _ _ _ _ _ _ c.in_ok-scale.ensures) (lit< tt)

pub int_to_float-factor : goal.int_to_float-factor
int_to_float-factor c = power_exact c.in_ok-scale.scale.shift.0 (small _ _ _ _ _ _ c.in_ok-scale.ensures)

pub returns-in_err-rounded : goal.returns-in_err-rounded
returns-in_err-rounded c =
    let ws = c.args.weights.now in
    let s = c.in_ok-scale.scale in
    let e = power_is s.shift.0 (small _ _ _ _ _ _ c.in_ok-scale.ensures) in
    rw c.from_residual-in_err-rounded.ensures
    (past_scale _ _ _ _ _ _ c.in_ok-scale.ensures ∙ no_weights_lem _ ws s.shift s.bias (subst (λ (p : Float). weights_hold p ws ≡ false) e c.in_err-rounded.ensures))

pub returns-in_err-bias : goal.returns-in_err-bias
returns-in_err-bias c =
    let ws = c.args.weights.now in
    let s = c.in_ok-scale.scale in
    let e = power_is s.shift.0 (small _ _ _ _ _ _ c.in_ok-scale.ensures) in
    let made = subst (λ (p : Float). RoundedTo p ws c.in_ok-rounded.rounded) e c.in_ok-rounded.ensures in
    rw c.from_residual-in_err-bias.ensures
    (past_scale _ _ _ _ _ _ c.in_ok-scale.ensures
    ∙ no_bias _ ws s.shift s.bias made.fit (subst (λ (p : Float). bias_holds p s.bias ≡ false) e (outside 64 _ _ c.in_err-bias.ensures)))

pub returns-then-not-is_admitted : goal.returns-then-not-is_admitted
returns-then-not-is_admitted c =
    let ws = c.args.weights.now in
    let s = c.in_ok-scale.scale in
    let v = c.in_ok-bias.bias in
    let e = power_is s.shift.0 (small _ _ _ _ _ _ c.in_ok-scale.ensures) in
    let made = subst (λ (p : Float). RoundedTo p ws c.in_ok-rounded.rounded) e c.in_ok-rounded.ensures in
    let rule = subst (λ (p : Float). Handed 64 (s.bias ⊗ p) (bias_of p s.bias) v) e (handed 64 _ _ v c.in_ok-bias.ensures) in
    past_scale _ _ _ _ _ _ c.in_ok-scale.ensures
    ∙ not_admitted _ ws s.shift s.bias made.fit rule.fits
    (sym (ap₂ (admitted (bits_of c.args.width)) (kept _ _ _ rule) made.values) ∙ sym c.is_admitted.ensures ∙ c.if-not-is_admitted.true)

pub returns : goal.returns
returns c =
    let ws = c.args.weights.now in
    let s = c.in_ok-scale.scale in
    let v = c.in_ok-bias.bias in
    let e = power_is s.shift.0 (small _ _ _ _ _ _ c.in_ok-scale.ensures) in
    let made = subst (λ (p : Float). RoundedTo p ws c.in_ok-rounded.rounded) e c.in_ok-rounded.ensures in
    let rule = subst (λ (p : Float). Handed 64 (s.bias ⊗ p) (bias_of p s.bias) v) e (handed 64 _ _ v c.in_ok-bias.ensures) in
    past_scale _ _ _ _ _ _ c.in_ok-scale.ensures
    ∙ is_admitted _ ws s.shift s.bias made.fit rule.fits
    (sym (ap₂ (admitted (bits_of c.args.width)) (kept _ _ _ rule) made.values) ∙ sym c.is_admitted.ensures ∙ c.if-not-is_admitted.false)
    ∙ sym (ap₂ (found s.shift) (kept _ _ _ rule) made.values)
