-- A weight that is outside 32 bits decides that not all fit; one that is inside is the next of the integers.
use Rattle.std.proofs.Common.{◌≡◌, sym, ap, ◌∙◌, Bool, false, ◌&&◌, ◌+◌, ℤ, arith, get_or, drop, to_z, of_z, w32, w64}
use Rattle.std.specs.Float.{Float}
use Rattle.std.specs.Float.Ieee.{nan}
use Rattle.std.proofs.Math.ListN.{length-set}
use Rattle.std.proofs.Math.Facts.{to_z-of_z, sfits_widen}
use mir.Val.{SFits}
use Rattle.floats.specs.Integers.{rounded_of, holds}
use Rattle.floats.proofs.Holding.{Handed, handed, outside, holds_mag}
use Rattle.quantising.specs.Scale.{◌⊗◌}
use Rattle.quantising.specs.Steps.{weights_hold}
use Rattle.quantising.proofs.Turns.{hold_turn, round_turn}
use Rattle.quantising.proofs.round_weights.Goals as goal

-- the integer v that is handed out for x passes both casts as it is
module _ (x : Float) (v : ℤ) (rule : Handed 32 x (rounded_of x) v) where
  fits_32 : SFits w32 v
  fits_32 = record { sfits = rw rule.is (holds_mag 32 x (rounded_of x) rule.fits) }

  fits_64 : SFits w64 v
  fits_64 = sfits_widen tt fits_32

  back : to_z w32 (of_z w32 (to_z w64 (of_z w64 v))) ≡ v
  back = rw (to_z-of_z {w = w64} fits_64, to_z-of_z {w = w32} fits_32)

pub returns-in_err-rounded : goal.returns-in_err-rounded
returns-in_err-rounded c =
    let l = c.loop-i in
    let ws = c.args.weights.now in
    let p = c.args.factor in
    let x = get_or ws l.i nan ⊗ p in
    let out : holds 32 x (rounded_of x) ≡ false = outside 32 x (rounded_of x) c.in_err-rounded.ensures in
    rw c.from_residual.ensures
    (sym l.invariant.fits ∙ hold_turn ws l.i c.loop-i-test.true p ∙ ap (λ (b : Bool). b && weights_hold p (drop (l.i + 1) ws)) out)

pub overflow_cast-rounded : goal.overflow_cast-rounded
overflow_cast-rounded c =
    let x = get_or c.args.weights.now c.loop-i.i nan ⊗ c.args.factor in
    let v = c.in_ok-rounded.field-0 in
    let rule = handed 32 x (rounded_of x) v c.in_ok-rounded.ensures in
    rw (to_z-of_z {w = w64} (fits_64 x v rule)) (fits_32 x v rule)

pub loop-i-preserved : goal.loop-i-preserved
loop-i-preserved c =
    let l = c.loop-i in
    let ws = c.args.weights.now in
    let p = c.args.factor in
    let x = get_or ws l.i nan ⊗ p in
    let v = c.in_ok-rounded.field-0 in
    let rule = handed 32 x (rounded_of x) v c.in_ok-rounded.ensures in
    let kept = to_z w32 (of_z w32 (to_z w64 (of_z w64 v))) in
    let more = c.loop-i-test.true in
    record {
      places = length-set l.rounded l.i kept ∙ l.invariant.places;
      fits = sym (hold_turn ws l.i more p ∙ ap (λ (b : Bool). b && weights_hold p (drop (l.i + 1) ws)) rule.fits) ∙ l.invariant.fits;
      values = round_turn ws l.i more p l.rounded kept (omega arith) (back x v rule ∙ rule.is) ∙ l.invariant.values;
    }
