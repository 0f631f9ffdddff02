-- Every lent float is in its place at the end.
use Rattle.std.proofs.Common.{◌≡◌, ◌∙◌, refl, arith, length, drop}
use Rattle.std.proofs.Math.ListN.{length-set}
use Rattle.std.proofs.Math.Seq.{take_at, take-length}
use Rattle.std.specs.Float.Ieee.{nan}
use Rattle.rule.proofs.Filling.{fill_turn, fill_copied}
use Rattle.quantising.proofs.lent.held.Goals as goal

pub loop-i-preserved : goal.loop-i-preserved
loop-i-preserved c =
    let l = c.loop-i in
    (omega arith, length-set l.weights l.i _ ∙ l.invariant.1, fill_turn nan (omega arith) refl l.invariant.2)

pub returns : goal.returns
returns c =
    let l = c.loop-i in
    let fitted = c.args.fitted.now in
    let e : l.i ≡ length fitted = omega arith in
    rw (fill_copied fitted nan l.invariant.0 l.invariant.2, e, take-length, take_at fitted (drop (length fitted) _) (length fitted) refl)
