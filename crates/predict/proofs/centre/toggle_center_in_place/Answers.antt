-- A turn toggles the next place; at the end that is all of them.
use Rattle.std.proofs.Common.{ap, ◌∙◌, sym, arith}
use Rattle.rule.specs.Coding.{toggled}
use Rattle.rule.proofs.Filling as filling
use Rattle.sample.proofs.Numbers as numbers
use Rattle.predict.proofs.Toggling.{all_toggled}
use Rattle.predict.proofs.centre.toggle_center_in_place.Goals as goal

pub loop-i-preserved : goal.loop-i-preserved
loop-i-preserved g c =
    let are = g.met.S.Sample.numbers_are in
    let l = c.loop-i in
    let from = numbers.numbers-at are l.numbers l.i 0 (omega arith) c.index-numbers-i.is in
    rw (numbers.numbers-set are) (
    filling.fill_turn 0 (omega (arith, filling.fill_length l.invariant, numbers.numbers-length are l.numbers))
    (c.toggle_center.ensures ∙ ap (toggled g.S.Sample.W) (sym from ∙ filling.fill_rest l.i 0 l.invariant (omega arith)))
    l.invariant
    )

pub returns : goal.returns
returns g c =
    let are = g.met.S.Sample.numbers_are in
    let l = c.loop-i in
    filling.fill_end l.invariant (omega (arith, filling.fill_length l.invariant, numbers.numbers-length are l.numbers)) ∙ all_toggled g.S.Sample.W (g.S.Sample.numbers c.args.numbers.now)
