-- Each place is filled with its residual, from a sample that is not coded yet.
use Rattle.std.proofs.Common.{ap₂, ◌∙◌, sym, arith}
use Rattle.rule.specs.Coding.{residual}
use Rattle.rule.proofs.Filling as filling
use Rattle.sample.proofs.Numbers as numbers
use Rattle.encoding.proofs.take_residuals.Goals as goal

pub loop-i-preserved : goal.loop-i-preserved
loop-i-preserved g c =
    let are = g.met.S.Sample.numbers_are in
    let l = c.loop-i in
    let sample = numbers.numbers-at are l.samples l.i 0 (omega arith) c.index-samples-i.is in
    let prediction = numbers.numbers-at are c.args.predictions.now l.i 0 (omega arith) c.index-predictions-i.is in
    rw (numbers.numbers-set are) (
    filling.fill_turn 0 (omega (arith, filling.fill_length l.invariant, numbers.numbers-length are l.samples))
    (c.residual_of.ensures ∙ ap₂ (residual g.S.Sample.W) (sym sample ∙ filling.fill_rest l.i 0 l.invariant (omega arith)) (sym prediction))
    l.invariant
    )

pub returns : goal.returns
returns g c =
    let are = g.met.S.Sample.numbers_are in
    let l = c.loop-i in
    filling.fill_end l.invariant (omega (arith, filling.fill_length l.invariant, numbers.numbers-length are l.samples)) ∙ rw (numbers.numbers-length are c.args.samples.now)
