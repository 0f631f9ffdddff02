-- The running sums and the batches of one go on together.
use Rattle.std.proofs.Common.{length, map}
use Rattle.rule.specs.Configuration.{held}
use Rattle.rule.specs.Prediction.{prediction}
use Rattle.rule.specs.Coding.{toggled}
use Rattle.decoding.specs.Running.{Runs}
use Rattle.decoding.proofs.Batches as batches
use Rattle.decoding.proofs.Turning as turning
use Rattle.decoding.proofs.order_six.decode_residuals.Given as goal

abbrev pub invariant-loop-i : goal.invariant-loop-i
invariant-loop-i g l =
    let W = g.S.Sample.W in
    let numbers = g.S.Sample.numbers in
    let bias = g.S.Sample.wide l.six.bias in
    let weights = map g.S.Sample.wide l.six.weights in
    Runs W bias weights (numbers l.running.samples) (map g.S.Sample.wide l.running.sums)
    × batches.Going W (length weights) (prediction W (held l.six.shift bias weights)) (numbers l.state) (map (toggled W) (numbers l.initial.residuals)) (numbers l.running.samples) (turning.mixed W l.i (numbers l.residuals)) l.i
