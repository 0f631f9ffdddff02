-- The samples so far have come one after another, behind six zeros, and the sums run over them.
use Rattle.std.proofs.Common.{◌≡◌, map, take}
use Rattle.decoding.specs.Running.{Runs, six}
use Rattle.decoding.proofs.Running.{come}
use Rattle.decoding.proofs.order_six.begun.Given as goal

abbrev pub invariant-loop-sample : goal.invariant-loop-sample
invariant-loop-sample g l =
    let numbers = g.S.Sample.numbers in
    let wide = g.S.Sample.wide in
    Runs g.S.Sample.W (wide l.six.bias) (map wide l.six.weights) (numbers l.running.samples) (map wide l.running.sums)
    × (numbers l.running.samples ≡ come (six 0 0 0 0 0 0) (take l.sample-index (numbers l.state)))
