-- The loop is `Batches`'.
use Rattle.std.proofs.Common.{◌≡◌, length}
use Rattle.rule.specs.Prediction.{prediction}
use Rattle.predict.specs.Configuration.{config_of}
use Rattle.decoding.proofs.Batches as law
use Rattle.decoding.proofs.general_way.decode_samples.Given as goal

abbrev pub invariant-loop-start : goal.invariant-loop-start
invariant-loop-start g l =
    let numbers = g.S.Sample.numbers in
    (length l.samples ≡ 160)
    × law.Going g.S.Sample.W l.config.order.0 (prediction g.S.Sample.W (config_of g.S.Sample.integer l.config))
    (numbers l.initial.state) (numbers l.initial.piece) (numbers l.state) (numbers l.piece) l.start
