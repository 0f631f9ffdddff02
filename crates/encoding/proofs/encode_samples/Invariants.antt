-- What holds before each batch: `Batches`'s loop, of the samples' numbers.
use Rattle.rule.specs.Prediction.{prediction}
use Rattle.predict.specs.Configuration.{config_of}
use Rattle.encoding.proofs.Batches.{Batched}
use Rattle.encoding.proofs.encode_samples.Given as goal

abbrev pub invariant-loop-start : goal.invariant-loop-start
invariant-loop-start g l =
    Batched g.S.Sample.W l.config.order.0 (prediction g.S.Sample.W (config_of g.S.Sample.integer l.config)) (g.S.Sample.numbers l.initial.samples)
    (g.S.Sample.numbers l.samples) (g.S.Sample.numbers l.predictions) l.start
