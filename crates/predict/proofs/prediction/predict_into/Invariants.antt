-- The places so far hold the predictions from their windows: `Filling`'s loop.
use Rattle.std.proofs.Common.{ℕ, ◌+◌}
use Rattle.rule.specs.Prediction.{prediction}
use Rattle.rule.specs.Coding.{window}
use Rattle.rule.proofs.Filling as filling
use Rattle.predict.specs.Configuration.{config_of}
use Rattle.predict.proofs.prediction.predict_into.Given as goal

abbrev pub invariant-loop-i : goal.invariant-loop-i
invariant-loop-i g l =
    let k = l.config.order.0 in
    filling.Filled (λ (j : ℕ). prediction g.S.Sample.W (config_of g.S.Sample.integer l.config) (window k (j + k) (g.S.Sample.numbers l.samples)))
    (g.S.Sample.numbers l.initial.predictions) (g.S.Sample.numbers l.predictions) l.i
