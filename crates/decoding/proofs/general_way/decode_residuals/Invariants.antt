-- The loop is `Residuals`'.
use Rattle.std.proofs.Common.{◌≡◌, length}
use Rattle.rule.specs.Prediction.{prediction}
use Rattle.predict.specs.Configuration.{config_of}
use Rattle.decoding.proofs.Residuals as law
use Rattle.decoding.proofs.general_way.decode_residuals.Given as goal

abbrev pub invariant-loop-i : goal.invariant-loop-i
invariant-loop-i g l =
    let numbers = g.S.Sample.numbers in
    (length l.samples ≡ length l.initial.samples)
    × law.Holds g.S.Sample.W l.config.order.0 (prediction g.S.Sample.W (config_of g.S.Sample.integer l.config))
    (numbers l.initial.samples) (numbers l.initial.residuals) (numbers l.samples) (numbers l.residuals) l.i
