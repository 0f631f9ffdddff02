-- A turn fills the next place with the prediction from its window, which is a part of the samples.
use Rattle.std.proofs.Common.{◌∙◌, ap, List, ℕ, length, ◌+◌, ◌-◌, ◌<◌, arith}
use Rattle.rule.specs.Prediction.{prediction}
use Rattle.rule.proofs.Filling as filling
use Rattle.rule.proofs.Windows.{window_part}
use Rattle.sample.proofs.Numbers as numbers
use Rattle.predict.specs.Configuration.{config_of}
use Rattle.predict.proofs.prediction.predict_into.Goals as goal

pub loop-i-preserved : goal.loop-i-preserved
loop-i-preserved g c =
    let are = g.met.S.Sample.numbers_are in
    let k = c.args.config.now.order.0 in
    let l = c.loop-i in
    let to_fill : l.i < length (g.S.Sample.numbers c.args.predictions.now) = omega (arith, filling.fill_length l.invariant, numbers.numbers-length are l.predictions) in
    rw (numbers.numbers-set are) (
    filling.fill_turn 0 to_fill
    (c.predict_one.ensures ∙ ap (λ (xs : List ℕ). prediction g.S.Sample.W (config_of g.S.Sample.integer c.args.config.now) xs) (numbers.numbers-part are (l.i + k - l.i) l.i c.args.samples.now ∙ window_part k l.i (g.S.Sample.numbers c.args.samples.now)))
    l.invariant
    )

pub returns : goal.returns
returns g c =
    let are = g.met.S.Sample.numbers_are in
    let l = c.loop-i in
    let old = c.args.predictions.now in
    filling.fill_end l.invariant (omega (arith, filling.fill_length l.invariant, numbers.numbers-length are l.predictions)) ∙ rw (numbers.numbers-length are old)
