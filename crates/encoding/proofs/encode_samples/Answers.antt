-- A batch that is `Batched` leaves what is `Batched` for the next.
use Rattle.std.proofs.Common.{◌≡◌, ◌∙◌, ap, refl, ◌+◌, ◌≤◌, length, arith}
use Rattle.rule.specs.Prediction.{prediction}
use Rattle.predict.specs.Configuration.{config_of}
use Rattle.sample.proofs.Numbers as numbers
use Rattle.encoding.proofs.Batches as batches
use Rattle.encoding.proofs.Turns as turns
use Rattle.encoding.proofs.encode_samples.Goals as goal

pub loop-start-init : goal.loop-start-init
loop-start-init g c = turns.begin g.met.S.Sample.numbers_are _ _ _ _ _ (ap g.S.Sample.number c.ZERO.ensures ∙ g.met.S.Sample.zero_is)

pub loop-start-preserved : goal.loop-start-preserved
loop-start-preserved g c =
    let l = c.loop-start in
    let whole : l.start + 512 ≡ l.start + c.min.result = omega arith in
    turns.batch g.met.S.Sample.numbers_are g.S.Sample.W c.args.config.now.order.0 (prediction g.S.Sample.W (config_of g.S.Sample.integer c.args.config.now)) c.args.samples.now
    l.samples l.predictions c.predict_into.new.predictions c.take_residuals.new.samples c.hold_over.new.predictions
    l.start c.min.result c.predicted_ahead.result (l.start + 512)
    l.invariant c.requires.few c.loop-start-test.true whole c.min.ensures c.predicted_ahead.ensures
    c.predict_into.ensures c.take_residuals.ensures c.hold_over.ensures

pub returns : goal.returns
returns g c = batches.whole g.S.Sample.W _ _ _ c.loop-start.invariant (rw (numbers.numbers-length g.met.S.Sample.numbers_are c.args.samples.now) c.loop-start-test.false)

pub returns-2 : goal.returns-2
returns-2 g c =
    let l = c.loop-start in
    let are = g.met.S.Sample.numbers_are in
    let p = prediction g.S.Sample.W (config_of g.S.Sample.integer c.args.config.now) in
    let all : length c.args.samples.now ≤ l.start + c.min.result = omega arith in
    batches.whole g.S.Sample.W c.args.config.now.order.0 p (g.S.Sample.numbers c.args.samples.now) (
    turns.batch are g.S.Sample.W c.args.config.now.order.0 p c.args.samples.now
    l.samples l.predictions c.predict_into.new.predictions c.take_residuals.new.samples c.hold_over.new.predictions
    l.start c.min.result c.predicted_ahead.result (l.start + c.min.result)
    l.invariant c.requires.few c.loop-start-test.true refl c.min.ensures c.predicted_ahead.ensures
    c.predict_into.ensures c.take_residuals.ensures c.hold_over.ensures
    ) (rw (numbers.numbers-length are c.args.samples.now) all)
