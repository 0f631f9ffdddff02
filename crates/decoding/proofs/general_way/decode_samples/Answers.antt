-- The loop is `Batches`'.
use Rattle.std.proofs.Common.{refl, ◌+◌, arith, rules}
use Rattle.sample.proofs.Sizes.{size_at_most}
use Rattle.predict.specs.Configuration.{config_of}
use Rattle.decoding.proofs.Batches as law
use Rattle.decoding.proofs.Turns as turns
use Rattle.decoding.proofs.general_way.decode_samples.Goals as goal

pub loop-start-init : goal.loop-start-init
loop-start-init g c = (refl, law.begun g.S.Sample.W _ _ (g.S.Sample.numbers c.args.state.now) (g.S.Sample.numbers c.args.piece.now) c.requires.full)

pub whole_as_slice-decode_batch : goal.whole_as_slice-decode_batch
whole_as_slice-decode_batch g c =
    let small = size_at_most g.S.Sample.WIDTH g.met.S.Sample.width_is g.met.S.Sample.size_is in
    omega (arith, small)

pub loop-start-preserved : goal.loop-start-preserved
loop-start-preserved g c =
    let l = c.loop-start in (
      search rules,
      turns.turn g.met.S.Sample.numbers_are g.S.Sample.W (config_of g.S.Sample.integer c.args.config.now) (l.start + c.min.result) (l.start + 128)
          c.requires.full l.invariant.1 (omega arith) (omega arith) (omega arith) c.decode_batch.ensures,
    )

pub returns : goal.returns
returns g c = turns.done g.met.S.Sample.numbers_are g.S.Sample.W (config_of g.S.Sample.integer c.args.config.now) c.requires.full c.loop-start.invariant.1 c.loop-start-test.false

pub returns-2 : goal.returns-2
returns-2 g c =
    let l = c.loop-start in
    let end = l.start + c.min.result in
    let config = config_of g.S.Sample.integer c.args.config.now in
    turns.done g.met.S.Sample.numbers_are g.S.Sample.W config c.requires.full
    (turns.turn g.met.S.Sample.numbers_are g.S.Sample.W config end end c.requires.full l.invariant.1 (omega arith) (omega arith) refl c.decode_batch.ensures)
    (omega arith)
