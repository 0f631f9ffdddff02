-- The loop is `Chunks`' second part.
use Rattle.std.proofs.Common.{◌≡◌, ◌∙◌, refl, ◌+◌, ◌/◌, ◌≤◌, min, length, arith}
use Rattle.rule.specs.Prediction.{prediction}
use Rattle.predict.specs.Configuration.{config_of}
use Rattle.byte_coding.proofs.Chunks as law
use Rattle.byte_coding.proofs.decoder.decode_chunks.Goals as goal

pub loop-start-init : goal.loop-start-init
loop-start-init g c =
    let none : min 0 (length c.args.piece.now / (g.S.Sample.W / 8)) ≡ 0 = omega arith in
    let begin = law.begin_of g.S.Sample.WIDTH g.met.S.Sample.width_is c.requires.startable.0.full c.requires.entire in
    (refl, rw none (law.begun g.S.Sample.W (prediction g.S.Sample.W (config_of g.S.Sample.integer c.args.config.now)) begin))

pub loop-start-preserved : goal.loop-start-preserved
loop-start-preserved g c =
    let W = g.S.Sample.W in
    let bytes_are = g.met.S.Sample.bytes_are in
    let begin = law.begin_of g.S.Sample.WIDTH g.met.S.Sample.width_is c.requires.startable.0.full c.requires.entire in (
      omega (arith, c.loop-start.invariant.0, c.decode_chunk.auto.room),
      law.step W (prediction W (config_of g.S.Sample.integer c.args.config.now)) begin (c.BYTES-in-loop-start.ensures ∙ bytes_are) (c.BYTES-in-loop-start-2.ensures ∙ bytes_are) (c.BYTES.ensures ∙ bytes_are) 512
          c.loop-start-test.true c.min.ensures c.loop-start.invariant.1 c.decode_chunk.ensures.piece_after c.decode_chunk.ensures.state_after,
    )

pub returns-clause-piece_after : goal.returns-clause-piece_after
returns-clause-piece_after g c =
    let W = g.S.Sample.W in
    let n = length c.args.piece.now / (W / 8) in
    let count : length c.args.piece.now / c.BYTES.result ≡ n = rw (c.BYTES.ensures, g.met.S.Sample.bytes_are) in
    let past : n ≤ min c.loop-start.start n = omega (arith, count, c.loop-start-test.false) in
    let begin = law.begin_of g.S.Sample.WIDTH g.met.S.Sample.width_is c.requires.startable.0.full c.requires.entire in
    (law.ended W (prediction W (config_of g.S.Sample.integer c.args.config.now)) begin c.loop-start.invariant.1 past).0

pub returns-clause-state_after : goal.returns-clause-state_after
returns-clause-state_after g c =
    let W = g.S.Sample.W in
    let n = length c.args.piece.now / (W / 8) in
    let count : length c.args.piece.now / c.BYTES.result ≡ n = rw (c.BYTES.ensures, g.met.S.Sample.bytes_are) in
    let past : n ≤ min c.loop-start.start n = omega (arith, count, c.loop-start-test.false) in
    let begin = law.begin_of g.S.Sample.WIDTH g.met.S.Sample.width_is c.requires.startable.0.full c.requires.entire in
    (law.ended W (prediction W (config_of g.S.Sample.integer c.args.config.now)) begin c.loop-start.invariant.1 past).1

pub returns-2-clause-piece_after : goal.returns-2-clause-piece_after
returns-2-clause-piece_after g c =
    let W = g.S.Sample.W in
    let bytes_are = g.met.S.Sample.bytes_are in
    let n = length c.args.piece.now / (W / 8) in
    let count : length c.args.piece.now / c.BYTES.result ≡ n = rw (c.BYTES.ensures, bytes_are) in
    let past : n ≤ min (c.loop-start.start + 512) n = omega (arith, count) in
    let begin = law.begin_of g.S.Sample.WIDTH g.met.S.Sample.width_is c.requires.startable.0.full c.requires.entire in
    (law.ended W (prediction W (config_of g.S.Sample.integer c.args.config.now)) begin
    (law.step W (prediction W (config_of g.S.Sample.integer c.args.config.now)) begin (c.BYTES-in-loop-start.ensures ∙ bytes_are) (c.BYTES-in-loop-start-2.ensures ∙ bytes_are) (c.BYTES.ensures ∙ bytes_are) 512
    c.loop-start-test.true c.min.ensures c.loop-start.invariant.1 c.decode_chunk.ensures.piece_after c.decode_chunk.ensures.state_after)
    past).0

pub returns-2-clause-state_after : goal.returns-2-clause-state_after
returns-2-clause-state_after g c =
    let W = g.S.Sample.W in
    let bytes_are = g.met.S.Sample.bytes_are in
    let n = length c.args.piece.now / (W / 8) in
    let count : length c.args.piece.now / c.BYTES.result ≡ n = rw (c.BYTES.ensures, bytes_are) in
    let past : n ≤ min (c.loop-start.start + 512) n = omega (arith, count) in
    let begin = law.begin_of g.S.Sample.WIDTH g.met.S.Sample.width_is c.requires.startable.0.full c.requires.entire in
    (law.ended W (prediction W (config_of g.S.Sample.integer c.args.config.now)) begin
    (law.step W (prediction W (config_of g.S.Sample.integer c.args.config.now)) begin (c.BYTES-in-loop-start.ensures ∙ bytes_are) (c.BYTES-in-loop-start-2.ensures ∙ bytes_are) (c.BYTES.ensures ∙ bytes_are) 512
    c.loop-start-test.true c.min.ensures c.loop-start.invariant.1 c.decode_chunk.ensures.piece_after c.decode_chunk.ensures.state_after)
    past).1
