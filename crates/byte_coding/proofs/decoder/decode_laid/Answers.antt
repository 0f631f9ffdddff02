-- A refusal leaves everything; otherwise the state is loaded, the chunks decode the piece, and the state is stored again.
use Rattle.std.proofs.Common.{◌∙◌, rules, refl, sym, ap, ◌*◌, ◌/◌, ℕ, drop, arith}
use Rattle.std.proofs.Math.Seq.{take_at}
use Rattle.rule.specs.Configuration.{given}
use Rattle.sample.proofs.Numbers as numbers
use Rattle.sample.proofs.Sizes.{size_at_most}
use Rattle.predict.proofs.Room.{room}
use Rattle.byte_coding.specs.Bytes.{samples_in, samples_bytes}
use Rattle.byte_coding.proofs.Leaving.{decode_refused, decode_done}
use Rattle.byte_coding.proofs.Chunks as chunks
use Rattle.byte_coding.proofs.Behind as law
use Rattle.byte_coding.proofs.decoder.decode_laid.Goals as goal

pub returns-in_err-answer_by : goal.returns-in_err-answer_by
returns-in_err-answer_by g c =
    decode_refused c.args.way g.S.Sample.W (given c.args.config) c.args.state.now c.args.piece.now
    (law.decode_said g.S.Sample.WIDTH g.met.S.Sample.width_is (c.BYTES.ensures ∙ g.met.S.Sample.bytes_are) c.args.way (given c.args.config) c.args.state.now (search rules))
    (search rules)

pub load-requires : goal.load-requires
load-requires g c =
    let p = law.decodable g.S.Sample.WIDTH g.met.S.Sample.width_is (c.BYTES.ensures ∙ g.met.S.Sample.bytes_are) c.args.way (given c.args.config) c.args.state.now (search rules) in
    omega (arith, p.counted, p.ready.few)

pub conv-requires : goal.conv-requires
conv-requires g c =
    let p = law.decodable g.S.Sample.WIDTH g.met.S.Sample.width_is (c.BYTES.ensures ∙ g.met.S.Sample.bytes_are) c.args.way (given c.args.config) c.args.state.now (search rules) in
    (room g.S.Sample.WIDTH g.met.S.Sample.width_is g.met.S.Sample.conv_size_is g.met.S.Sample.conv_align_is, p.ready)

pub whole_as_front-decode_chunks : goal.whole_as_front-decode_chunks
whole_as_front-decode_chunks g c =
    let small = size_at_most g.S.Sample.WIDTH g.met.S.Sample.width_is g.met.S.Sample.size_is in
    let p = law.decodable g.S.Sample.WIDTH g.met.S.Sample.width_is (c.BYTES.ensures ∙ g.met.S.Sample.bytes_are) c.args.way (given c.args.config) c.args.state.now (search rules) in
    (p.ready.few, omega (arith, small))

pub decode_chunks-requires : goal.decode_chunks-requires
decode_chunks-requires g c =
    let p = law.decodable g.S.Sample.WIDTH g.met.S.Sample.width_is (c.BYTES.ensures ∙ g.met.S.Sample.bytes_are) c.args.way (given c.args.config) c.args.state.now (search rules) in
    let front = numbers.numbers-take g.met.S.Sample.numbers_are c.args.config.order.0 c.load.new.to ∙ law.front p _ c.load.ensures in
    (room g.S.Sample.WIDTH g.met.S.Sample.width_is g.met.S.Sample.conv_size_is g.met.S.Sample.conv_align_is, (law.startable p c.conv.ensures.result_value front, c.requires.1))

pub store-requires : goal.store-requires
store-requires g c =
    let p = law.decodable g.S.Sample.WIDTH g.met.S.Sample.width_is (c.BYTES.ensures ∙ g.met.S.Sample.bytes_are) c.args.way (given c.args.config) c.args.state.now (search rules) in
    let front = numbers.numbers-take g.met.S.Sample.numbers_are c.args.config.order.0 c.load.new.to ∙ law.front p _ c.load.ensures in
    let out = c.decode_chunks.new.state in
    let piece = samples_in g.S.Sample.W c.args.piece.now in
    let long = law.out_long p c.conv.ensures.result_value front piece c.decode_chunks.ensures.state_after in
    let stored = take_at out (drop c.args.config.order.0 c.load.new.to) c.args.config.order.0 (sym (numbers.numbers-length g.met.S.Sample.numbers_are out) ∙ long) in
    rw (stored, sym (numbers.numbers-length g.met.S.Sample.numbers_are out) ∙ long) (omega (arith, law.whole p c.requires.0))

pub returns : goal.returns
returns g c =
    let p = law.decodable g.S.Sample.WIDTH g.met.S.Sample.width_is (c.BYTES.ensures ∙ g.met.S.Sample.bytes_are) c.args.way (given c.args.config) c.args.state.now (search rules) in
    let front = numbers.numbers-take g.met.S.Sample.numbers_are c.args.config.order.0 c.load.new.to ∙ law.front p _ c.load.ensures in
    let out = c.decode_chunks.new.state in
    let piece = samples_in g.S.Sample.W c.args.piece.now in
    let long = law.out_long p c.conv.ensures.result_value front piece c.decode_chunks.ensures.state_after in
    let stored = take_at out (drop c.args.config.order.0 c.load.new.to) c.args.config.order.0 (sym (numbers.numbers-length g.met.S.Sample.numbers_are out) ∙ long) in
    decode_done c.args.way g.S.Sample.W (given c.args.config) c.args.state.now c.args.piece.now
    (law.decode_said g.S.Sample.WIDTH g.met.S.Sample.width_is (c.BYTES.ensures ∙ g.met.S.Sample.bytes_are) c.args.way (given c.args.config) c.args.state.now (search rules))
    refl
    (chunks.stored (g.S.Sample.W / 8) (g.S.Sample.numbers out) c.args.state.now (law.whole p c.requires.0 ∙ ap (λ (n : ℕ). g.S.Sample.W / 8 * n) (sym long)) (rw (stored, ← numbers.numbers-length g.met.S.Sample.numbers_are out) at c.store.ensures)
    ∙ ap (samples_bytes g.S.Sample.W) (law.out-is p c.conv.ensures.result_value front piece c.decode_chunks.ensures.state_after))
    (law.piece_is p c.conv.ensures.result_value front piece c.decode_chunks.ensures.piece_after)
