-- A refusal leaves everything; otherwise the state takes the first bytes, and the chunks code the samples.
use Rattle.std.proofs.Common.{◌∙◌, rules, refl, sym, ap, ◌/◌, ℕ, take, length-take-le, arith}
use Rattle.rule.specs.Configuration.{Config, given}
use Rattle.rule.specs.Prediction.{prediction}
use Rattle.rule.specs.Coding.{encoded_buffer}
use Rattle.sample.proofs.Sizes.{some_bytes}
use Rattle.predict.proofs.Room.{room}
use Rattle.byte_coding.specs.Bytes.{samples_in, samples_bytes}
use Rattle.byte_coding.proofs.Leaving.{encode_refused, encode_done}
use Rattle.byte_coding.proofs.Coded.{first_bytes}
use Rattle.byte_coding.proofs.Behind as law
use Rattle.byte_coding.proofs.encoder.encode_laid.Goals as goal

pub returns-in_err-encoding_answer : goal.returns-in_err-encoding_answer
returns-in_err-encoding_answer g c =
    encode_refused g.S.Sample.W (given c.args.config) c.args.samples.now c.args.state.now
    (law.encode_said g.S.Sample.WIDTH g.met.S.Sample.width_is (c.BYTES.ensures ∙ g.met.S.Sample.bytes_are) (c.BYTES-2.ensures ∙ g.met.S.Sample.bytes_are)
    (given c.args.config) c.args.samples.now c.args.state.now (search rules))
    (search rules)

pub slice_bounds-copy_from_slice-end : goal.slice_bounds-copy_from_slice-end
slice_bounds-copy_from_slice-end g c =
    let p = law.encodes g.S.Sample.WIDTH g.met.S.Sample.width_is (c.BYTES.ensures ∙ g.met.S.Sample.bytes_are) (c.BYTES-2.ensures ∙ g.met.S.Sample.bytes_are)
    (given c.args.config) c.args.samples.now c.args.state.now c.requires.0 c.requires.1 (search rules) in
    p.near

pub slice_bounds-copy_from_slice-end-2 : goal.slice_bounds-copy_from_slice-end-2
slice_bounds-copy_from_slice-end-2 g c =
    let p = law.encodes g.S.Sample.WIDTH g.met.S.Sample.width_is (c.BYTES.ensures ∙ g.met.S.Sample.bytes_are) (c.BYTES-2.ensures ∙ g.met.S.Sample.bytes_are)
    (given c.args.config) c.args.samples.now c.args.state.now c.requires.0 c.requires.1 (search rules) in
    sym (length-take-le _ _ p.near)

pub copy_from_slice-requires : goal.copy_from_slice-requires
copy_from_slice-requires g c =
    let p = law.encodes g.S.Sample.WIDTH g.met.S.Sample.width_is (c.BYTES.ensures ∙ g.met.S.Sample.bytes_are) (c.BYTES-2.ensures ∙ g.met.S.Sample.bytes_are)
    (given c.args.config) c.args.samples.now c.args.state.now c.requires.0 c.requires.1 (search rules) in
    sym (length-take-le _ _ p.near)

pub conv-requires : goal.conv-requires
conv-requires g c =
    let p = law.encodes g.S.Sample.WIDTH g.met.S.Sample.width_is (c.BYTES.ensures ∙ g.met.S.Sample.bytes_are) (c.BYTES-2.ensures ∙ g.met.S.Sample.bytes_are)
    (given c.args.config) c.args.samples.now c.args.state.now c.requires.0 c.requires.1 (search rules) in
    (room g.S.Sample.WIDTH g.met.S.Sample.width_is g.met.S.Sample.conv_size_is g.met.S.Sample.conv_align_is, p.ready)

pub encode_chunks-requires : goal.encode_chunks-requires
encode_chunks-requires g c =
    let p = law.encodes g.S.Sample.WIDTH g.met.S.Sample.width_is (c.BYTES.ensures ∙ g.met.S.Sample.bytes_are) (c.BYTES-2.ensures ∙ g.met.S.Sample.bytes_are)
    (given c.args.config) c.args.samples.now c.args.state.now c.requires.0 c.requires.1 (search rules) in
    (room g.S.Sample.WIDTH g.met.S.Sample.width_is g.met.S.Sample.conv_size_is g.met.S.Sample.conv_align_is, (rw c.conv.ensures.result_value p.ready, c.requires.1))

pub returns : goal.returns
returns g c =
    let W = g.S.Sample.W in
    let x = c.args.samples.now in
    let p = law.encodes g.S.Sample.WIDTH g.met.S.Sample.width_is (c.BYTES.ensures ∙ g.met.S.Sample.bytes_are) (c.BYTES-2.ensures ∙ g.met.S.Sample.bytes_are)
    (given c.args.config) c.args.samples.now c.args.state.now c.requires.0 c.requires.1 (search rules) in
    let front = c.copy_from_slice.ensures.after ∙ ap (λ (n : ℕ). take n x) p.first-long in
    encode_done W (given c.args.config) x c.args.state.now
    (law.encode_said g.S.Sample.WIDTH g.met.S.Sample.width_is (c.BYTES.ensures ∙ g.met.S.Sample.bytes_are) (c.BYTES-2.ensures ∙ g.met.S.Sample.bytes_are)
    (given c.args.config) c.args.samples.now c.args.state.now (search rules))
    refl
    (c.encode_chunks.ensures ∙ ap (λ (f : Config). samples_bytes W (encoded_buffer W f.order (prediction W f) (samples_in W x))) c.conv.ensures.result_value)
    (front ∙ first_bytes (W / 8) (some_bytes g.S.Sample.WIDTH g.met.S.Sample.width_is) x c.args.config.order.0 (record { below = λ i. rw (← front) (c.type_inv.state i).fits }) (omega (arith, p.first-long, p.near)))
