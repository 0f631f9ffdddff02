-- A refusal leaves everything; otherwise the tests have passed, and the samples are coded where they lie.
use Rattle.std.proofs.Common.{rules, refl, sym, ap, ◌∙◌, length, length-take-le}
use Rattle.rule.specs.Configuration.{Config, given}
use Rattle.rule.specs.Prediction.{prediction}
use Rattle.rule.specs.Coding.{encoded_buffer}
use Rattle.rule.proofs.Passing.{encoding_passed}
use Rattle.calls.proofs.Leaving.{encode_refused, encode_done}
use Rattle.predict.proofs.Room.{room}
use Rattle.sample.proofs.Numbers as numbers
use Rattle.encoding.proofs.encode_into.Goals as goal

pub returns-in_err-encoding_answer : goal.returns-in_err-encoding_answer
returns-in_err-encoding_answer g c =
    let are = g.met.S.Sample.numbers_are in
    let width = g.met.S.Sample.width_is in
    encode_refused g.S.Sample.W (given c.args.config) (g.S.Sample.numbers c.args.samples.now) (g.S.Sample.numbers c.args.state.now)
    (rw (numbers.numbers-length are c.args.samples.now, numbers.numbers-length are c.args.state.now, sym width) (search rules)) (search rules)

pub slice_bounds-copy_from_slice-end : goal.slice_bounds-copy_from_slice-end
slice_bounds-copy_from_slice-end g c =
    let a = c.args in
    let width = g.met.S.Sample.width_is in
    let p = encoding_passed g.S.Sample.W (given a.config) (length a.state.now) (length a.samples.now) (rw (sym width) (search rules)) in
    p.1

pub slice_bounds-copy_from_slice-end-2 : goal.slice_bounds-copy_from_slice-end-2
slice_bounds-copy_from_slice-end-2 g c =
    let a = c.args in
    let width = g.met.S.Sample.width_is in
    let p = encoding_passed g.S.Sample.W (given a.config) (length a.state.now) (length a.samples.now) (rw (sym width) (search rules)) in
    sym (length-take-le _ _ p.1)

pub copy_from_slice-requires : goal.copy_from_slice-requires
copy_from_slice-requires g c =
    let a = c.args in
    let width = g.met.S.Sample.width_is in
    let p = encoding_passed g.S.Sample.W (given a.config) (length a.state.now) (length a.samples.now) (rw (sym width) (search rules)) in
    p.0.1 ∙ sym (length-take-le _ _ p.1)

pub conv-requires : goal.conv-requires
conv-requires g c =
    let a = c.args in
    let width = g.met.S.Sample.width_is in
    let p = encoding_passed g.S.Sample.W (given a.config) (length a.state.now) (length a.samples.now) (rw (sym width) (search rules)) in
    (room g.S.Sample.WIDTH width g.met.S.Sample.conv_size_is g.met.S.Sample.conv_align_is, p.0.0)

pub encode_samples-requires : goal.encode_samples-requires
encode_samples-requires g c =
    let a = c.args in
    let width = g.met.S.Sample.width_is in
    let p = encoding_passed g.S.Sample.W (given a.config) (length a.state.now) (length a.samples.now) (rw (sym width) (search rules)) in
    (room g.S.Sample.WIDTH width g.met.S.Sample.conv_size_is g.met.S.Sample.conv_align_is, rw c.conv.ensures.result_value p.0.0)

pub returns : goal.returns
returns g c =
    let are = g.met.S.Sample.numbers_are in
    let width = g.met.S.Sample.width_is in
    let xs = c.args.samples.now in
    let k = c.args.config.order.0 in
    encode_done g.S.Sample.W (given c.args.config) (g.S.Sample.numbers xs) (g.S.Sample.numbers c.args.state.now)
    (rw (numbers.numbers-length are xs, numbers.numbers-length are c.args.state.now, sym width) (search rules)) refl
    (c.encode_samples.ensures ∙ ap (λ (config : Config). encoded_buffer g.S.Sample.W config.order (prediction g.S.Sample.W config) (g.S.Sample.numbers xs)) c.conv.ensures.result_value)
    (ap g.S.Sample.numbers c.copy_from_slice.ensures.after ∙ numbers.numbers-take are k xs)
