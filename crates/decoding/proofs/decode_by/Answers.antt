-- A refusal leaves everything; otherwise the tests have passed, and the piece is decoded where it lies.
use Rattle.std.proofs.Common.{rules, refl, sym, ◌∙◌, length}
use Rattle.rule.specs.Configuration.{given}
use Rattle.calls.proofs.Leaving.{decode_refused, decode_done}
use Rattle.predict.proofs.Room.{room}
use Rattle.sample.proofs.Numbers as numbers
use Rattle.decoding.proofs.Choosing.{way_passed}
use Rattle.decoding.proofs.Starting.{decodes}
use Rattle.decoding.proofs.decode_by.Goals as goal

pub returns-in_err-answer_by : goal.returns-in_err-answer_by
returns-in_err-answer_by g c =
    let a = c.args in
    let width = g.met.S.Sample.width_is in
    decode_refused g.S.Sample.W (given a.config) (g.S.Sample.numbers a.state.now) (g.S.Sample.numbers a.piece.now)
    (rw (numbers.numbers-length g.met.S.Sample.numbers_are a.state.now, sym width) (search rules)) (search rules)

pub conv-requires : goal.conv-requires
conv-requires g c =
    let a = c.args in
    let width = g.met.S.Sample.width_is in
    let p = way_passed g.S.Sample.W (given a.config) a.way (length a.state.now) (rw (sym width) (search rules)) in
    (room g.S.Sample.WIDTH width g.met.S.Sample.conv_size_is g.met.S.Sample.conv_align_is, p.0.0)

pub decode_samples-requires : goal.decode_samples-requires
decode_samples-requires g c =
    let a = c.args in
    let width = g.met.S.Sample.width_is in
    let p = way_passed g.S.Sample.W (given a.config) a.way (length a.state.now) (rw (sym width) (search rules)) in
    let full = numbers.numbers-length g.met.S.Sample.numbers_are a.state.now ∙ p.0.1 in (
      room g.S.Sample.WIDTH width g.met.S.Sample.conv_size_is g.met.S.Sample.conv_align_is,
      rw c.conv.ensures.result_value (record { ready = p.0.0; full = full }, p.1),
    )

pub returns : goal.returns
returns g c =
    let a = c.args in
    let width = g.met.S.Sample.width_is in
    let l = decodes c.conv.ensures.result_value c.decode_samples.ensures in
    decode_done g.S.Sample.W (given a.config) (g.S.Sample.numbers a.state.now) (g.S.Sample.numbers a.piece.now)
    (rw (numbers.numbers-length g.met.S.Sample.numbers_are a.state.now, sym width) (search rules)) refl l.next_is l.outputs_are
