-- The part begins at place k, or at the slice's end beside a refusal: `Handing`'s laws of it, on the samples' numbers.
use Rattle.std.proofs.Common.{◌≡◌, ◌∙◌, sym, ◌-◌, length}
use Rattle.kinds.specs.Answers.{when_done}
use Rattle.rule.specs.Configuration.{given}
use Rattle.calls.proofs.Leaving.{encode_enough}
use Rattle.sample.proofs.Numbers as numbers
use Rattle.encoding.proofs.Handing.{begins_inside, handed_left}
use Rattle.encoding.proofs.by_value.encode.Goals as goal
use Rattle.encoding.proofs.by_value.encode.Goals.{then-is_ok, else-is_ok}

pub slice_bounds-result-count : goal.slice_bounds-result-count
slice_bounds-result-count g c =
    let are = g.met.S.Sample.numbers_are in
    let k = c.args.config.order.0 in
    let xs = c.encode_into-said.new.samples in
    let said = c.encode_into-said.result in
    let from : c.if-is_ok.from ≡ when_done said k (length (g.S.Sample.numbers xs)) =
    elim c.if-is_ok.branch [
      | then-is_ok w ↦ w.from-is ∙ rw (sym c.is_ok.ensures.value ∙ w.if-is_ok.true)
      | else-is_ok w ↦ w.from-is ∙ rw (sym c.is_ok.ensures.value ∙ w.if-is_ok.false, numbers.numbers-length are xs)
    ] in
    let long : length (g.S.Sample.numbers c.args.samples.now) ≡ length (g.S.Sample.numbers xs) =
    numbers.numbers-length are c.args.samples.now ∙ sym c.encode_into-said.auto.samples ∙ sym (numbers.numbers-length are xs) in
    rw (numbers.numbers-length are xs) at (begins_inside k c.encode_into-said.ensures from (λ done. rw long at (encode_enough g.S.Sample.W (given c.args.config) (g.S.Sample.numbers c.args.samples.now) (g.S.Sample.numbers c.args.state.now) c.encode_into-said.ensures done)))

pub slice_bounds-samples-start : goal.slice_bounds-samples-start
slice_bounds-samples-start g c = slice_bounds-result-count g c

pub returns-clause-number_after : goal.returns-clause-number_after
returns-clause-number_after g c =
    let are = g.met.S.Sample.numbers_are in
    let k = c.args.config.order.0 in
    let xs = c.encode_into-said.new.samples in
    let said = c.encode_into-said.result in
    let from : c.if-is_ok.from ≡ when_done said k (length (g.S.Sample.numbers xs)) =
    elim c.if-is_ok.branch [
      | then-is_ok w ↦ w.from-is ∙ rw (sym c.is_ok.ensures.value ∙ w.if-is_ok.true)
      | else-is_ok w ↦ w.from-is ∙ rw (sym c.is_ok.ensures.value ∙ w.if-is_ok.false, numbers.numbers-length are xs)
    ] in
    rw (numbers.numbers-part are (length xs - c.if-is_ok.from) c.if-is_ok.from xs, sym (numbers.numbers-length are xs)) (handed_left k c.encode_into-said.ensures from c.number.ensures)
