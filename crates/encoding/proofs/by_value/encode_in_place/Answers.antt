-- A bad order has no array to lend a part of; any other call is `encode_into`'s, on the first places of an array of zeros.
use Rattle.std.proofs.Common.{◌≡◌, sym, ap, ◌∙◌, ℕ, List, ◌++◌, take, drop, replicate}
use Rattle.kinds.specs.Answers.{when_done}
use Rattle.rule.specs.Configuration.{given}
use Rattle.rule.proofs.Passing.{order_few}
use Rattle.sample.proofs.Numbers as numbers
use Rattle.encoding.proofs.Handing.{saved_left, saved_none}
use Rattle.encoding.proofs.by_value.encode_in_place.Goals as goal
use Rattle.encoding.proofs.by_value.encode_in_place.Goals.{then-is_order, else-is_order, then-is_ok, else-is_ok}

pub returns : goal.returns
returns g c =
    let are = g.met.S.Sample.numbers_are in
    let k = c.args.config.order.0 in
    let zero = c.ZERO-first.result in
    let zeros : g.S.Sample.numbers (replicate 32 zero) ≡ replicate 32 0 =
    numbers.numbers-replicate are 32 zero ∙ rw (ap g.S.Sample.number c.ZERO-first.ensures ∙ g.met.S.Sample.zero_is) in
    let count : c.if-is_ok.count ≡ when_done c.if-is_order.said k 0 =
    elim c.if-is_ok.branch [
      | then-is_ok w ↦ w.count-is ∙ rw (sym c.is_ok.ensures.value ∙ w.if-is_ok.true)
      | else-is_ok w ↦ w.count-is ∙ rw (sym c.is_ok.ensures.value ∙ w.if-is_ok.false)
    ] in
    elim c.if-is_order.branch [
      | then-is_order w ↦
          let lent : g.S.Sample.numbers (take k (replicate 32 zero)) ≡ take k (replicate 32 0) = numbers.numbers-take are k (replicate 32 zero) ∙ ap (λ (l : List ℕ). take k l) zeros in
          let kept : g.S.Sample.numbers (w.encode_into-said.new.state ++ drop k (replicate 32 zero)) ≡ g.S.Sample.numbers w.encode_into-said.new.state ++ drop k (replicate 32 0) =
          numbers.numbers-append are w.encode_into-said.new.state (drop k (replicate 32 zero))
          ∙ ap (λ (l : List ℕ). g.S.Sample.numbers w.encode_into-said.new.state ++ l) (numbers.numbers-drop are k (replicate 32 zero) ∙ ap (λ (l : List ℕ). drop k l) zeros) in
          rw (count, w.said-is, w.samples-is, w.first-is, kept) (
          saved_left g.S.Sample.W (given c.args.config) (g.S.Sample.numbers c.args.samples.now) (order_few _ (sym c.is_order.ensures ∙ w.if-is_order.true)) (rw lent at w.encode_into-said.ensures)
          )
      | else-is_order w ↦
          rw (count, w.said-is, w.samples-is, w.first-is, zeros) (
          saved_none g.S.Sample.W (given c.args.config) (g.S.Sample.numbers c.args.samples.now) (sym c.is_order.ensures ∙ w.if-is_order.false)
          )
    ]
