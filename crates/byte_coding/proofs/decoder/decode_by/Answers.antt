-- The lengths' tests come first; behind them the weights are loaded, and the tests of the entries decide.
use Rattle.std.proofs.Common.{◌∙◌, rules, refl, sym, ap, length, arith}
use Rattle.rule.specs.Configuration.{Config}
use Rattle.byte_coding.specs.Bytes.{laid}
use Rattle.byte_coding.specs.Calls.{decode_laid}
use Rattle.byte_coding.proofs.Lengths as lengths
use Rattle.byte_coding.proofs.decoder.decode_by.Goals as goal

pub returns-in_err-layout_answer_by : goal.returns-in_err-layout_answer_by
returns-in_err-layout_answer_by g c =
    lengths.decode_unlaid g.S.Sample.W (laid c.args.config) c.args.config.weights.now c.args.state.now c.args.piece.now refl c.args.way
    (rw (sym g.met.S.Sample.width_is) (search rules)) (search rules)

pub load_i32-requires : goal.load_i32-requires
load_i32-requires g c =
    let l = lengths.layout_passed_by c.args.way g.S.Sample.W c.args.config.order.0 c.args.config.shift.0 (length c.args.config.weights.now) (length c.args.state.now) (length c.args.piece.now)
    (rw (sym g.met.S.Sample.width_is) (search rules)) in
    omega (arith, l.weighed, l.few)

pub slice_bounds-numbers-end : goal.slice_bounds-numbers-end
slice_bounds-numbers-end g c =
    let l = lengths.layout_passed_by c.args.way g.S.Sample.W c.args.config.order.0 c.args.config.shift.0 (length c.args.config.weights.now) (length c.args.state.now) (length c.args.piece.now)
    (rw (sym g.met.S.Sample.width_is) (search rules)) in
    omega (arith, l.few, c.load_i32.auto.to)

pub slice_bounds-with-end : goal.slice_bounds-with-end
slice_bounds-with-end g c =
    let l = lengths.layout_passed_by c.args.way g.S.Sample.W c.args.config.order.0 c.args.config.shift.0 (length c.args.config.weights.now) (length c.args.state.now) (length c.args.piece.now)
    (rw (sym g.met.S.Sample.width_is) (search rules)) in
    lengths.front_long c.args.config l _ c.load_i32.ensures

pub decode_laid-requires : goal.decode_laid-requires
decode_laid-requires g c =
    let l = lengths.layout_passed_by c.args.way g.S.Sample.W c.args.config.order.0 c.args.config.shift.0 (length c.args.config.weights.now) (length c.args.state.now) (length c.args.piece.now)
    (rw (sym g.met.S.Sample.width_is) (search rules)) in
    (record { entire = l.held }, record { entire = l.sampled })

pub returns : goal.returns
returns g c =
    let l = lengths.layout_passed_by c.args.way g.S.Sample.W c.args.config.order.0 c.args.config.shift.0 (length c.args.config.weights.now) (length c.args.state.now) (length c.args.piece.now)
    (rw (sym g.met.S.Sample.width_is) (search rules)) in
    let with = c.with.ensures in
    let same = lengths.given_laid c.args.config l _ c.load_i32.ensures c.with.result with.order with.shift with.bias with.weights in
    c.decode_laid.ensures ∙ ap (λ (d : Config). decode_laid c.args.way g.S.Sample.W d c.args.state.now c.args.piece.now) same
    ∙ lengths.decode_laid_lem g.S.Sample.W (laid c.args.config) c.args.config.weights.now c.args.state.now c.args.piece.now refl c.args.way {answer = c.layout_answer_by.result} (rw (sym g.met.S.Sample.width_is) (search rules)) (search rules)
