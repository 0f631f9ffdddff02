-- The lengths' tests come first; behind them the weights are loaded, and the tests of the entries decide.
use Rattle.std.proofs.Common.{◌∙◌, rules, refl, sym, ap, length, arith}
use Rattle.rule.specs.Configuration.{Config}
use Rattle.byte_coding.specs.Bytes.{laid}
use Rattle.byte_coding.specs.Calls.{encode_laid}
use Rattle.byte_coding.proofs.Lengths as lengths
use Rattle.byte_coding.proofs.encoder.encode.Goals as goal

pub returns-in_err-layout_answer : goal.returns-in_err-layout_answer
returns-in_err-layout_answer g c =
    lengths.encode_unlaid g.S.Sample.W (laid c.args.config) c.args.config.weights.now c.args.state.now c.args.samples.now refl
    (rw (sym g.met.S.Sample.width_is) (search rules)) (search rules)

pub load_i32-requires : goal.load_i32-requires
load_i32-requires g c =
    let l = lengths.layout_passed g.S.Sample.W c.args.config.order.0 c.args.config.shift.0 (length c.args.config.weights.now) (length c.args.state.now) (length c.args.samples.now)
    (rw (sym g.met.S.Sample.width_is) (search rules)) in
    omega (arith, l.weighed, l.few)

pub slice_bounds-numbers-end : goal.slice_bounds-numbers-end
slice_bounds-numbers-end g c =
    let l = lengths.layout_passed g.S.Sample.W c.args.config.order.0 c.args.config.shift.0 (length c.args.config.weights.now) (length c.args.state.now) (length c.args.samples.now)
    (rw (sym g.met.S.Sample.width_is) (search rules)) in
    omega (arith, l.few, c.load_i32.auto.to)

pub slice_bounds-with-end : goal.slice_bounds-with-end
slice_bounds-with-end g c =
    let l = lengths.layout_passed g.S.Sample.W c.args.config.order.0 c.args.config.shift.0 (length c.args.config.weights.now) (length c.args.state.now) (length c.args.samples.now)
    (rw (sym g.met.S.Sample.width_is) (search rules)) in
    lengths.front_long c.args.config l _ c.load_i32.ensures

pub encode_laid-requires : goal.encode_laid-requires
encode_laid-requires g c =
    let l = lengths.layout_passed g.S.Sample.W c.args.config.order.0 c.args.config.shift.0 (length c.args.config.weights.now) (length c.args.state.now) (length c.args.samples.now)
    (rw (sym g.met.S.Sample.width_is) (search rules)) in
    (record { entire = l.held }, record { entire = l.sampled })

pub returns : goal.returns
returns g c =
    let l = lengths.layout_passed g.S.Sample.W c.args.config.order.0 c.args.config.shift.0 (length c.args.config.weights.now) (length c.args.state.now) (length c.args.samples.now)
    (rw (sym g.met.S.Sample.width_is) (search rules)) in
    let with = c.with.ensures in
    let same = lengths.given_laid c.args.config l _ c.load_i32.ensures c.with.result with.order with.shift with.bias with.weights in
    c.encode_laid.ensures ∙ ap (λ (d : Config). encode_laid g.S.Sample.W d c.args.samples.now c.args.state.now) same
    ∙ lengths.encode_laid_lem g.S.Sample.W (laid c.args.config) c.args.config.weights.now c.args.state.now c.args.samples.now refl {answer = c.layout_answer.result} (rw (sym g.met.S.Sample.width_is) (search rules)) (search rules)
