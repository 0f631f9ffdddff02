-- From six zeros, whose sums are the bias, the state comes sample by sample.
use Rattle.std.proofs.Common.{◌≡◌, ◌∙◌, length, map, refl, arith, rules}
use Rattle.std.proofs.lemmas.List.{length-map}
use Rattle.std.proofs.Math.Seq.{take_all}
use Rattle.sample.proofs.Numbers as numbers
use Rattle.decoding.specs.Running.{six}
use Rattle.decoding.proofs.Running as law
use Rattle.decoding.proofs.order_six.begun.Goals as goal

pub loop-sample-init : goal.loop-sample-init
loop-sample-init g c =
    let none : g.S.Sample.numbers (six c.ZERO.result c.ZERO.result c.ZERO.result c.ZERO.result c.ZERO.result c.ZERO.result) ≡ six 0 0 0 0 0 0 =
    rw (g.met.S.Sample.numbers_are, c.ZERO.ensures, g.met.S.Sample.zero_is) refl in
    let long : length c.args.six.weights ≡ 6 = search rules in (
      rw none
          (law.none_runs g.S.Sample.W (g.S.Sample.wide c.args.six.bias) (map g.S.Sample.wide c.args.six.weights)
          (length-map c.args.six.weights g.S.Sample.wide ∙ long) c.requires.0),
      none,
    )

pub loop-sample-preserved : goal.loop-sample-preserved
loop-sample-preserved g c =
    let are = g.met.S.Sample.numbers_are in
    let l = c.loop-sample in
    let xs = c.args.state.now in
    let item = numbers.numbers-at are xs l.sample-index 0 c.loop-sample-test.true c.sample-item.is in (
      c.next-running.ensures.1,
      law.come_next (six 0 0 0 0 0 0) (g.S.Sample.numbers xs) l.sample-index (omega (arith, numbers.numbers-length are xs, c.loop-sample-test.true)) item l.invariant.1 c.next-running.ensures.0,
    )

pub returns : goal.returns
returns g c =
    let xs = g.S.Sample.numbers c.args.state.now in
    let l = c.loop-sample in
    let long = numbers.numbers-length g.met.S.Sample.numbers_are c.args.state.now in
    (l.invariant.1 ∙ rw (take_all l.sample-index xs (omega (arith, long, c.loop-sample-test.false))) (law.all_came xs (long ∙ c.requires.1)), l.invariant.0)
