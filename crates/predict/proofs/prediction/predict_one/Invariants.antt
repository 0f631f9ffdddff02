-- After i weights the sum is that of the first i terms, from the bias: `Adding`'s loop.
use Rattle.std.proofs.Common.{map}
use Rattle.predict.proofs.Adding as adding
use Rattle.predict.proofs.prediction.predict_one.Given as goal

abbrev pub invariant-loop-i : goal.invariant-loop-i
invariant-loop-i g l =
    adding.Summed g.S.Sample.W (map g.S.Sample.integer l.weight-items) (g.S.Sample.numbers l.window) (g.S.Sample.integer l.config.bias) (g.S.Sample.integer l.sum) l.i
