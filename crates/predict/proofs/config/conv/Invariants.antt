-- The weights so far stand in front of the zeros: `Filling`'s loop.
use Rattle.std.proofs.Common.{ℕ, get_or, pos, replicate, map}
use Rattle.rule.proofs.Filling as filling
use Rattle.predict.proofs.config.conv.Given as goal

abbrev pub invariant-loop-i : goal.invariant-loop-i
invariant-loop-i g l = filling.Filled (λ (j : ℕ). get_or l.weight-items j (pos 0)) (replicate 32 (pos 0)) (map g.S.Sample.integer l.weights) l.i
