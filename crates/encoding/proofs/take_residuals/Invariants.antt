-- The places so far are filled with their residuals: `Filling`'s loop.
use Rattle.std.proofs.Common.{ℕ, get_or}
use Rattle.rule.specs.Coding.{residual}
use Rattle.rule.proofs.Filling as filling
use Rattle.encoding.proofs.take_residuals.Given as goal

abbrev pub invariant-loop-i : goal.invariant-loop-i
invariant-loop-i g l =
    filling.Filled (λ (j : ℕ). residual g.S.Sample.W (get_or (g.S.Sample.numbers l.initial.samples) j 0) (get_or (g.S.Sample.numbers l.predictions) j 0))
    (g.S.Sample.numbers l.initial.samples) (g.S.Sample.numbers l.samples) l.i
