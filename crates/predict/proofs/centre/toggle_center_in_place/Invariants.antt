-- The places so far are toggled: `Filling`'s loop.
use Rattle.std.proofs.Common.{ℕ, get_or}
use Rattle.rule.specs.Coding.{toggled}
use Rattle.rule.proofs.Filling as filling
use Rattle.predict.proofs.centre.toggle_center_in_place.Given as goal

abbrev pub invariant-loop-i : goal.invariant-loop-i
invariant-loop-i g l =
    filling.Filled (λ (j : ℕ). toggled g.S.Sample.W (get_or (g.S.Sample.numbers l.initial.numbers) j 0)) (g.S.Sample.numbers l.initial.numbers) (g.S.Sample.numbers l.numbers) l.i
