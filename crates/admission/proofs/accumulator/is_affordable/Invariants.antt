-- The weights to come can be paid out of what is left exactly where all can be paid out of the budget.
use Rattle.std.proofs.Common.{◌≡◌, ◌*◌, leb, drop}
use Rattle.rule.specs.Prediction.{sum_abs}
use Rattle.admission.proofs.accumulator.is_affordable.Given as goal

abbrev pub invariant-loop-weight : goal.invariant-loop-weight
invariant-loop-weight l = leb (l.most * sum_abs (drop l.weight-index l.weights)) l.left ≡ leb (l.most * sum_abs l.weights) l.budget
