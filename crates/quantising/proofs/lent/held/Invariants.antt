-- The places so far are those of the slice: `Filling`'s loop.
use Rattle.std.proofs.Common.{◌≡◌, ℕ, ◌-◌, ◌≤◌, length, get_or}
use Rattle.std.specs.Float.Ieee.{nan}
use Rattle.rule.proofs.Filling.{Filled}
use Rattle.quantising.proofs.lent.held.Given as goal

abbrev pub invariant-loop-i : goal.invariant-loop-i
invariant-loop-i l = (l.i ≤ length l.fitted) × (length l.weights ≡ 32) × Filled (λ (j : ℕ). get_or l.fitted j nan) l.initial.weights l.weights l.i

abbrev pub decreases-loop-i : goal.decreases-loop-i
decreases-loop-i l = length l.fitted - l.i
