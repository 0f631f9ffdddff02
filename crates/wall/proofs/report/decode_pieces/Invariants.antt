-- A piece begins within the row, and has a sample at least.
use Rattle.std.proofs.Common.{◌-◌, ◌<◌, ◌≤◌}
use Rattle.wall.proofs.report.decode_pieces.Given as goal

abbrev pub invariant-loop-start : goal.invariant-loop-start
invariant-loop-start g l = (l.start ≤ l.n) × (0 < l.size)

abbrev pub decreases-loop-start : goal.decreases-loop-start
decreases-loop-start g l = l.n - l.start
