-- A piece begins within the row, and no piece is empty, which is why the loop ends.
use Rattle.std.proofs.Common.{◌-◌, ◌≤◌}
use Rattle.coding_vectors.proofs.trial.decode_pieces.Given as goal

abbrev pub invariant-loop-start : goal.invariant-loop-start
invariant-loop-start l = l.start ≤ l.c.count

abbrev pub decreases-loop-start : goal.decreases-loop-start
decreases-loop-start l = l.c.count - l.start
