-- The value so far is the entry of the bytes from i on: `Turns`' first part.
use Rattle.entries.proofs.Turns as turns
use Rattle.entries.proofs.read_entry.Given as goal

abbrev pub invariant-loop-i : goal.invariant-loop-i
invariant-loop-i l = turns.Read l.bytes l.at l.width l.value l.i
