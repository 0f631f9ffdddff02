-- The first places are written, and what is left is the value above them: `Turns`' second part.
use Rattle.entries.proofs.Turns as turns
use Rattle.entries.proofs.write_entry.Given as goal

abbrev pub invariant-loop-i : goal.invariant-loop-i
invariant-loop-i l = turns.Written l.initial.bytes l.at l.value l.bytes l.left l.i
