-- The entries so far are stored: `Lists`' loop.
use Rattle.std.proofs.Common.{◌/◌}
use Rattle.entries.proofs.Lists as lists
use Rattle.entries.proofs.samples.store.Given as goal

abbrev pub invariant-loop-i : goal.invariant-loop-i
invariant-loop-i g l = lists.Stored (g.S.Sample.W / 8) (g.S.Sample.numbers l.from) l.initial.to l.to l.i
