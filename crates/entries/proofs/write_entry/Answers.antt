-- A byte more is written each turn; at the end all of the entry is.
use Rattle.std.proofs.Common.{arith}
use Rattle.entries.proofs.Turns as turns
use Rattle.entries.proofs.write_entry.Goals as goal

pub loop-i-preserved : goal.loop-i-preserved
loop-i-preserved c = turns.write_turn c.args.bytes.now c.args.at c.args.value c.loop-i.invariant (omega arith)

pub returns : goal.returns
returns c = turns.write_end c.args.bytes.now c.args.at c.args.value c.loop-i.invariant c.args.width (omega arith)
