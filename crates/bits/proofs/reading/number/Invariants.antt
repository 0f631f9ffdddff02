-- after i bits the sum is the number in the first i bits
use Rattle.std.proofs.Common.{◌≡◌}
use Rattle.bits.specs.Fields.{field_at}
use Rattle.bits.proofs.reading.number.Given as goal

abbrev pub invariant-loop-i : goal.invariant-loop-i
invariant-loop-i l = l.sum ≡ field_at l.bytes l.at l.i
