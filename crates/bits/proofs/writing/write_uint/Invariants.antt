-- after i turns the first i bits of the field are written, and what is left of the value is its quotient by 2^i
use Rattle.std.proofs.Common.{◌≡◌, ◌/◌, ◌^◌}
use Rattle.bits.specs.Fields.{with_field}
use Rattle.bits.proofs.writing.write_uint.Given as goal

abbrev pub invariant-loop-i : goal.invariant-loop-i
invariant-loop-i l = (l.left ≡ l.value / 2 ^ l.i) × (l.bytes ≡ with_field l.initial.bytes l.at l.i l.value)
