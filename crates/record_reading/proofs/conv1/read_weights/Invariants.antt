-- after i turns the bytes hold i weights, and they stand in the first i places
use Rattle.std.proofs.Common.{◌≡◌, ◌+◌, ◌*◌, ◌≤◌, length}
use Rattle.record.specs.Format.{weights_at}
use Rattle.record.specs.Reading.{weights_in}
use Rattle.record.specs.Widths.{weight_bits}
use Rattle.record.proofs.Weights.{padded}
use Rattle.record_reading.proofs.conv1.read_weights.Given as goal

abbrev pub invariant-loop-i : goal.invariant-loop-i
invariant-loop-i l =
    (length l.weight-items ≡ l.order.0)
    × (weights_at + weight_bits * l.i ≤ 8 * length l.bytes)
    × (l.weight-items ≡ padded l.order.0 (weights_in l.bytes weights_at l.i))
