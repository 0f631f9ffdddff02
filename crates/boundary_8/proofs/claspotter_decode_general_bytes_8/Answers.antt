-- The inner function's promise, with the answer's number.
use mir.Facts.{to_z-of_z}
use Rattle.calls.proofs.Leaving.{decode_numbered}
use Rattle.boundary_8.proofs.claspotter_decode_general_bytes_8.Goals as goal

pub returns : goal.returns
returns c = decode_numbered c.number.ensures (rw (to_z-of_z c.ranges.bias) at c.decode_by.ensures)
