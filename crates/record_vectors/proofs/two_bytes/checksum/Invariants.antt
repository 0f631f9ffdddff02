-- The sum stays below the modulus.
use Rattle.std.proofs.Common.{◌<◌}
use Rattle.record_vectors.proofs.two_bytes.checksum.Given as goal

abbrev pub invariant-loop-n : goal.invariant-loop-n
invariant-loop-n l = l.sum < 1000003
