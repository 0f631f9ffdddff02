-- What is left of the digits decides.
use Rattle.std.proofs.Common.{◌≡◌, drop}
use Rattle.text.specs.Words.{number, number_after}
use Rattle.text.proofs.number.Given as goal

abbrev pub invariant-loop-byte : goal.invariant-loop-byte
invariant-loop-byte l = number_after l.value (drop l.byte-index l.digits) ≡ number l.digits
