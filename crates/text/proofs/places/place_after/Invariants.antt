-- The place is that of the bytes so far, and neither of its numbers grows by more than one at a byte.
use Rattle.std.proofs.Common.{◌≡◌, ◌+◌, ◌≤◌, take}
use Rattle.text.specs.Places.{place_after}
use Rattle.text.proofs.places.place_after.Given as goal

abbrev pub invariant-loop-byte : goal.invariant-loop-byte
invariant-loop-byte l = record {
  line : l.place.line ≤ l.byte-index + 1;
  column : l.place.column ≤ l.byte-index + 1;
  so_far : l.place ≡ place_after l.initial.place (take l.byte-index l.text);
}
