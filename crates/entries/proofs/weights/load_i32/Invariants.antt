-- The places so far are the signed entries of `from`: `Filling`'s loop.
use Rattle.std.proofs.Common.{ℕ, ◌*◌, to_z, w32}
use Rattle.rule.proofs.Filling as filling
use Rattle.entries.specs.Entries.{entry_at}
use Rattle.entries.proofs.weights.load_i32.Given as goal

abbrev pub invariant-loop-i : goal.invariant-loop-i
invariant-loop-i l = filling.Filled (λ (j : ℕ). to_z w32 (entry_at 4 l.from (4 * j))) l.initial.to l.to l.i
