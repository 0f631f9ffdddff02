-- The places so far are the entries of `from`: `Filling`'s loop.
use Rattle.std.proofs.Common.{ℕ, ◌*◌, ◌/◌}
use Rattle.rule.proofs.Filling as filling
use Rattle.entries.specs.Entries.{entry_at}
use Rattle.entries.proofs.samples.load.Given as goal

abbrev pub invariant-loop-i : goal.invariant-loop-i
invariant-loop-i g l =
    let n = g.S.Sample.W / 8 in
    filling.Filled (λ (j : ℕ). entry_at n l.from (n * j)) (g.S.Sample.numbers l.initial.to) (g.S.Sample.numbers l.to) l.i
