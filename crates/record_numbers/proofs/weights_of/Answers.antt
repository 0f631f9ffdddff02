-- The copy fills the front of an array of zeros.
use Rattle.std.proofs.Common.{List, ℤ, pos, length, ◌++◌, ap}
use Rattle.std.proofs.lemmas.Bool.{eq-eqb}
use Rattle.rule.proofs.Filling.{drop-replicate}
use Rattle.record_numbers.proofs.weights_of.Goals as goal

pub returns-then-variant-eq-CONV1 : goal.returns-then-variant-eq-CONV1
returns-then-variant-eq-CONV1 c =
    let weights = c.args.weights.now in
    rw (eq-eqb c.args.variant 3 c.if-variant-eq-CONV1.true, c.copy_from_slice.ensures.after)
    (ap (λ (z : List ℤ). weights ++ z) (drop-replicate 32 (length weights) (pos 0)))
