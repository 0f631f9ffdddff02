-- The weights that are left decide whether all fit, and the integers made so far, with those of the weights that are left, are all the integers.
use Rattle.std.proofs.Common.{◌≡◌, ◌++◌, map, length, take, drop}
use Rattle.quantising.specs.Steps.{weight_of, weights_hold}
use Rattle.quantising.proofs.round_weights.Given as goal

abbrev pub invariant-loop-i : goal.invariant-loop-i
invariant-loop-i l = record {
  places : length l.rounded ≡ 32;
  fits : weights_hold l.factor (drop l.i l.weights) ≡ weights_hold l.factor l.weights;
  values : take l.i l.rounded ++ map (weight_of l.factor) (drop l.i l.weights) ≡ map (weight_of l.factor) l.weights;
}
