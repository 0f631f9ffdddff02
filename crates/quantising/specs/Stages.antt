-- What private functions promise to one another, in the terms of the six steps.
use Rattle.std.specs.Prelude.{◌≡◌, true, List, map, ℤ, length, take, Float}
use Rattle.quantising.specs.Steps.{weight_of, weights_hold}

-- each weight times p is within 32 bits, and the first places of the array are those integers
pub record RoundedTo (p : Float) (ws : List Float) (array : List ℤ) : Type 0 where
  pub places : length array ≡ 32
  pub fit : weights_hold p ws ≡ true
  pub values : take (length ws) array ≡ map (weight_of p) ws
