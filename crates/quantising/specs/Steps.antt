-- Quantising float weights: steps 5 and 6, over the width W; steps 1 to 4, which choose the shift, are Rattle.quantising.specs.Scale.
use Rattle.std.specs.Prelude.{Bool, true, ◌&&◌, List, [], ◌∷◌, map, ℕ, ◌^◌, ℤ, Float, Option, Some, option_and_then}
use Rattle.floats.specs.Integers.{rounded_of, cut_of, holds}
use Rattle.kinds.specs.declared.Shift.{Shift}
use Rattle.rule.specs.Prediction.{admitted}
use Rattle.quantising.specs.declared.scaling.Scale.{Scale}
use Rattle.quantising.specs.Scale.{◌⊗◌, float, only, scale_of}

-- ---- 5. with p for 2^q: each weight times p to the nearest integer, halves away from zero, in 32 bits; the float bias times p cut toward zero, in 64
abbrev pub weight_of : Float → Float → ℤ
weight_of p w = rounded_of (w ⊗ p)

abbrev pub weights_hold : Float → List Float → Bool
weights_hold p [] = true
weights_hold p (w ∷ ws) = holds 32 (w ⊗ p) (weight_of p w) && weights_hold p ws

abbrev pub bias_of : Float → Float → ℤ
bias_of p bias = cut_of (bias ⊗ p)

abbrev pub bias_holds : Float → Float → Bool
bias_holds p bias = holds 64 (bias ⊗ p) (bias_of p bias)

-- a configuration: a shift, a bias and the weights
pub record Found : Type 0 where
  pub shift : Shift
  pub bias : ℤ
  pub weights : List ℤ

abbrev pub found : Shift → ℤ → List ℤ → Option Found
found q bias weights = Some (record { shift = q; bias = bias; weights = weights })

-- ---- 6. the accumulator rule
unfoldable pub completed : ℕ → List Float → Scale → Option Found
completed W ws s =
    let p = float (2 ^ s.shift.0) in
    let weights = map (weight_of p) ws in
    let bias = bias_of p s.bias in
    only (weights_hold p ws) (only (bias_holds p s.bias) (only (admitted W bias weights) (found s.shift bias weights)))

-- what the six steps come to
unfoldable pub outcome : ℕ → List Float → ℕ → Float → Option Found
outcome W ws centre c = option_and_then (completed W ws) (scale_of W ws centre c)
