-- Quantising float weights: steps 1 to 4, in their order, over the width W. ⊕ ⊖ ⊗ ⊘ are single binary64 operations.
use Rattle.std.specs.Prelude.{Bool, true, false, ◌&&◌, List, fold, ℕ, zero, suc, ◌-◌, min, ℤ, pos, negsuc, Float, Option, Some, None}
use Rattle.std.specs.Float.{binary64}
use Rattle.std.specs.Float.Ieee.{add, sub, mul, div, of_int}
use Rattle.std.specs.Float.Ieee.Scale.{finite}
use Rattle.floats.specs.Values.{magnitude, exponent_of}
use Rattle.kinds.specs.declared.Shift.{Shift}
use Rattle.record.specs.Widths.{greatest_shift}
use Rattle.rule.specs.Numbers.{greatest, accumulator, limit}
use Rattle.quantising.specs.declared.scaling.Scale.{Scale}

infixl 6 ◌⊕◌ ◌⊖◌
infixl 7 ◌⊗◌ ◌⊘◌
abbrev pub ◌⊕◌ : Float → Float → Float
x ⊕ y = add binary64 x y

abbrev pub ◌⊖◌ : Float → Float → Float
x ⊖ y = sub binary64 x y

abbrev pub ◌⊗◌ : Float → Float → Float
x ⊗ y = mul binary64 x y

abbrev pub ◌⊘◌ : Float → Float → Float
x ⊘ y = div binary64 x y

-- n as f64
abbrev pub float : ℕ → Float
float n = of_int binary64 (pos n)

-- ---- 1. the weights added up, and their magnitudes added up, each from 0.0 on and in the order of their places
abbrev pub sum_from : Float → List Float → Float
sum_from t ws = fold (λ t w. t ⊕ w) t ws

abbrev pub abs_sum_from : Float → List Float → Float
abs_sum_from t ws = fold (λ t w. t ⊕ magnitude w) t ws

unfoldable pub total : List Float → Float
total ws = sum_from (float 0) ws

unfoldable pub abs_total : List Float → Float
abs_total ws = abs_sum_from (float 0) ws

-- ---- 2. the float bias, (1.0 - T) · centre + c; and the divisor, S · M + |float bias| + 1.0
unfoldable pub float_bias : Float → ℕ → Float → Float
float_bias T centre c = (float 1 ⊖ T) ⊗ float centre ⊕ c

unfoldable pub divisor : ℕ → Float → Float → Float
divisor W S bias = S ⊗ float (greatest W) ⊕ magnitude bias ⊕ float 1

-- ---- 3. x is 2^(A-1)-1 as f64, which is 2^63 at A = 64, divided by that
unfoldable pub quotient : ℕ → Float → Float
quotient W d = float (limit W) ⊘ d

-- ---- 4. one less than e, held to the record's greatest shift and to A-1; below 0 there is no configuration
abbrev pub least_shift : ℕ → ℕ → Shift
least_shift W less = record { 0 = min (min less greatest_shift) (accumulator W - 1) }

abbrev pub by : Shift → Float → Option Scale
by q bias = Some (record { shift = q; bias = bias })

unfoldable pub scale_at : ℕ → ℤ → Float → Option Scale
scale_at W (pos (suc less)) bias = by (least_shift W less) bias
scale_at W (pos zero) bias = None
scale_at W (negsuc n) bias = None

-- what there is, where the test holds
abbrev pub only : {A : Type 0} → Bool → Option A → Option A
only true o = o
only false o = None

-- steps 1 to 4: the shift, with the float bias
unfoldable pub scale_of : ℕ → List Float → ℕ → Float → Option Scale
scale_of W ws centre c =
    let T = total ws in
    let S = abs_total ws in
    let bias = float_bias T centre c in
    let d = divisor W S bias in
    only (finite T && finite S) (only (finite d) (scale_at W (exponent_of (quotient W d)) bias))
