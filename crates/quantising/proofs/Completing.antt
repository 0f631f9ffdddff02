-- Steps 5 and 6 as the code goes through them: 2^q, each refusal, and what completes them, the configuration.
use mathlib.Core.Path.{◌≡◌, sym, ap}
use mathlib.Core.Bool.{true, false}
use mathlib.Core.List.{List, map}
use Prim.Native.Nat.{ℕ, ◌*◌, ◌%◌, ◌^◌, ◌≤◌}
use native.Mathlib.Nat.{le_trans, le_of_eq, lt_of_le_of_lt}
use lib.Dec.{T, le→leb, lit<, lit≤}
use lib.IntN.{pos}
use lib.Pow.{pow_mono}
use lib.Ieee.{Float, binary64, in_float, of_int}
use Rattle.floats.proofs.Shifts.{one_shifted}
use Rattle.kinds.specs.declared.Shift.{Shift}
use Rattle.record.specs.Widths.{greatest_shift}
use Rattle.rule.specs.Prediction.{admitted}
use Rattle.quantising.specs.Scale.{float, by, scale_of}
use Rattle.quantising.specs.Steps.{weight_of, weights_hold, bias_of, bias_holds, Found, found, completed, outcome}
use Rattle.std.specs.Prelude.{Option, None, option_and_then}

-- ---- 2^q, as (1 << q) as f64 has it
module _ (q : ℕ) (h : q ≤ greatest_shift) where
  shifted : 1 * 2 ^ q % 2 ^ 64 ≡ 2 ^ q
  shifted = one_shifted q (lt_of_le_of_lt h (lit< tt))

  pub power_exact : T (in_float binary64 (pos (1 * 2 ^ q % 2 ^ 64)))
  unfolding in_float
  power_exact = le→leb (1 * 2 ^ q % 2 ^ 64) (2 ^ 53) (le_trans (le_of_eq shifted) (pow_mono {i = q} {j = 53} (le_trans h (lit≤ tt))))

  pub power_is : of_int binary64 (pos (1 * 2 ^ q % 2 ^ 64)) ≡ float (2 ^ q)
  power_is = ap float shifted

-- ---- steps 5 and 6
pub no_scale : (W : ℕ) (ws : List Float) (centre : ℕ) (c : Float) → None ≡ scale_of W ws centre c → outcome W ws centre c ≡ None
unfolding outcome
no_scale W ws centre c h = ap (option_and_then (completed W ws)) (sym h)

pub past_scale : (W : ℕ) (ws : List Float) (centre : ℕ) (c : Float) (q : Shift) (b : Float) → by q b ≡ scale_of W ws centre c
    → outcome W ws centre c ≡ completed W ws (record { shift = q; bias = b })
unfolding outcome
past_scale W ws centre c q b h = ap (option_and_then (completed W ws)) (sym h)

module _ (W : ℕ) (ws : List Float) (q : Shift) (b : Float) where
  abbrev p : Float
  p = float (2 ^ q.0)

  abbrev steps : Option Found
  steps = completed W ws (record { shift = q; bias = b })

  pub no_weights_lem : weights_hold p ws ≡ false → steps ≡ None
  unfolding completed
  no_weights_lem f = rw f

  module _ (fit : weights_hold p ws ≡ true) where
    pub no_bias : bias_holds p b ≡ false → steps ≡ None
    unfolding completed
    no_bias g = rw (fit, g)

    module _ (held : bias_holds p b ≡ true) where
      pub not_admitted : admitted W (bias_of p b) (map (weight_of p) ws) ≡ false → steps ≡ None
      unfolding completed
      not_admitted h = rw (fit, held, h)

      pub is_admitted : admitted W (bias_of p b) (map (weight_of p) ws) ≡ true → steps ≡ found q (bias_of p b) (map (weight_of p) ws)
      unfolding completed
      is_admitted h = rw (fit, held, h)
