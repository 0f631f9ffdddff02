-- MID taken off twice, which is MID left on: a residual matters modulo 2^W alone. Over the width W.
use Rattle.std.proofs.Common.{◌≡◌, refl, ◌∙◌, ap, List, [], ◌∷◌, ◌++◌, ℕ, ◌-◌, map, length, drop}
use Rattle.std.proofs.lemmas.List.{length-map}
use Rattle.rule.specs.Configuration.{Config}
use Rattle.rule.specs.Prediction.{prediction}
use Rattle.rule.specs.Coding.{toggled, restored, sample_of, extended, decoded_piece, new_state}
use Rattle.predict.proofs.Toggling.{restored-toggled}
use Rattle.decoding.specs.Steps.{Decodes}

module _ (W k : ℕ) (p : List ℕ → ℕ) where
  sample_twice : (known : List ℕ) (r : ℕ) → sample_of W k p known (toggled W (toggled W r)) ≡ sample_of W k p known r
  unfolding sample_of restored
  sample_twice known r = restored-toggled W (toggled W r) (p (drop (length known - k) known))

  pub extended_twice : (known rs : List ℕ) → extended W k p known (map (toggled W) (map (toggled W) rs)) ≡ extended W k p known rs
  extended_twice known [] = refl
  extended_twice known (r ∷ rs) =
      ap (λ (y : ℕ). extended W k p (known ++ y ∷ []) (map (toggled W) (map (toggled W) rs))) (sample_twice known r)
      ∙ extended_twice (known ++ sample_of W k p known r ∷ []) rs

pub decodes_twice : {W : ℕ} {c : Config} {state residuals outputs next : List ℕ}
    → Decodes W c state (map (toggled W) (map (toggled W) residuals)) outputs next → Decodes W c state residuals outputs next
unfolding decoded_piece new_state
decodes_twice {W} {c} {state} {residuals} d =
    let long : length (map (toggled W) (map (toggled W) residuals)) ≡ length residuals = length-map _ (toggled W) ∙ length-map residuals (toggled W) in
    let same = extended_twice W c.order (prediction W c) state residuals in
    record { outputs_are = rw (long, same) at d.outputs_are; next_is = rw (long, same) at d.next_is }
