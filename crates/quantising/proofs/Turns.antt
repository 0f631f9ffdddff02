-- One turn of the loop that rounds the fitted weights, in terms of the weights that are left, with p for 2^q.
use mathlib.Core.Path.{◌≡◌, sym, ap, ◌∙◌}
use mathlib.Core.Bool.{◌&&◌}
use mathlib.Core.List.{List, [], ◌∷◌, ◌++◌, map, append_assoc}
use Prim.Native.Nat.{ℕ, ◌+◌, ◌<◌}
use native.Mathlib.Numerals.{add-one}
use lib.IntN.{ℤ}
use lib.ListN.{length, get_or, take, drop, set}
use lib.Seq.{drop-cons, take-suc-set}
use lib.Ieee.{Float, nan}
use Rattle.floats.specs.Integers.{holds}
use Rattle.quantising.specs.Scale.{◌⊗◌}
use Rattle.quantising.specs.Steps.{weight_of, weights_hold}

module _ (ws : List Float) (i : ℕ) (h : i < length ws) (p : Float) where
  next_weight : drop i ws ≡ get_or ws i nan ∷ drop (i + 1) ws
  next_weight = drop-cons ws i nan h ∙ ap (λ (j : ℕ). get_or ws i nan ∷ drop j ws) (sym (add-one i))

  pub hold_turn : weights_hold p (drop i ws) ≡ (holds 32 (get_or ws i nan ⊗ p) (weight_of p (get_or ws i nan)) && weights_hold p (drop (i + 1) ws))
  hold_turn = ap (weights_hold p) next_weight

  pub round_turn : (made : List ℤ) (v : ℤ) → i < length made → v ≡ weight_of p (get_or ws i nan)
      → take (i + 1) (set made i v) ++ map (weight_of p) (drop (i + 1) ws) ≡ take i made ++ map (weight_of p) (drop i ws)
  round_turn made v g e =
      ap (λ (j : ℕ). take j (set made i v) ++ map (weight_of p) (drop (i + 1) ws)) (add-one i)
      ∙ ap (λ (l : List ℤ). l ++ map (weight_of p) (drop (i + 1) ws)) (take-suc-set made i v g)
      ∙ append_assoc (take i made) (v ∷ []) (map (weight_of p) (drop (i + 1) ws))
      ∙ ap (λ (z : ℤ). take i made ++ z ∷ map (weight_of p) (drop (i + 1) ws)) e
      ∙ ap (λ (l : List Float). take i made ++ map (weight_of p) l) (sym next_weight)
