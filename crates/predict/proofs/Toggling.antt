-- MID in every place, and MID off what it was on: over the width W.
-- Assumes nothing.
use mathlib.Core.Path.{◌≡◌, refl, sym, ap₂, ◌∙◌}
use mathlib.Core.List.{List, [], ◌∷◌, map}
use Prim.Native.Nat.{ℕ, suc, ◌+◌, ◌%◌, ◌^◌, ◌<◌}
use native.Mathlib.Nat.{mod-add-mod, mod-eq_of_lt}
use native.Mathlib.Omega.{arith}
use lib.ListN.{length, get_or, length-map, get_or-map}
use lib.Seq.{ext_get_or}
use Rattle.rule.specs.Numbers.{centre}
use Rattle.rule.specs.Coding.{tabulate, toggled, restored}
use Rattle.rule.proofs.Filling.{length-tabulate, get_d_tabulate}
use Rattle.rule.proofs.Wrapping.{centre_twice}

module _ (W : ℕ) where
  toggled_twice : (x : ℕ) → x < 2 ^ W → toggled W (toggled W x) ≡ x
  unfolding toggled
  toggled_twice x h = rw (mod-add-mod (x + centre W) (2 ^ W) (centre W), again, centre_twice W x) (mod-eq_of_lt h)
    where
      again : x + centre W + centre W ≡ x + (centre W + centre W)
      again = omega arith

  pub all_twice : (xs : List ℕ) → ((i : ℕ) → get_or xs i 0 < 2 ^ W) → map (toggled W) (map (toggled W) xs) ≡ xs
  all_twice [] h = refl
  all_twice (x ∷ xs) h = ap₂ (λ (y : ℕ) (ys : List ℕ). y ∷ ys) (toggled_twice x (h 0)) (all_twice xs (λ i. h (suc i)))

  -- a residual that has MID off already
  pub restored-toggled : (r y : ℕ) → restored W (toggled W r) y ≡ (r + y) % 2 ^ W
  unfolding restored toggled
  restored-toggled r y =
      rw (mod-add-mod (r + centre W) (2 ^ W) (centre W), mod-add-mod (r + centre W + centre W) (2 ^ W) y, again) (centre_twice W (r + y))
    where
      again : r + centre W + centre W + y ≡ r + y + (centre W + centre W)
      again = omega arith

  -- the table that a loop fills
  pub all_toggled : (xs : List ℕ) → tabulate (length xs) (λ (i : ℕ). toggled W (get_or xs i 0)) ≡ map (toggled W) xs
  all_toggled xs =
      let f : ℕ → ℕ = λ i. toggled W (get_or xs i 0) in
      ext_get_or (toggled W 0) (tabulate (length xs) f) (map (toggled W) xs)
      (length-tabulate (length xs) f ∙ sym (length-map xs (toggled W)))
      (λ i h. get_d_tabulate (length xs) f i (toggled W 0) (omega (arith, length-tabulate (length xs) f)) ∙ sym (get_or-map (toggled W) xs i 0))
