-- Sums and differences modulo n, as the machine's wrapping operations give them.
-- Assumes nothing.
use mathlib.Core.Path.{◌≡◌, sym, ap, ◌∙◌}
use Prim.Native.Nat.{ℕ, zero, suc, ◌+◌, ◌-◌, ◌%◌, ◌^◌, ◌<◌}
use native.Mathlib.Nat.{mod-eq_of_lt, add-mod_right, mod-add-mod, two-pow-succ}
use native.Mathlib.Omega.{arith}
use Rattle.rule.specs.Numbers.{centre}
use Rattle.rule.specs.Coding.{toggled, residual}

module _ (n y : ℕ) (below : y < n) where
  whole : (d : ℕ) → d + n ≡ d + y + (n - y)
  whole d = omega arith

  -- what a wrapping difference says of itself, solved for it
  difference_is : (d x : ℕ) → d < n → (d + y) % n ≡ x → d ≡ (x + (n - y)) % n
  difference_is d x h e =
      sym (mod-eq_of_lt h) ∙ sym (add-mod_right d n) ∙ ap (λ (k : ℕ). k % n) (whole d) ∙ sym (mod-add-mod (d + y) n (n - y))
      ∙ ap (λ (k : ℕ). (k + (n - y)) % n) e

-- a wrapping difference with MID added is the residual
pub toggled_difference : (W x y d : ℕ) → y < 2 ^ W → d < 2 ^ W → (d + y) % 2 ^ W ≡ x → toggled W d ≡ residual W x y
unfolding toggled residual
toggled_difference W x y d below h e =
    ap (λ (k : ℕ). (k + centre W) % 2 ^ W) (difference_is (2 ^ W) y below d x h e) ∙ mod-add-mod (x + (2 ^ W - y)) (2 ^ W) (centre W)

-- MID twice is nothing
pub centre_twice : (W x : ℕ) → (x + (centre W + centre W)) % 2 ^ W ≡ x % 2 ^ W
centre_twice zero x = omega arith
centre_twice (suc W) x = rw (less, ← two-pow-succ) (add-mod_right x (2 ^ suc W))
  where
    less : suc W - 1 ≡ W
    less = omega arith
