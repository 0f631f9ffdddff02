-- What a caller learns from `held`: where an integer is handed out it is the rule's and it fits, and otherwise the rule's does not.
use mathlib.Core.Path.{◌≡◌, refl, sym, subst}
use mathlib.Core.Bool.{Bool, true, false, cond}
use Prim.Native.Nat.{ℕ, ◌-◌, ◌^◌, ◌<◌}
use native.Mathlib.Omega.{arith}
use lib.Dec.{T, ltb→lt}
use lib.IntN.{ℤ, pos, negsuc}
use lib.Ieee.{Float}
use lib.Ieee.Fits.{and_r}
use lib.Ieee.Scale.{finite}
use lib.Signed.{mag}
use Rattle.floats.specs.Integers.{in_bits, holds, held}
use Rattle.std.specs.Prelude.{Some, None}

pub record Handed (bits : ℕ) (x : Float) (z v : ℤ) : Type 0 where
  pub is : v ≡ z
  pub fits : holds bits x z ≡ true

pub handed : (bits : ℕ) (x : Float) (z v : ℤ) → Some v ≡ held bits x z → Handed bits x z v
unfolding held
handed bits x z v h =
    let both = go (holds bits x z) h in
    record { is = both.0; fits = both.1 }
  where
    go : (b : Bool) → Some v ≡ cond b (Some z) None → (v ≡ z) × (b ≡ true)
    go true h = ((cc), refl)
    go false h =
        let clash : ◌≡◌ {A = ℕ} 0 1 = cc in
        absurd (none clash)
      where
        none : ◌≡◌ {A = ℕ} 0 1 → ⊥
        none e = omega arith

pub outside : (bits : ℕ) (x : Float) (z : ℤ) → None ≡ held bits x z → holds bits x z ≡ false
unfolding held
outside bits x z h = go (holds bits x z) h
  where
    go : (b : Bool) → None ≡ cond b (Some z) None → b ≡ false
    go true h =
        let clash : ◌≡◌ {A = ℕ} 0 1 = cc in
        absurd (none clash)
      where
        none : ◌≡◌ {A = ℕ} 0 1 → ⊥
        none e = omega arith
    go false h = refl

-- that fit, as the machine's signed numbers have it
pub holds_mag : (bits : ℕ) (x : Float) (z : ℤ) → holds bits x z ≡ true → mag z < 2 ^ (bits - 1)
holds_mag bits x z h = go z (and_r (finite x) (in_bits bits z) (subst T (sym h) tt))
  where
    go : (z : ℤ) → T (in_bits bits z) → mag z < 2 ^ (bits - 1)
    go (pos n) t = ltb→lt n (2 ^ (bits - 1)) t
    go (negsuc n) t = ltb→lt n (2 ^ (bits - 1)) t
