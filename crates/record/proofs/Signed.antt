-- Raising and lowering a signed number by 2^h: each fits its bits, and the two are inverses.
use mathlib.Core.Bool.{Bool, true, false}
use mathlib.Core.Path.{◌≡◌, refl, ap}
use Prim.Native.Nat.{ℕ, suc, ◌+◌, ◌-◌, ◌^◌, ◌<◌}
use native.Mathlib.Omega.{arith}
use native.Mathlib.Nat.{pow-suc}
use borrow.Author.Tests.{lt-ltb, le-ltb, ltb-true, ltb-false}
use lib.Dec.{ltb}
use lib.IntN.{ℤ, pos, negsuc}
use lib.Signed.{mag}
use Rattle.record.specs.Signed.{raised, lowered}

-- what is lowered fits h + 1 bits, and is raised again to what it was
pub lowered_fits : (h v : ℕ) → v < 2 ^ suc h → mag (lowered h v) < 2 ^ h
lowered_fits h v l = go (ltb v (2 ^ h)) refl
  where
    go : (t : Bool) → ltb v (2 ^ h) ≡ t → mag (lowered h v) < 2 ^ h
    go true e = rw e (omega (arith, ltb-true v (2 ^ h) e))
    go false e = rw e (omega (arith, ltb-false v (2 ^ h) e, pow-suc 2 h))

pub raised_lowered : (h v : ℕ) → raised h (lowered h v) ≡ v
raised_lowered h v = go (ltb v (2 ^ h)) refl
  where
    go : (t : Bool) → ltb v (2 ^ h) ≡ t → raised h (lowered h v) ≡ v
    go true e = rw e (omega (arith, ltb-true v (2 ^ h) e))
    go false e = rw e (omega (arith, ltb-false v (2 ^ h) e))

-- what is raised fits h + 1 bits, and is lowered again to what it was
pub raised_fits : (h : ℕ) (z : ℤ) → mag z < 2 ^ h → raised h z < 2 ^ suc h
raised_fits h (pos n) l = omega (arith, pow-suc 2 h)
raised_fits h (negsuc n) l = omega (arith, pow-suc 2 h)

pub lowered_raised : (h : ℕ) (z : ℤ) → mag z < 2 ^ h → lowered h (raised h z) ≡ z
lowered_raised h (pos n) l = rw (le-ltb (2 ^ h + n) (2 ^ h) (omega arith)) (ap pos (omega arith))
lowered_raised h (negsuc n) l = rw (lt-ltb (2 ^ h - suc n) (2 ^ h) (omega arith)) (ap negsuc (omega arith))
