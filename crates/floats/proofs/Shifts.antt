-- 1 << n in 64 bits is 2 ^ n.
use mathlib.Core.Path.{◌≡◌, ap, ◌∙◌}
use Prim.Native.Nat.{ℕ, ◌*◌, ◌%◌, ◌^◌, ◌<◌}
use native.Mathlib.Nat.{one-mul, mod-eq_of_lt}
use lib.Pow.{pow-lt}

pub one_shifted : (n : ℕ) → n < 64 → 1 * 2 ^ n % 2 ^ 64 ≡ 2 ^ n
one_shifted n h = ap (λ (z : ℕ). z % 2 ^ 64) (one-mul (2 ^ n)) ∙ mod-eq_of_lt (pow-lt {i = n} {j = 64} h)
