-- How large whole numbers get: the absolute value of a sum and of a product, and when a number fits a signed machine width.
-- Assumes nothing.
use mathlib.Core.Path.{◌≡◌, refl}
use mathlib.Core.Bool.{Bool, true, false, cond}
use Prim.Native.Nat.{ℕ, zero, suc, ◌+◌, ◌-◌, ◌*◌, ◌≤◌}
use native.Mathlib.Nat.{le_refl, mul_comm, mul-le-mul_right}
use native.Mathlib.Omega.{arith}
use lib.Dec.{ltb}
use lib.IntN.{ℤ, pos, negsuc, neg_ℤ, nat_abs, sub_ℕ, ◌+ℤ◌, ◌*ℤ◌}
use lib.Signed.{mag}

cond-abs-le : (t : Bool) (x y : ℤ) (n : ℕ) → nat_abs x ≤ n → nat_abs y ≤ n → nat_abs (cond t x y) ≤ n
cond-abs-le true x y n h k = h
cond-abs-le false x y n h k = k

difference_abs_le : (a b : ℕ) → nat_abs (sub_ℕ a (suc b)) ≤ a + suc b
difference_abs_le a b =
    cond-abs-le (ltb a (suc b)) (negsuc (suc b - suc a)) (pos (a - suc b)) (a + suc b) (omega arith) (omega arith)

pub add-abs-le : (a b : ℤ) → nat_abs (a +ℤ b) ≤ nat_abs a + nat_abs b
add-abs-le (pos a) (pos b) = le_refl (a + b)
add-abs-le (pos a) (negsuc b) = difference_abs_le a b
add-abs-le (negsuc a) (pos b) = omega (arith, difference_abs_le b a)
add-abs-le (negsuc a) (negsuc b) = omega arith

negated_abs : (n : ℕ) → nat_abs (neg_ℤ (pos n)) ≡ n
negated_abs zero = refl
negated_abs (suc n) = refl

product_abs : (w : ℤ) (x : ℕ) → nat_abs (w *ℤ pos x) ≡ nat_abs w * x
product_abs (pos a) x = refl
product_abs (negsuc a) x = negated_abs (suc a * x)

pub product_abs_le : (m : ℕ) (w : ℤ) (x : ℕ) → x ≤ m → nat_abs (w *ℤ pos x) ≤ m * nat_abs w
product_abs_le m w x h = rw (product_abs, mul_comm) (mul-le-mul_right (nat_abs w) h)

pub mag-le-abs : (z : ℤ) → mag z ≤ nat_abs z
mag-le-abs (pos n) = le_refl n
mag-le-abs (negsuc n) = omega arith
