-- What n roundings to nearest can lose together: each keeps all but one part in 2 ^ 52, and 35 of them all but one part in nine.
use mathlib.Core.Path.{◌≡◌, sym, ap, ◌∙◌}
use Prim.Native.Nat.{ℕ, zero, suc, ◌+◌, ◌-◌, ◌*◌, ◌^◌, ◌≤◌, ◌<◌}
use native.Mathlib.Nat.{le_trans, le_of_eq, le_refl, mul-pos, mul_assoc, mul_comm, mul_left_comm, mul_right_comm, mul-le-mul_left, mul-le-mul_right, add-mul, le_of_mul-le-mul_right, add-le-add}
use native.Mathlib.Omega.{arith}
use lib.Dec.{lit<}

-- (2 ^ 52 - 1) ^ n, and 2 ^ 52 ^ n
unfoldable pub low : ℕ → ℕ
low zero = 1
low (suc n) = (2 ^ 52 - 1) * low n

unfoldable pub high : ℕ → ℕ
high zero = 1
high (suc n) = 2 ^ 52 * high n

low_pos : (n : ℕ) → 0 < low n
unfolding low
low_pos zero = lit< tt
low_pos (suc n) = mul-pos (lit< {m = 0} {n = 2 ^ 52 - 1} tt) (low_pos n)

low_le : (n : ℕ) → low n ≤ high n
unfolding low high
low_le zero = le_refl 1
low_le (suc n) = go (low n) (high n) (low_le n)
  where
    go : (l h : ℕ) → l ≤ h → 4503599627370495 * l ≤ 4503599627370496 * h
    go l h k = omega arith

lost : (n : ℕ) → high n * 2 ^ 52 ≤ low n * 2 ^ 52 + n * high n
unfolding low high
lost zero = go
  where
    go : 1 * 4503599627370496 ≤ 1 * 4503599627370496 + 0 * 1
    go = omega arith
lost (suc n) = go (low n) (high n) (n * high n) (lost n) (low_le n) (suc n * (2 ^ 52 * high n)) (again n (high n))
  where
    again : (n h : ℕ) → suc n * (4503599627370496 * h) ≡ 4503599627370496 * (n * h + h)
    again n h = mul_left_comm (suc n) 4503599627370496 h ∙ ap (λ (z : ℕ). 4503599627370496 * z) (one n h)
      where
        one : (n h : ℕ) → suc n * h ≡ n * h + h
        one n h = omega arith

    go : (l h v : ℕ) → h * 4503599627370496 ≤ l * 4503599627370496 + v → l ≤ h → (w : ℕ) → w ≡ 4503599627370496 * (v + h) → 4503599627370496 * h * 4503599627370496 ≤ 4503599627370495 * l * 4503599627370496 + w
    go l h v a b w e = omega arith

most_kept : (n : ℕ) → n ≤ 35 → 8 * high n ≤ 9 * low n
most_kept n h = go (high n) (low n) (n * high n) (lost n) (mul-le-mul_right (high n) h)
  where
    go : (h l v : ℕ) → h * 4503599627370496 ≤ l * 4503599627370496 + v → v ≤ 35 * h → 8 * h ≤ 9 * l
    go h l v a b = omega arith

-- a, of which n roundings have left z
pub record Under (a z n : ℕ) : Type 0 where
  pub kept : a * low n ≤ z * high n

pub under_start : Under 0 0 0
unfolding low high
under_start = record { kept = le_refl 0 }

pub under_round : (a z y n : ℕ) → Under a z n → z * (2 ^ 52 - 1) ≤ y * 2 ^ 52 → Under a y (suc n)
unfolding low high
under_round a z y n u h = record {
  kept =
      le_trans (le_of_eq (mul_left_comm a (2 ^ 52 - 1) (low n)))
      (le_trans (mul-le-mul_left (2 ^ 52 - 1) u.kept)
      (le_trans (le_of_eq (sym (mul_assoc (2 ^ 52 - 1) z (high n)) ∙ ap (λ (k : ℕ). k * high n) (mul_comm (2 ^ 52 - 1) z))) (le_trans (mul-le-mul_right (high n) h) (le_of_eq (mul_assoc y (2 ^ 52) (high n))))));
}

pub under_add : (a z b n : ℕ) → Under a z n → Under (a + b) (z + b) n
under_add a z b n u = record { kept = le_trans (le_of_eq (add-mul a b (low n))) (le_trans (add-le-add u.kept (mul-le-mul_left b (low_le n))) (le_of_eq (sym (add-mul z b (high n))))) }

pub under_mul : (a z m n : ℕ) → Under a z n → Under (a * m) (z * m) n
under_mul a z m n u = record { kept = le_trans (le_of_eq (mul_right_comm a m (low n))) (le_trans (mul-le-mul_right m u.kept) (le_of_eq (mul_right_comm z (high n) m))) }

pub under_all : (a z n : ℕ) → Under a z n → n ≤ 35 → 8 * a ≤ 9 * z
under_all a z n u h =
    le_of_mul-le-mul_right
    (le_trans (le_of_eq (mul_assoc 8 a (low n)))
    (le_trans (mul-le-mul_left 8 u.kept)
    (le_trans (le_of_eq (mul_left_comm 8 z (high n))) (le_trans (mul-le-mul_left z (most_kept n h)) (le_of_eq (mul_left_comm z 9 (low n) ∙ sym (mul_assoc 9 z (low n))))))))
    (low_pos n)
