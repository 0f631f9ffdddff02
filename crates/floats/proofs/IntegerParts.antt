-- The integer part of q * 2 ^ s / 2 ^ 1074, and the nearest integer, as shifts of q work them out. 2 ^ 1074 is behind the name `one`: written out it is too long for a tactic.
use mathlib.Core.Path.{◌≡◌, sym, ap, ◌∙◌, subst}
use Prim.Native.Nat.{ℕ, ◌+◌, ◌-◌, ◌*◌, ◌/◌, ◌%◌, ◌^◌, ◌≤◌, ◌<◌, min}
use native.Mathlib.Nat.{le_trans, le_of_eq, lt_of_lt_of_le, lt_of_le_of_lt, mul-pos, mul_assoc, mul_comm, mul_left_comm, mul-le-mul, mul-le-mul_right, add-mul, div-eq_of_lt, le-div_iff_mul-le}
use native.Mathlib.Omega.{arith}
use lib.Arith.{digits_div}
use lib.Dec.{lit≤, lit<}
use lib.Pow.{pow_pos, pow-lt, pow-add, pow_mono, shl_lt, shl_exact, shl-shr, shr_le}
use lib.Ieee.Nearest.{div_same}
use Rattle.floats.specs.Values.{Digits}
use Rattle.floats.specs.Integers.{half_up}
use Rattle.floats.proofs.Shifts.{one_shifted}

-- ---- the cap
at_cap : (v c : ℕ) → c ≤ v → c ≡ min v c
at_cap v c h = omega arith

under_cap : (v : ℕ) → v < 2 ^ 64 → v ≡ min v (2 ^ 64 - 1)
under_cap v h = omega arith

zero_under_cap : (v c : ℕ) → v ≡ 0 → 0 ≡ min v c
zero_under_cap v c h = omega arith

-- ---- halves
half_up_of_integer : (n one : ℕ) → 0 < one → half_up (n * one) one ≡ n
half_up_of_integer n one p = ap (λ (k : ℕ). k / (2 * one)) (left n one) ∙ digits_div n (less one p)
  where
    left : (n one : ℕ) → 2 * (n * one) + one ≡ n * (2 * one) + one
    left n one = ap (λ (k : ℕ). k + one) (mul_left_comm 2 n one)

    less : (one : ℕ) → 0 < one → one < 2 * one
    less one p = omega arith

half_up_below : (a one : ℕ) → 2 * a < one → half_up a one ≡ 0
half_up_below a one h = div-eq_of_lt (less a one h)
  where
    less : (a c : ℕ) → 2 * a < c → 2 * a + c < 2 * c
    less a c h = omega arith

-- where `one` is k * u and k is two halves, the half is added before the division by k
half_up_shifted : (q half u one k : ℕ) → 0 < u → 0 < k → one ≡ k * u → k ≡ 2 * half → (q + half) / k ≡ half_up (q * u) one
half_up_shifted q half u one k U K e f =
    div_same (q + half) k (2 * (q * u) + one) (2 * one) K (mul-pos (lit< tt) (subst (λ (z : ℕ). 0 < z) (sym e) (mul-pos K U)))
    (rw (e, f) (simp (add-mul, mul_assoc, mul_comm, mul_left_comm)))

-- equal fractions round alike
pub half_up_same : (n d a c : ℕ) → 0 < d → 0 < c → n * c ≡ a * d → half_up n d ≡ half_up a c
half_up_same n d a c D C e =
    div_same (2 * n + d) (2 * d) (2 * a + c) (2 * c) (mul-pos (lit< tt) D) (mul-pos (lit< tt) C)
    (go (n * c) (a * d) (c * d) e
    (simp (add-mul, mul_assoc, mul_comm, mul_left_comm))
    (simp (add-mul, mul_assoc, mul_comm, mul_left_comm)))
  where
    go : (x y z : ℕ) → x ≡ y → (2 * n + d) * (2 * c) ≡ 2 * (2 * x) + 2 * z → (2 * a + c) * (2 * d) ≡ 2 * (2 * y) + 2 * z → (2 * n + d) * (2 * c) ≡ (2 * a + c) * (2 * d)
    go x y z e f g = omega arith

module _ (q s : ℕ) (d : Digits q s) where
  -- ---- from 2 ^ 64 on
  pub part_above : 1086 ≤ s → 2 ^ 64 - 1 ≡ min (q * 2 ^ s / 2 ^ 1074) (2 ^ 64 - 1)
  part_above h =
      at_cap (q * 2 ^ s / 2 ^ 1074) (2 ^ 64 - 1)
      ((le-div_iff_mul-le (pow_pos 1074)).1
      (le_trans (mul-le-mul_right (2 ^ 1074) (lit≤ {m = 2 ^ 64 - 1} {n = 2 ^ 64} tt)) (le_trans (le_of_eq (sym (pow-add 2 64 1074) ∙ pow-add 2 52 1086)) (mul-le-mul (d.full (lt_of_lt_of_le (lit< tt) h)) (pow_mono h)))))

  -- ---- an integer as it stands
  module _ (l : 1074 ≤ s) where
    moved : q * 2 ^ s ≡ q * 2 ^ (s - 1074) * 2 ^ 1074
    moved = ap (λ (k : ℕ). q * 2 ^ k) (sym (all s l)) ∙ ap (λ (k : ℕ). q * k) (pow-add 2 (s - 1074) 1074) ∙ sym (mul_assoc q (2 ^ (s - 1074)) (2 ^ 1074))
      where
        all : (s : ℕ) → 1074 ≤ s → s - 1074 + 1074 ≡ s
        all s l = omega arith

    quotient : q * 2 ^ s / 2 ^ 1074 ≡ q * 2 ^ (s - 1074)
    quotient = ap (λ (k : ℕ). k / 2 ^ 1074) moved ∙ shl-shr (q * 2 ^ (s - 1074)) 1074

    pub nearest_of_integer : q * 2 ^ s / 2 ^ 1074 ≡ half_up (q * 2 ^ s) (2 ^ 1074)
    nearest_of_integer = quotient ∙ sym (ap (λ (k : ℕ). half_up k (2 ^ 1074)) moved ∙ half_up_of_integer (q * 2 ^ (s - 1074)) (2 ^ 1074) (pow_pos 1074))

    pub part_left : s < 1086 → q * 2 ^ (s - 1074) % 2 ^ 64 ≡ min (q * 2 ^ s / 2 ^ 1074) (2 ^ 64 - 1)
    part_left h =
        shl_exact 53 (s - 1074) 64 d.few (room s h)
        ∙ under_cap (q * 2 ^ (s - 1074)) (lt_of_lt_of_le (shl_lt 53 (s - 1074) d.few) (pow_mono (room s h)))
        ∙ ap (λ (k : ℕ). min k (2 ^ 64 - 1)) (sym quotient)
      where
        room : (s : ℕ) → s < 1086 → 53 + (s - 1074) ≤ 64
        room s h = omega arith

  -- ---- below a half
  module _ (h : s ≤ 1010) where
    small : (n : ℕ) → 53 + s ≤ n → q * 2 ^ s < 2 ^ n
    small n r = lt_of_lt_of_le (shl_lt 53 s d.few) (pow_mono r)

    twice : (a p : ℕ) → a < p → 2 * a < 2 * p
    twice a p h = omega arith

    pub part_below : 0 ≡ min (q * 2 ^ s / 2 ^ 1074) (2 ^ 64 - 1)
    part_below = zero_under_cap (q * 2 ^ s / 2 ^ 1074) (2 ^ 64 - 1) (div-eq_of_lt (small 1074 (omega arith)))

    pub nearest_below : 0 ≡ min (half_up (q * 2 ^ s) (2 ^ 1074)) (2 ^ 64 - 1)
    nearest_below =
        zero_under_cap (half_up (q * 2 ^ s) (2 ^ 1074)) (2 ^ 64 - 1)
        (half_up_below (q * 2 ^ s) (2 ^ 1074) (lt_of_lt_of_le (twice (q * 2 ^ s) (2 ^ 1073) (small 1073 (omega arith))) (le_of_eq (sym (pow-add 2 1 1073)))))

  -- ---- with digits to drop
  module _ (l : 1010 < s) (h : s < 1074) where
    abbrev k : ℕ
    k = 1074 - s

    split : 2 ^ 1074 ≡ 2 ^ k * 2 ^ s
    split = ap (λ (n : ℕ). 2 ^ n) (sym (all s h)) ∙ pow-add 2 k s
      where
        all : (s : ℕ) → s < 1074 → 1074 - s + s ≡ 1074
        all s h = omega arith

    pub part_right : q / 2 ^ k ≡ min (q * 2 ^ s / 2 ^ 1074) (2 ^ 64 - 1)
    part_right =
        under_cap (q / 2 ^ k) (lt_of_le_of_lt (shr_le q k) (lt_of_lt_of_le d.few (lit≤ tt)))
        ∙ ap (λ (n : ℕ). min n (2 ^ 64 - 1))
        (div_same q (2 ^ k) (q * 2 ^ s) (2 ^ 1074) (pow_pos k) (pow_pos 1074) (ap (λ (n : ℕ). q * n) split ∙ again q (2 ^ k) (2 ^ s)))
      where
        again : (q k s : ℕ) → q * (k * s) ≡ q * s * k
        again q k s = simp (mul_assoc, mul_comm)

    two_halves : 2 ^ k ≡ 2 * 2 ^ (k - 1)
    two_halves = ap (λ (n : ℕ). 2 ^ n) (sym (one_less s h)) ∙ pow-add 2 1 (k - 1)
      where
        one_less : (s : ℕ) → s < 1074 → 1 + (1074 - s - 1) ≡ 1074 - s
        one_less s h = omega arith

    half_lt : 2 ^ (k - 1) < 2 ^ 63
    half_lt = pow-lt (few s l)
      where
        few : (s : ℕ) → 1010 < s → 1074 - s - 1 < 63
        few s l = omega arith

    -- the shift of 1 by k - 1 in 64 bits
    half_is : 1 * 2 ^ (k - 1) % 2 ^ 64 ≡ 2 ^ (k - 1)
    half_is = one_shifted (k - 1) (few s l)
      where
        few : (s : ℕ) → 1010 < s → 1074 - s - 1 < 64
        few s l = omega arith

    sum_lt : q + 2 ^ (k - 1) < 2 ^ 64
    sum_lt = go (2 ^ (k - 1)) half_lt d.few
      where
        go : (p : ℕ) → p < 2 ^ 63 → q < 2 ^ 53 → q + p < 2 ^ 64
        go p h g = omega arith

    pub half_fits : q + 1 * 2 ^ (k - 1) % 2 ^ 64 < 2 ^ 64
    half_fits = subst (λ (z : ℕ). q + z < 2 ^ 64) (sym half_is) sum_lt

    pub nearest_right : (q + 1 * 2 ^ (k - 1) % 2 ^ 64) / 2 ^ k ≡ min (half_up (q * 2 ^ s) (2 ^ 1074)) (2 ^ 64 - 1)
    nearest_right =
        ap (λ (z : ℕ). (q + z) / 2 ^ k) half_is
        ∙ under_cap ((q + 2 ^ (k - 1)) / 2 ^ k) (lt_of_le_of_lt (shr_le (q + 2 ^ (k - 1)) k) sum_lt)
        ∙ ap (λ (n : ℕ). min n (2 ^ 64 - 1)) (half_up_shifted q (2 ^ (k - 1)) (2 ^ s) (2 ^ 1074) (2 ^ k) (pow_pos s) (pow_pos k) split two_halves)
