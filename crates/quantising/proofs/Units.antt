-- Finite floats counted in units of 2 ^ -1074, the least float above zero: what rounding to nearest can lose of a sum and of a product, and that a product with 2 ^ q loses nothing.
use mathlib.Core.Path.{◌≡◌, sym, ap, ap₂, ◌∙◌, subst}
use mathlib.Core.Bool.{Bool, true, false, true≢false}
use Prim.Native.Nat.{ℕ, zero, suc, ◌+◌, ◌-◌, ◌*◌, ◌/◌, ◌%◌, ◌^◌, ◌≤◌, ◌<◌, compare}
use native.Mathlib.Nat.{le_trans, le_of_eq, mul-one, mul-pos, mul_assoc, mul_comm, mul_right_comm, mul-mul-mul_comm, mul-le-mul_right, add-mul, mul-div_cancel, mod-lt, eq_of_mul-eq-mul_right}
use native.Mathlib.Omega.{arith}
use lib.Dec.{T}
use lib.Pow.{pow_pos, pow-add, split}
use lib.Ieee.{Float, nan, inf, fin, binary64, up, down, unlike, size, round, add, sum, mul, of_int}
use lib.Ieee.Back.{round_whole}
use lib.Ieee.Digits.{size_reaches}
use lib.Ieee.Exact.{HasValue, round_exact}
use lib.Ieee.Fits.{down_pos}
use lib.Ieee.Nearest.{nearest-ge, div_same}
use lib.Ieee.Positive.{num, den, value→cross}
use lib.Ieee.Scale.{finite, grid, round_same, round_under, round_val}
use Rattle.quantising.specs.Scale.{◌⊕◌, ◌⊗◌, float}
use Rattle.quantising.proofs.Unsigned.{Unsigned}

-- x is finite, and n units in size
pub record Counts (x : Float) (n : ℕ) : Type 0 where
  pub is_finite : T (finite x)
  pub size_is : num x * 2 ^ 1074 ≡ n * den x

-- z is what a units are rounded to: less than one part in 2 ^ 52 is lost
pub record Near (z : Float) (a : ℕ) : Type 0 where
  pub count : ℕ
  pub counts : Counts z count
  pub kept : a * (2 ^ 52 - 1) ≤ count * 2 ^ 52

-- ---- rounding
near_grid : (a U : ℕ) (g : ℕ) → 0 < U → (k : ℕ) → k ≡ size a - 53 → a * U / (U * 2 ^ k) * 2 ^ k ≤ g → a * (2 ^ 52 - 1) ≤ g * 2 ^ 52
near_grid a U g u k e h = go k e (subst (λ (n : ℕ). n * 2 ^ k ≤ g) (div_same (a * U) (U * 2 ^ k) a (2 ^ k) (mul-pos u (pow_pos k)) (pow_pos k) (mul_assoc a U (2 ^ k))) h)
  where
    kept_all : (a g : ℕ) → a ≤ g → a * 4503599627370495 ≤ g * 4503599627370496
    kept_all a g h = omega arith

    lost : (a g p r : ℕ) → g + r ≡ a → r < p → p * 4503599627370496 ≤ a → a * 4503599627370495 ≤ g * 4503599627370496
    lost a g p r e h k = omega arith

    widen : (g h : ℕ) → g ≤ h → g * 4503599627370496 ≤ h * 4503599627370496
    widen g h l = omega arith

    room : (k z : ℕ) → suc k ≡ z - 53 → 52 + suc k < z
    room k z e = omega arith

    go : (k : ℕ) → k ≡ size a - 53 → a / 2 ^ k * 2 ^ k ≤ g → a * (2 ^ 52 - 1) ≤ g * 2 ^ 52
    go zero e h = kept_all a g (le_trans (le_of_eq (sym (split a 0) ∙ rest a)) h)
      where
        rest : (a : ℕ) → a / 1 * 1 + a % 1 ≡ a / 1 * 1
        rest a = omega arith
    go (suc k) e h =
        le_trans
        (lost a (a / 2 ^ suc k * 2 ^ suc k) (2 ^ suc k) (a % 2 ^ suc k) (split a (suc k)) (mod-lt a (pow_pos (suc k)))
        (le_trans (le_of_eq (mul_comm (2 ^ suc k) (2 ^ 52) ∙ sym (pow-add 2 52 (suc k)))) (size_reaches a (52 + suc k) (room k (size a) e))))
        (widen (a / 2 ^ suc k * 2 ^ suc k) g h)

rounded_near : (z : Float) (a : ℕ) → z ≡ round binary64 false a (2 ^ 1074) → T (finite z) → Near z a
rounded_near z a e f =
    let r = round binary64 false a (2 ^ 1074) in
    let g = grid binary64 a (2 ^ 1074) in
    let k = size (a * 2 ^ 1074 / 2 ^ 1074) - 53 in
    let u = 2 ^ 1074 * 2 ^ k in
    let v : HasValue r false g (2 ^ 1074) = round_val binary64 a (2 ^ 1074) (round_under binary64 a (2 ^ 1074) (subst (λ (x : Float). T (finite x)) e f)) in
    record {
      count = g;
      counts = record { is_finite = f; size_is = subst (λ (x : Float). num x * 2 ^ 1074 ≡ g * den x) (sym e) (value→cross r g (2 ^ 1074) v) };
      kept = near_grid a (2 ^ 1074) g (pow_pos 1074) k (ap (λ (n : ℕ). size n - 53) (mul-div_cancel a (pow_pos 1074)))
          (mul-le-mul_right (2 ^ k) (nearest-ge (a * 2 ^ 1074 / u) (compare (a * 2 ^ 1074 % u * 2) u)));
    }

-- ---- a sum
cross_add : (a b X Y U p q : ℕ) → a * U ≡ X * p → b * U ≡ Y * q → (a * q + b * p) * U ≡ (X + Y) * (p * q)
cross_add a b X Y U p q e f =
    add-mul (a * q) (b * p) U
    ∙ ap₂ (λ (x y : ℕ). x + y)
    (mul_right_comm a q U ∙ ap (λ (z : ℕ). z * q) e ∙ mul_assoc X p q)
    (mul_right_comm b p U ∙ ap (λ (z : ℕ). z * p) f ∙ mul_assoc Y q p ∙ ap (λ (z : ℕ). Y * z) (mul_comm q p))
    ∙ sym (add-mul X Y (p * q))

pub add_near : (x y : Float) (X Y : ℕ) → Unsigned x → Unsigned y → Counts x X → Counts y Y → T (finite (x ⊕ y)) → Near (x ⊕ y) (X + Y)
unfolding add sum
add_near nan y X Y u v c d f = absurd c.is_finite
add_near (inf s) y X Y u v c d f = absurd c.is_finite
add_near (fin true m e) y X Y u v c d f = absurd (true≢false u)
add_near (fin false m e) nan X Y u v c d f = absurd d.is_finite
add_near (fin false m e) (inf s) X Y u v c d f = absurd d.is_finite
add_near (fin false m e) (fin true n g) X Y u v c d f = absurd (true≢false v)
add_near (fin false m e) (fin false n g) X Y u v c d f =
    rounded_near _ (X + Y)
    (round_same binary64 false (m * up e * down g + n * up g * down e) (down e * down g) (X + Y) (2 ^ 1074) (mul-pos (down_pos e) (down_pos g)) (pow_pos 1074)
    (cross_add (m * up e) (n * up g) X Y (2 ^ 1074) (down e) (down g) c.size_is d.size_is))
    f

-- ---- a product with an integer
cross_mul : (a b X M U p q : ℕ) → a * U ≡ X * p → b ≡ M * q → a * b * U ≡ X * M * (p * q)
cross_mul a b X M U p q e f = mul_right_comm a b U ∙ ap₂ (λ (x y : ℕ). x * y) e f ∙ mul-mul-mul_comm X p M q

-- y is the integer M
pub record IsInteger (y : Float) (M : ℕ) : Type 0 where
  pub value : HasValue y false M 1

pub integer_float : (n : ℕ) → n ≤ 2 ^ 53 → IsInteger (float n) n
unfolding of_int
integer_float n h = record { value = round_whole binary64 false n h }

integer_cross : (a M q : ℕ) → a * 1 ≡ M * q → a ≡ M * q
integer_cross a M q e = sym (mul-one a) ∙ e

pub mul_near : (x y : Float) (X M : ℕ) → Unsigned x → Counts x X → IsInteger y M → T (finite (x ⊗ y)) → Near (x ⊗ y) (X * M)
unfolding mul
mul_near nan y X M u c w f = absurd c.is_finite
mul_near (inf s) y X M u c w f = absurd c.is_finite
mul_near (fin true m e) y X M u c w f = absurd (true≢false u)
mul_near (fin false m e) nan X M u c w f = absurd w.value
mul_near (fin false m e) (inf s) X M u c w f = absurd w.value
mul_near (fin false m e) (fin true n g) X M u c w f = absurd (true≢false w.value.0)
mul_near (fin false m e) (fin false n g) X M u c w f =
    rounded_near _ (X * M)
    (round_same binary64 false (m * up e * (n * up g)) (down e * down g) (X * M) (2 ^ 1074) (mul-pos (down_pos e) (down_pos g)) (pow_pos 1074)
    (cross_mul (m * up e) (n * up g) X M (2 ^ 1074) (down e) (down g) c.size_is (integer_cross (n * up g) M (down g) w.value.1)))
    f

-- ---- a product with 2 ^ q is exact, where it does not overflow
across : (y : Float) (s : Bool) (a c w : ℕ) → 0 < c → a * 2 ^ 1074 ≡ w * c → HasValue y s a c → Counts y w
across nan s a c w C e v = absurd v
across (inf t) s a c w C e v = absurd v
across (fin t m f) s a c w C e v = record {
  is_finite = tt;
  size_is =
      eq_of_mul-eq-mul_right c C (m * up f * 2 ^ 1074) (w * down f)
      (mul_right_comm (m * up f) (2 ^ 1074) c ∙ ap (λ (z : ℕ). z * 2 ^ 1074) v.1 ∙ mul_right_comm a (down f) (2 ^ 1074) ∙ ap (λ (z : ℕ). z * down f) e ∙ mul_right_comm w c (down f));
}

pub scale_exact : (x y : Float) (s : Bool) (d k q : ℕ) → HasValue x s (d * 2 ^ k) (2 ^ 1074) → d < 2 ^ 53 → IsInteger y (2 ^ q) → d * 2 ^ k * 2 ^ q < 2 ^ 2098 → Counts (x ⊗ y) (d * 2 ^ k * 2 ^ q)
unfolding mul
scale_exact nan y s d k q v h w l = absurd v
scale_exact (inf t) y s d k q v h w l = absurd v
scale_exact (fin t m e) nan s d k q v h w l = absurd w.value
scale_exact (fin t m e) (inf r) s d k q v h w l = absurd w.value
scale_exact (fin t m e) (fin r n g) s d k q v h w l =
    let a = m * up e * (n * up g) in
    let c = down e * down g in
    let C : 0 < c = mul-pos (down_pos e) (down_pos g) in
    let same : d * 2 ^ (k + q) ≡ d * 2 ^ k * 2 ^ q = ap (λ (z : ℕ). d * z) (pow-add 2 k q) ∙ sym (mul_assoc d (2 ^ k) (2 ^ q)) in
    let is : a * 2 ^ 1074 ≡ d * 2 ^ k * 2 ^ q * c = cross_mul (m * up e) (n * up g) (d * 2 ^ k) (2 ^ q) (2 ^ 1074) (down e) (down g) v.1 (integer_cross (n * up g) (2 ^ q) (down g) w.value.1) in
    across (round binary64 (unlike t r) a c) (unlike t r) a c (d * 2 ^ k * 2 ^ q) C is
    (round_exact binary64 (unlike t r) a c d (k + q) C h (subst (λ (z : ℕ). z < 2 ^ 2098) (sym same) l) (is ∙ ap (λ (z : ℕ). z * c) (sym same)))
