-- A float without a minus sign: what is made of such floats by rounding, sums, products and magnitudes is one again.
use mathlib.Core.Path.{◌≡◌, refl, ap, ◌∙◌}
use mathlib.Core.Bool.{Bool, true, false, cond, true≢false}
use mathlib.Core.List.{List, [], ◌∷◌}
use Prim.Native.Nat.{ℕ, zero, suc, ◌+◌, ◌*◌, ◌^◌}
use lib.Dec.{ltb, eqb}
use lib.Ieee.{Float, nan, inf, fin, Format, binary64, prec, emax, low, up, down, odd, units, round, sum, add, mul, of_int}
use lib.Ieee.Fits.{round_is}
use Rattle.std.specs.Float.{float_with_sign}
use Rattle.floats.specs.Values.{is_negative, magnitude}
use Rattle.quantising.specs.Scale.{◌⊕◌, ◌⊗◌, float, abs_sum_from, abs_total}

abbrev pub Unsigned : Float → Type 0
Unsigned x = is_negative x ≡ false

odd_sign : (d : ℕ) (s : Bool) (q k l : ℕ) → is_negative (odd d s q k l) ≡ s
unfolding odd
odd_sign d s zero k l = refl
odd_sign d s (suc q) k l = refl

units_sign : (f : Format) (s : Bool) (q k : ℕ) → is_negative (units f s q k) ≡ s
unfolding units
units_sign f s q k = go (ltb (q * 2 ^ k) (2 ^ (low f + suc (emax f))))
  where
    go : (b : Bool) → is_negative (cond b (odd (suc (prec f)) s q k (low f)) (inf s)) ≡ s
    go true = odd_sign (suc (prec f)) s q k (low f)
    go false = refl

pub round_sign : (f : Format) (s : Bool) (a c : ℕ) → is_negative (round f s a c) ≡ s
round_sign f s a c = ap is_negative (round_is f s a c) ∙ units_sign f s _ _

pub float_unsigned : (n : ℕ) → Unsigned (float n)
unfolding of_int
float_unsigned n = round_sign binary64 false n 1

pub magnitude_unsigned : (x : Float) → Unsigned (magnitude x)
unfolding float_with_sign
magnitude_unsigned nan = refl
magnitude_unsigned (inf s) = refl
magnitude_unsigned (fin s m e) = refl

cond_unsigned : (b : Bool) (x y : Float) → Unsigned x → Unsigned y → Unsigned (cond b x y)
cond_unsigned true x y p q = p
cond_unsigned false x y p q = q

pub add_unsigned : (x y : Float) → Unsigned x → Unsigned y → Unsigned (x ⊕ y)
unfolding add sum
add_unsigned nan y p q = refl
add_unsigned (inf true) y p q = absurd (true≢false p)
add_unsigned (inf false) nan p q = refl
add_unsigned (inf false) (inf true) p q = absurd (true≢false q)
add_unsigned (inf false) (inf false) p q = refl
add_unsigned (inf false) (fin t n d) p q = refl
add_unsigned (fin true m e) y p q = absurd (true≢false p)
add_unsigned (fin false m e) nan p q = refl
add_unsigned (fin false m e) (inf t) p q = q
add_unsigned (fin false m e) (fin true n d) p q = absurd (true≢false q)
add_unsigned (fin false m e) (fin false n d) p q = round_sign binary64 false (m * up e * down d + n * up d * down e) (down e * down d)

pub mul_unsigned : (x y : Float) → Unsigned x → Unsigned y → Unsigned (x ⊗ y)
unfolding mul
mul_unsigned nan y p q = refl
mul_unsigned (inf true) y p q = absurd (true≢false p)
mul_unsigned (inf false) nan p q = refl
mul_unsigned (inf false) (inf true) p q = absurd (true≢false q)
mul_unsigned (inf false) (inf false) p q = refl
mul_unsigned (inf false) (fin true n d) p q = absurd (true≢false q)
mul_unsigned (inf false) (fin false n d) p q = cond_unsigned (eqb n 0) nan (inf false) refl refl
mul_unsigned (fin true m e) y p q = absurd (true≢false p)
mul_unsigned (fin false m e) nan p q = refl
mul_unsigned (fin false m e) (inf true) p q = absurd (true≢false q)
mul_unsigned (fin false m e) (inf false) p q = cond_unsigned (eqb m 0) nan (inf false) refl refl
mul_unsigned (fin false m e) (fin true n d) p q = absurd (true≢false q)
mul_unsigned (fin false m e) (fin false n d) p q = round_sign binary64 false (m * up e * (n * up d)) (down e * down d)

pub sum_unsigned : (t : Float) (ws : List Float) → Unsigned t → Unsigned (abs_sum_from t ws)
sum_unsigned t [] p = p
sum_unsigned t (w ∷ ws) p = sum_unsigned (t ⊕ magnitude w) ws (add_unsigned t (magnitude w) p (magnitude_unsigned w))

pub abs_total_unsigned : (ws : List Float) → Unsigned (abs_total ws)
unfolding abs_total
abs_total_unsigned ws = sum_unsigned (float 0) ws (float_unsigned 0)
