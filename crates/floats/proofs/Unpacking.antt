-- A finite float's bit pattern read by fields gives its sign, digits and shift, and no other sign, digits and shift are that float's.
use mathlib.Core.Path.{◌≡◌, refl, sym, ap, ◌∙◌, subst}
use mathlib.Core.Bool.{Bool, true, false, not, cond}
use Prim.Native.Nat.{ℕ, zero, suc, ◌+◌, ◌-◌, ◌*◌, ◌/◌, ◌%◌, ◌^◌, ◌≤◌, ◌<◌}
use native.Mathlib.Nat.{mod-lt, lt_irrefl, le_trans, le_of_eq, le_antisymm, le_of_suc-le-suc, lt_of_not-le, lt_of_le_of_lt, mul-le-mul_right, eq_of_mul-eq-mul_right}
use native.Mathlib.Omega.{arith}
use lib.Dec.{T, eqb, eqb→eq}
use lib.Pow.{pow_pos, pow-add, pow_mono, shl_lt}
use lib.Ieee.{Float, nan, inf, fin, binary64, of_fields, to_bits, odd, fits}
use lib.Ieee.Fits.{eq→eqb}
use lib.Ieee.Exact.{HasValue, odd_sign}
use lib.Ieee.Scale.{finite}
use lib.Ieee.Positive.{num, den, den_pos}
use Rattle.std.specs.Float.{float_with_sign, is_sign_negative}
use Rattle.floats.specs.Values.{magnitude, Digits, Unpacked, is_negative}
use Rattle.floats.proofs.Patterns.{sign_finite, pattern_small, by_fields}

-- ---- what a value says of a float
pub value_finite : (x : Float) (s : Bool) (a c : ℕ) → HasValue x s a c → finite x ≡ true
value_finite nan s a c v = absurd v
value_finite (inf t) s a c v = absurd v
value_finite (fin t m e) s a c v = refl

pub value_sign : (x : Float) (s : Bool) (a c : ℕ) → HasValue x s a c → is_negative x ≡ s
value_sign nan s a c v = absurd v
value_sign (inf t) s a c v = absurd v
value_sign (fin t m e) s a c v = v.0

pub value_size : (x : Float) (s : Bool) (a c : ℕ) → HasValue x s a c → num x * c ≡ a * den x
value_size nan s a c v = absurd v
value_size (inf t) s a c v = absurd v
value_size (fin t m e) s a c v = v.1

-- ---- the fields

low_lt : (b : ℕ) → b % 4503599627370496 < 4503599627370496
low_lt b = mod-lt b (pow_pos 52)

field_lt : (b : ℕ) → b < 9223372036854775808 → b / 4503599627370496 < 2048
field_lt b h = omega arith

unpacked_first : (s : Bool) (low : ℕ) → low < 2 ^ 52 → Unpacked (of_fields binary64 s 0 low) s low 0
unfolding of_fields
unpacked_first s low h =
    record { value = odd_sign 53 s low 0 1074; held = record { few = omega arith; full = λ (k : 0 < 0). absurd (lt_irrefl 0 k) }; bound = omega arith }

-- the last field is an infinity's or a NaN's
not_last : (last zero? s : Bool) (v : Float) → T (finite (cond last (cond zero? (inf s) nan) v)) → (cond last (cond zero? (inf s) nan) v ≡ v) × T (not last)
not_last true true s v p = absurd p
not_last true false s v p = absurd p
not_last false b s v p = (refl, tt)

unpacked_later : (s : Bool) (j low : ℕ) → suc j < 2048 → low < 2 ^ 52 → T (finite (of_fields binary64 s (suc j) low)) → Unpacked (of_fields binary64 s (suc j) low) s (2 ^ 52 + low) j
unfolding of_fields
unpacked_later s j low b h p =
    let v = odd 53 s (2 ^ 52 + low) j 1074 in
    let is = not_last (eqb (suc j) 2047) (eqb low 0) s v p in
    record {
      value = subst (λ (k : Float). HasValue k s ((2 ^ 52 + low) * 2 ^ j) (2 ^ 1074)) (sym is.0) (odd_sign 53 s (2 ^ 52 + low) j 1074);
      held = record { few = omega arith; full = λ (k : 0 < j). omega arith };
      bound = under (eqb (suc j) 2047) (λ (e : suc j ≡ 2047). eq→eqb e) is.1;
    }
  where
    under : (last : Bool) → (suc j ≡ 2047 → T last) → T (not last) → j ≤ 2045
    under true f n = absurd n
    under false f n = out f
      where
        out : (suc j ≡ 2047 → ⊥) → j ≤ 2045
        out f = omega arith

-- a magnitude's parts with the float's sign
with_its_sign : (x : Float) (q k : ℕ) → T (finite x) → Unpacked (magnitude x) false q k → Unpacked x (is_sign_negative x) q k
unfolding float_with_sign is_sign_negative
with_its_sign nan q k p u = absurd p
with_its_sign (inf s) q k p u = absurd p
with_its_sign (fin s m e) q k p u = record { value = (refl, u.value.1); held = u.held; bound = u.bound }

module _ (x : Float) (F : T (fits binary64 x)) (p : T (finite x)) where
  abbrev b : ℕ
  b = to_bits binary64 (magnitude x)

  abbrev field : ℕ
  field = b / 2 ^ 52

  abbrev low : ℕ
  low = b % 2 ^ 52

  pub unpacked_at_first : field ≡ 0 → Unpacked x (is_sign_negative x) low 0
  unpacked_at_first e =
      with_its_sign x low 0 p
      (subst (λ (k : Float). Unpacked k false low 0) (ap (λ (k : ℕ). of_fields binary64 false k low) (sym e) ∙ by_fields x F p)
      (unpacked_first false low (low_lt b)))

  pub unpacked_at_later : (field ≡ 0 → ⊥) → Unpacked x (is_sign_negative x) (2 ^ 52 + low) (field - 1)
  unpacked_at_later n = with_its_sign x (2 ^ 52 + low) (field - 1) p (go field (field_lt b (pattern_small x F p)) (by_fields x F p) n)
    where
      less : (j : ℕ) → j ≡ suc j - 1
      less j = omega arith

      go : (f : ℕ) → f < 2048 → of_fields binary64 false f low ≡ magnitude x → (f ≡ 0 → ⊥) → Unpacked (magnitude x) false (2 ^ 52 + low) (f - 1)
      go zero l e n = absurd (n refl)
      go (suc j) l e n =
          subst (λ (k : ℕ). Unpacked (magnitude x) false (2 ^ 52 + low) k) (less j)
          (subst (λ (k : Float). Unpacked k false (2 ^ 52 + low) j) e (unpacked_later false j low l (low_lt b) (subst (λ (k : Float). T (finite k)) (sym e) (sign_finite false x p))))

-- ---- and they are the only parts of it: digits that are shifted have their leading one, so no other shift gives that size
shift_least : (p q k l : ℕ) → Digits p k → Digits q l → p * 2 ^ k ≡ q * 2 ^ l → l ≤ k
shift_least p q k l d e same = le_of_suc-le-suc (lt_of_not-le (λ (h : suc k ≤ l). lt_irrefl (2 ^ (53 + k)) (lt_of_le_of_lt (le_trans (pow_mono (next k l h)) (le_trans (le_of_eq (pow-add 2 52 l)) (le_trans (mul-le-mul_right (2 ^ l) (e.full (some k l h))) (le_of_eq (sym same))))) (shl_lt 53 k d.few))))
  where
    next : (k l : ℕ) → k < l → 53 + k ≤ 52 + l
    next k l h = omega arith

    some : (k l : ℕ) → k < l → 0 < l
    some k l h = omega arith

digits_once : (p q k l : ℕ) → Digits p k → Digits q l → p * 2 ^ k ≡ q * 2 ^ l → (p ≡ q) × (k ≡ l)
digits_once p q k l d e same =
    let shifts : k ≡ l = le_antisymm (shift_least q p l k e d (sym same)) (shift_least p q k l d e same) in
    (eq_of_mul-eq-mul_right (2 ^ k) (pow_pos k) p q (same ∙ ap (λ (n : ℕ). q * 2 ^ n) (sym shifts)), shifts)

pub unpacked_once : (x : Float) (s t : Bool) (p q k l : ℕ) → Unpacked x s p k → Unpacked x t q l → (s ≡ t) × (p ≡ q) × (k ≡ l)
unpacked_once x s t p q k l u v =
    let sizes : p * 2 ^ k ≡ q * 2 ^ l =
    eq_of_mul-eq-mul_right (den x) (den_pos x) (p * 2 ^ k) (q * 2 ^ l) (sym (value_size x s (p * 2 ^ k) (2 ^ 1074) u.value) ∙ value_size x t (q * 2 ^ l) (2 ^ 1074) v.value) in
    let parts = digits_once p q k l u.held v.held sizes in
    (sym (value_sign x s (p * 2 ^ k) (2 ^ 1074) u.value) ∙ value_sign x t (q * 2 ^ l) (2 ^ 1074) v.value, parts.0, parts.1)

-- ---- each finite float that the format holds has such parts
pub record Packed (x : Float) : Type 0 where
  pub negative : Bool
  pub digits : ℕ
  pub shift : ℕ
  pub parts : Unpacked x negative digits shift

abbrev field_of : Float → ℕ
field_of x = to_bits binary64 (magnitude x) / 2 ^ 52

pub packed : (x : Float) → T (fits binary64 x) → T (finite x) → Packed x
packed x F p = go (eqb (field_of x) 0) (eqb→eq (field_of x) 0) (λ (e : field_of x ≡ 0). eq→eqb e)
  where
    go : (b : Bool) → (T b → field_of x ≡ 0) → (field_of x ≡ 0 → T b) → Packed x
    go true f g = record { negative = _; digits = _; shift = _; parts = unpacked_at_first x F p (f tt) }
    go false f g = record { negative = _; digits = _; shift = _; parts = unpacked_at_later x F p g }
