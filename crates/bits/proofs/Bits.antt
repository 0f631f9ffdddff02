-- Laws of single bits: what replacing a bit does to that bit, to the others and to the size of a byte, first of a number and then of a byte list.
use mathlib.Core.List.{List}
use mathlib.Core.Path.{◌≡◌, sym, ap, ◌∙◌}
use Prim.Native.Nat.{ℕ, ◌+◌, ◌-◌, ◌*◌, ◌/◌, ◌%◌, ◌^◌, ◌<◌, ◌≤◌}
use native.Mathlib.Nat.{pow-suc, mod-lt, div-eq_of_lt, add-mul-div_right, add-mul-mod_self_right, mul_assoc, add-mul, mul_comm, mul-le-mul_right}
use native.Mathlib.Numerals.{add-one}
use native.Mathlib.Omega.{arith}
use native.Mathlib.Decide.{ℕ_discrete, dec_lt}
use lib.Arith.{digits_lt}
use lib.ListN.{length, get_or}
use lib.Pow.{pow_pos, pow-add, field, mod-mod-pow, shr_lt, shr-shr}
use lib.Seq.{get_or-set_same, get_or-set_other, set_out}
use Rattle.bits.specs.Fields.{bit_of, replaced, bit_at, with_bit}

-- the bits below p, and above them x and the bits above p
regrouped : (b p x : ℕ) → replaced b p x ≡ b % 2 ^ p + (x + b / 2 ^ (p + 1) * 2) * 2 ^ p
regrouped b p x =
    let h = b / 2 ^ (p + 1) in
    let e : h * 2 ^ (p + 1) ≡ h * 2 * 2 ^ p
    = ap (λ (n : ℕ). h * n) (ap (λ (n : ℕ). 2 ^ n) (add-one p) ∙ pow-suc 2 p ∙ mul_comm (2 ^ p) 2) ∙ sym (mul_assoc h 2 (2 ^ p)) in
    omega (arith, e, add-mul x (h * 2) (2 ^ p))

-- what stands up to bit p is below 2^(p+1)
low_lt : (b p x : ℕ) → x < 2 → b % 2 ^ p + x * 2 ^ p < 2 ^ (p + 1)
low_lt b p x h =
    let s : x * 2 ^ p ≤ 1 * 2 ^ p = mul-le-mul_right (2 ^ p) (omega arith) in
    let e : 2 ^ (p + 1) ≡ 2 ^ p * 2 = ap (λ (n : ℕ). 2 ^ n) (add-one p) ∙ pow-suc 2 p in
    omega (arith, mod-lt b (pow_pos p), s, e)

pub replaced_lt : (b p x : ℕ) → b < 256 → p < 8 → x < 2 → replaced b p x < 256
replaced_lt b p x hb hp hx =
    let d = 7 - p in
    let e : d + (p + 1) ≡ 8 = omega arith in
    let f : 2 ^ d * 2 ^ (p + 1) ≡ 256 = sym (pow-add 2 d (p + 1)) ∙ ap (λ (n : ℕ). 2 ^ n) e in
    let g : b < 2 ^ (d + (p + 1)) = rw e hb in
    omega (arith, f, digits_lt (shr_lt d (p + 1) g) (low_lt b p x hx))

pub bit_replaced : (b p x : ℕ) → x < 2 → bit_of (replaced b p x) p ≡ x
bit_replaced b p x h =
    let y = x + b / 2 ^ (p + 1) * 2 in
    let e : (b % 2 ^ p + y * 2 ^ p) / 2 ^ p ≡ y = add-mul-div_right (b % 2 ^ p) y (pow_pos p) ∙ ap (λ (n : ℕ). n + y) (div-eq_of_lt (mod-lt b (pow_pos p))) ∙ omega arith in
    ap (λ (n : ℕ). n / 2 ^ p % 2) (regrouped b p x) ∙ ap (λ (n : ℕ). n % 2) e ∙ omega arith

bit_below : (b p x q d : ℕ) → d + (1 + q) ≡ p → bit_of (replaced b p x) q ≡ bit_of b q
bit_below b p x q d e =
    let y = x + b / 2 ^ (p + 1) * 2 in
    let M = 2 ^ (1 + q) in
    let f : y * 2 ^ p ≡ y * 2 ^ d * M = ap (λ (n : ℕ). y * 2 ^ n) (sym e) ∙ ap (λ (n : ℕ). y * n) (pow-add 2 d (1 + q)) ∙ sym (mul_assoc y (2 ^ d) M) in
    let g : replaced b p x % M ≡ b % M
    = ap (λ (n : ℕ). n % M) (regrouped b p x ∙ ap (λ (n : ℕ). b % 2 ^ p + n) f)
    ∙ add-mul-mod_self_right (b % 2 ^ p) (y * 2 ^ d) M
    ∙ ap (λ (n : ℕ). b % 2 ^ n % M) (sym e)
    ∙ mod-mod-pow b d (1 + q) in
    sym (field (replaced b p x) 1 q) ∙ ap (λ (n : ℕ). n / 2 ^ q) g ∙ field b 1 q

bit_above : (b p x q d : ℕ) → x < 2 → p + 1 + d ≡ q → bit_of (replaced b p x) q ≡ bit_of b q
bit_above b p x q d h e =
    let Q = 2 ^ (p + 1) in
    let f : replaced b p x / Q ≡ b / Q
    = add-mul-div_right (b % 2 ^ p + x * 2 ^ p) (b / Q) (pow_pos (p + 1)) ∙ ap (λ (n : ℕ). n + b / Q) (div-eq_of_lt (low_lt b p x h)) ∙ omega arith in
    let g : replaced b p x / 2 ^ q ≡ b / 2 ^ q
    = ap (λ (n : ℕ). replaced b p x / 2 ^ n) (sym e)
    ∙ sym (shr-shr (replaced b p x) (p + 1) d)
    ∙ ap (λ (n : ℕ). n / 2 ^ d) f
    ∙ shr-shr b (p + 1) d
    ∙ ap (λ (n : ℕ). b / 2 ^ n) e in
    ap (λ (n : ℕ). n % 2) g

pub bit_not_replaced : (b p x q : ℕ) → x < 2 → (q ≡ p → ⊥) → bit_of (replaced b p x) q ≡ bit_of b q
bit_not_replaced b p x q h n =
    elim (dec_lt q p) as (λ _. bit_of (replaced b p x) q ≡ bit_of b q) [
      | yes l ↦ bit_below b p x q (p - (1 + q)) (omega arith)
      | no m ↦ bit_above b p x q (q - (p + 1)) h (omega arith)
    ]

pub bit_same : (bytes : List ℕ) (i x : ℕ) → i < 8 * length bytes → x < 2 → bit_at (with_bit bytes i x) i ≡ x
bit_same bytes i x h k =
    ap (λ (n : ℕ). bit_of n (i % 8)) (get_or-set_same bytes (i / 8) (replaced (get_or bytes (i / 8) 0) (i % 8) x) 0 (omega arith))
    ∙ bit_replaced (get_or bytes (i / 8) 0) (i % 8) x k

-- past the end nothing changes, so this holds of every place
pub bit_other : (bytes : List ℕ) (i j x : ℕ) → x < 2 → (j ≡ i → ⊥) → bit_at (with_bit bytes i x) j ≡ bit_at bytes j
bit_other bytes i j x h n =
    elim (ℕ_discrete (j / 8) (i / 8)) as (λ _. bit_at (with_bit bytes i x) j ≡ bit_at bytes j) [
      | yes e ↦ elim (dec_lt (i / 8) (length bytes)) as (λ _. bit_at (with_bit bytes i x) j ≡ bit_at bytes j) [
        | yes l ↦ let b = get_or bytes (i / 8) 0 in
            let apart : j % 8 ≡ i % 8 → ⊥ = λ f. n (omega arith) in
            ap (λ (k : ℕ). bit_of (get_or (with_bit bytes i x) k 0) (j % 8)) e
            ∙ ap (λ (k : ℕ). bit_of k (j % 8)) (get_or-set_same bytes (i / 8) (replaced b (i % 8) x) 0 l)
            ∙ bit_not_replaced b (i % 8) x (j % 8) h apart
            ∙ ap (λ (k : ℕ). bit_of (get_or bytes k 0) (j % 8)) (sym e)
        | no m ↦ ap (λ (l : List ℕ). bit_at l j) (set_out bytes (i / 8) (replaced (get_or bytes (i / 8) 0) (i % 8) x) (omega arith))
      ]
      | no d ↦ ap (λ (k : ℕ). bit_of k (j % 8)) (get_or-set_other bytes (i / 8) (j / 8) (replaced (get_or bytes (i / 8) 0) (i % 8) x) 0 d)
    ]
