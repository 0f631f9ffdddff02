-- Laws of bit fields, once over the width and the place: a field is its bits; reading looks at those bits alone; writing changes those bits alone; what was written is read.
use mathlib.Core.Bool.{Bool, true, false}
use mathlib.Core.List.{List}
use mathlib.Core.Logic.{◌⊎◌, inl, inr}
use mathlib.Core.Path.{◌≡◌, refl, sym, ap, ◌∙◌}
use Prim.Native.Nat.{ℕ, zero, suc, ◌+◌, ◌*◌, ◌/◌, ◌%◌, ◌^◌, ◌<◌, ◌≤◌}
use native.Mathlib.Nat.{pow-suc, mul-le-mul_right, mod-eq_of_lt, div-eq_of_lt}
use native.Mathlib.Numerals.{add-one}
use native.Mathlib.Omega.{arith}
use native.Mathlib.Decide.{ℕ_discrete}
use borrow.Author.Tests.{le-leb, lt-leb, leb-true, leb-false}
use lib.ListN.{length, get_or, length-set}
use lib.Pow.{mod-pow-add}
use lib.Seq.{get_or-set_other}
use Rattle.bits.specs.Fields.{bit_of, replaced, bit_at, with_bit, field_at, with_field, holds, found}
use Rattle.std.specs.Prelude.{None, Some}
use Rattle.bits.proofs.Bits.{bit_replaced, bit_not_replaced, bit_same, bit_other}

pub field_none : (bytes : List ℕ) (at : ℕ) → field_at bytes at 0 ≡ 0
unfolding field_at
field_none bytes at = refl

pub field_more : (bytes : List ℕ) (at n : ℕ) → field_at bytes at (n + 1) ≡ field_at bytes at n + bit_at bytes (at + n) * 2 ^ n
unfolding field_at
field_more bytes at n = rw add-one

pub put_none : (bytes : List ℕ) (at v : ℕ) → with_field bytes at 0 v ≡ bytes
unfolding with_field
put_none bytes at v = refl

pub put_more : (bytes : List ℕ) (at n v : ℕ) → with_field bytes at (n + 1) v ≡ with_bit (with_field bytes at n v) (at + n) (bit_of v n)
unfolding with_field
put_more bytes at n v = rw (add-one n)

pub field_lt : (bytes : List ℕ) (at n : ℕ) → field_at bytes at n < 2 ^ n
unfolding field_at
field_lt bytes at zero = omega arith
field_lt bytes at (suc n) =
    let s : bit_at bytes (at + n) * 2 ^ n ≤ 1 * 2 ^ n = mul-le-mul_right (2 ^ n) (omega arith) in
    rw pow-suc (omega (arith, field_lt bytes at n, s))

pub field_agree : (xs ys : List ℕ) (at n : ℕ) → ((i : ℕ) → i < n → bit_at xs (at + i) ≡ bit_at ys (at + i)) → field_at xs at n ≡ field_at ys at n
unfolding field_at
field_agree xs ys at zero same = refl
field_agree xs ys at (suc n) same =
    let f = field_agree xs ys at n (λ i h. same i (omega arith)) in
    let b = same n (omega arith) in
    ap (λ (k : ℕ). k + bit_at xs (at + n) * 2 ^ n) f ∙ ap (λ (k : ℕ). field_at ys at n + k * 2 ^ n) b

pub put_length : (bytes : List ℕ) (at n v : ℕ) → length (with_field bytes at n v) ≡ length bytes
unfolding with_field
put_length bytes at zero v = refl
put_length bytes at (suc n) v = length-set (with_field bytes at n v) ((at + n) / 8) _ ∙ put_length bytes at n v

pub bit_outside : (bytes : List ℕ) (at n v j : ℕ) → (j < at) ⊎ (at + n ≤ j) → bit_at (with_field bytes at n v) j ≡ bit_at bytes j
unfolding with_field
bit_outside bytes at zero v j out = refl
bit_outside bytes at (suc n) v j (inl h) =
    bit_other (with_field bytes at n v) (at + n) j (bit_of v n) (omega arith) (λ e. omega arith) ∙ bit_outside bytes at n v j (inl h)
bit_outside bytes at (suc n) v j (inr h) =
    bit_other (with_field bytes at n v) (at + n) j (bit_of v n) (omega arith) (λ e. omega arith) ∙ bit_outside bytes at n v j (inr (omega arith))

pub bit_inside : (bytes : List ℕ) (at n v i : ℕ) → at + n ≤ 8 * length bytes → i < n → bit_at (with_field bytes at n v) (at + i) ≡ bit_of v i
unfolding with_field
bit_inside bytes at zero v i room h = absurd (omega arith)
bit_inside bytes at (suc n) v i room h =
    let w = with_field bytes at n v in
    elim (ℕ_discrete i n) as (λ _. bit_at (with_bit w (at + n) (bit_of v n)) (at + i) ≡ bit_of v i) [
      | yes e ↦ ap (λ (k : ℕ). bit_at (with_bit w (at + n) (bit_of v n)) (at + k)) e
          ∙ bit_same w (at + n) (bit_of v n) (omega (arith, put_length bytes at n v)) (omega arith)
          ∙ ap (bit_of v) (sym e)
      | no d ↦ bit_other w (at + n) (at + i) (bit_of v n) (omega arith) (λ e. d (omega arith)) ∙ bit_inside bytes at n v i (omega arith) (omega arith)
    ]

-- bytes behind the field stay as they were
pub byte_behind : (bytes : List ℕ) (at n v j : ℕ) → at + n ≤ 8 * j → get_or (with_field bytes at n v) j 0 ≡ get_or bytes j 0
unfolding with_field
byte_behind bytes at zero v j h = refl
byte_behind bytes at (suc n) v j h =
    let w = with_field bytes at n v in
    get_or-set_other w ((at + n) / 8) j (replaced (get_or w ((at + n) / 8) 0) ((at + n) % 8) (bit_of v n)) 0 (λ e. omega arith)
    ∙ byte_behind bytes at n v j (omega arith)

-- a field is its bits
pub field_of_bits : (bytes : List ℕ) (at n v : ℕ) → ((i : ℕ) → i < n → bit_at bytes (at + i) ≡ bit_of v i) → field_at bytes at n ≡ v % 2 ^ n
unfolding field_at
field_of_bits bytes at zero v same = omega arith
field_of_bits bytes at (suc n) v same =
    let f = field_of_bits bytes at n v (λ i h. same i (omega arith)) in
    let b = ap (λ (k : ℕ). k * 2 ^ n) (same n (omega arith)) in
    let one : 1 + n ≡ suc n = omega arith in
    let e : v % 2 ^ suc n ≡ bit_of v n * 2 ^ n + v % 2 ^ n = ap (λ (k : ℕ). v % 2 ^ k) (sym one) ∙ mod-pow-add v 1 n in
    omega (arith, f, b, e)

-- one bit more on top of a number below 2^n is bit n replaced
topped : (v n x : ℕ) → v < 2 ^ n → v + x * 2 ^ n ≡ replaced v n x
topped v n x h =
    let e : 2 ^ (n + 1) ≡ 2 ^ n * 2 = ap (λ (k : ℕ). 2 ^ k) (add-one n) ∙ pow-suc 2 n in
    let l : v < 2 ^ (n + 1) = omega (arith, e) in
    let z : v / 2 ^ (n + 1) * 2 ^ (n + 1) ≡ 0 = ap (λ (k : ℕ). k * 2 ^ (n + 1)) (div-eq_of_lt l) ∙ omega arith in
    omega (arith, mod-eq_of_lt h, z)

pub bit_of_field : (bytes : List ℕ) (at n i : ℕ) → i < n → bit_of (field_at bytes at n) i ≡ bit_at bytes (at + i)
unfolding field_at
bit_of_field bytes at zero i h = absurd (omega arith)
bit_of_field bytes at (suc n) i h =
    let v = field_at bytes at n in
    let x = bit_at bytes (at + n) in
    let t : bit_of (v + x * 2 ^ n) i ≡ bit_of (replaced v n x) i = ap (λ (k : ℕ). bit_of k i) (topped v n x (field_lt bytes at n)) in
    elim (ℕ_discrete i n) as (λ _. bit_of (v + x * 2 ^ n) i ≡ bit_at bytes (at + i)) [
      | yes e ↦ t ∙ ap (bit_of (replaced v n x)) e ∙ bit_replaced v n x (omega arith) ∙ ap (λ (k : ℕ). bit_at bytes (at + k)) (sym e)
      | no d ↦ t ∙ bit_not_replaced v n x i (omega arith) d ∙ bit_of_field bytes at n i (omega arith)
    ]

-- what was written is read
pub field_put : (bytes : List ℕ) (at n v : ℕ) → at + n ≤ 8 * length bytes → field_at (with_field bytes at n v) at n ≡ v % 2 ^ n
field_put bytes at n v room = field_of_bits (with_field bytes at n v) at n v (λ i h. bit_inside bytes at n v i room h)

-- a field that lies outside stays
pub field_outside : (bytes : List ℕ) (at n v from m : ℕ) → (from + m ≤ at) ⊎ (at + n ≤ from) → field_at (with_field bytes at n v) from m ≡ field_at bytes from m
field_outside bytes at n v from m (inl h) = field_agree (with_field bytes at n v) bytes from m (λ i k. bit_outside bytes at n v (from + i) (inl (omega arith)))
field_outside bytes at n v from m (inr h) = field_agree (with_field bytes at n v) bytes from m (λ i k. bit_outside bytes at n v (from + i) (inr (omega arith)))

-- what reading gives, by where the field lies
pub found_number : (bytes : List ℕ) (at n : ℕ) → n ≤ 64 → at + n ≤ 8 * length bytes → found bytes at n ≡ Some (field_at bytes at n)
unfolding found
found_number bytes at n h room = rw (le-leb n 64 h, le-leb (at + n) (8 * length bytes) room)

pub found_missing : (bytes : List ℕ) (at n : ℕ) → n ≤ 64 → 8 * length bytes < at + n → found bytes at n ≡ None
unfolding found
found_missing bytes at n h short = rw (le-leb n 64 h, lt-leb (at + n) (8 * length bytes) short)

-- and back: where the field lies, from what reading gave
pub absent : (bytes : List ℕ) (at n : ℕ) → n ≤ 64 → found bytes at n ≡ None → holds bytes at n ≡ false
absent bytes at n h e = go (holds bytes at n) refl
  where
    go : (t : Bool) → holds bytes at n ≡ t → t ≡ false
    go true p = let o : Some (field_at bytes at n) ≡ None = sym (found_number bytes at n h (leb-true (at + n) (8 * length bytes) p)) ∙ e in cc
    go false p = refl

pub present : (bytes : List ℕ) (at n v : ℕ) → n ≤ 64 → found bytes at n ≡ Some v → (holds bytes at n ≡ true) × (field_at bytes at n ≡ v)
present bytes at n v h e = go (holds bytes at n) refl
  where
    go : (t : Bool) → holds bytes at n ≡ t → (t ≡ true) × (field_at bytes at n ≡ v)
    go true p = let o : Some (field_at bytes at n) ≡ Some v = sym (found_number bytes at n h (leb-true (at + n) (8 * length bytes) p)) ∙ e in (refl, cc)
    go false p = let o : None ≡ Some v = sym (found_missing bytes at n h (leb-false (at + n) (8 * length bytes) p)) ∙ e in (cc, cc)
