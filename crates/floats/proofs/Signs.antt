-- A size with its sign, as an integer of some bits: what the machine makes of it, and that a size capped at 2 ^ 64 - 1 is outside exactly where the size is.
use mathlib.Core.Path.{◌≡◌, sym, ap, ◌∙◌}
use mathlib.Core.Bool.{Bool, true, false, not, cond, ◌&&◌}
use Prim.Native.Nat.{ℕ, zero, suc, ◌-◌, ◌*◌, ◌/◌, ◌^◌, ◌≤◌, ◌<◌, min}
use native.Mathlib.Nat.{le_trans, le_of_lt}
use native.Mathlib.Omega.{arith}
use lib.IntN.{ℤ}
use lib.Dec.{T, ltb, ltb→lt, nltb→le}
use lib.Arith.{le→nltb}
use lib.Pow.{pow_pos, pow_mono}
use lib.Ieee.{Float}
use lib.Ieee.Bits.{is_false}
use lib.Ieee.Nearest.{div_same}
use lib.Ieee.Positive.{num, den, den_pos}
use lib.Ieee.Scale.{finite}
use Rattle.floats.specs.Values.{Unpacked, is_negative}
use Rattle.floats.specs.Integers.{half_up, signed, in_bits, rounded_of, cut_of, held}
use Rattle.std.specs.Prelude.{Option, Some, None}
use Rattle.floats.proofs.Unpacking.{value_finite, value_sign, value_size}
use Rattle.floats.proofs.IntegerParts.{half_up_same}

-- n with that sign where it fits
abbrev pub fitted : ℕ → Bool → ℕ → Option ℤ
fitted bits s n = cond (in_bits bits (signed s n)) (Some (signed s n)) None

module _ (bits : ℕ) (h : bits ≤ 64) where
  half_le : 2 ^ (bits - 1) ≤ 2 ^ 63
  half_le = pow_mono (few bits h)
    where
      few : (bits : ℕ) → bits ≤ 64 → bits - 1 ≤ 63
      few bits h = omega arith

  -- ---- the cap makes no difference
  outside : (s : Bool) (n : ℕ) → 2 ^ 63 < n → fitted bits s n ≡ None
  outside s n f = ap (λ (b : Bool). cond b (Some (signed s n)) None) (is_false (in_bits bits (signed s n)) (go s n f))
    where
      down : (n : ℕ) → 9223372036854775808 < suc n → 9223372036854775808 ≤ n
      down n f = omega arith

      go : (s : Bool) (n : ℕ) → 2 ^ 63 < n → T (not (in_bits bits (signed s n)))
      go true zero f = absurd (omega arith)
      go true (suc n) f = le→nltb n (2 ^ (bits - 1)) (le_trans half_le (down n f))
      go false n f = le→nltb n (2 ^ (bits - 1)) (le_trans half_le (le_of_lt f))

  pub capped : (s : Bool) (n : ℕ) → fitted bits s (min n (2 ^ 64 - 1)) ≡ fitted bits s n
  capped s n = go (ltb n (2 ^ 64)) (ltb→lt n (2 ^ 64)) (nltb→le n (2 ^ 64))
    where
      same : (n : ℕ) → n < 2 ^ 64 → min n (2 ^ 64 - 1) ≡ n
      same n h = omega arith

      large : (n : ℕ) → 2 ^ 64 ≤ n → 2 ^ 63 < n
      large n h = omega arith

      top : (n : ℕ) → 2 ^ 64 ≤ n → 2 ^ 63 < min n (2 ^ 64 - 1)
      top n h = omega arith

      go : (b : Bool) → (T b → n < 2 ^ 64) → (T (not b) → 2 ^ 64 ≤ n) → fitted bits s (min n (2 ^ 64 - 1)) ≡ fitted bits s n
      go true f g = ap (fitted bits s) (same n (f tt))
      go false f g = outside s (min n (2 ^ 64 - 1)) (top n (g tt)) ∙ sym (outside s n (large n (g tt)))

  -- ---- a float's integer, from its parts
  module _ (x : Float) (s : Bool) (q k : ℕ) (u : Unpacked x s q k) where
    size_is : num x * 2 ^ 1074 ≡ q * 2 ^ k * den x
    size_is = value_size x s (q * 2 ^ k) (2 ^ 1074) u.value

    held_at : (n : ℕ) → held bits x (signed (is_negative x) n) ≡ fitted bits s n
    unfolding held
    held_at n =
        ap (λ (b : Bool). cond (b && in_bits bits (signed (is_negative x) n)) (Some (signed (is_negative x) n)) None) (value_finite x s (q * 2 ^ k) (2 ^ 1074) u.value)
        ∙ ap (λ (b : Bool). fitted bits b n) (value_sign x s (q * 2 ^ k) (2 ^ 1074) u.value)

    pub rounded_held : fitted bits s (min (half_up (q * 2 ^ k) (2 ^ 1074)) (2 ^ 64 - 1)) ≡ held bits x (rounded_of x)
    unfolding rounded_of
    rounded_held =
        capped s (half_up (q * 2 ^ k) (2 ^ 1074))
        ∙ ap (fitted bits s) (sym (half_up_same (num x) (den x) (q * 2 ^ k) (2 ^ 1074) (den_pos x) (pow_pos 1074) size_is))
        ∙ sym (held_at (half_up (num x) (den x)))

    pub cut_held : fitted bits s (min (q * 2 ^ k / 2 ^ 1074) (2 ^ 64 - 1)) ≡ held bits x (cut_of x)
    unfolding cut_of
    cut_held =
        capped s (q * 2 ^ k / 2 ^ 1074)
        ∙ ap (fitted bits s) (sym (div_same (num x) (den x) (q * 2 ^ k) (2 ^ 1074) (den_pos x) (pow_pos 1074) size_is))
        ∙ sym (held_at (num x / den x))

pub none_held : (bits : ℕ) (x : Float) (z : ℤ) → finite x ≡ false → None ≡ held bits x z
unfolding held
none_held bits x z h = sym (ap (λ (b : Bool). cond (b && in_bits bits z) (Some z) None) h)
