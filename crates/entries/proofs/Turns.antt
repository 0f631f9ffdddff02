-- The loops over the bytes of one entry: reading from the last byte to the first, writing from the first to the last.
-- Assumes nothing.
use mathlib.Core.Path.{◌≡◌, refl, sym, ap, subst, ◌∙◌}
use mathlib.Core.List.{List, [], ◌∷◌, ◌++◌, append_assoc, append-nil}
use Prim.Native.Nat.{ℕ, zero, suc, ◌+◌, ◌-◌, ◌*◌, ◌/◌, ◌%◌, ◌^◌, ◌≤◌, ◌<◌}
use native.Mathlib.Nat.{pow-le-pow_right, add-zero}
use native.Mathlib.Numerals.{add-one}
use native.Mathlib.Omega.{arith}
use lib.ListN.{length, get_or, take, drop, set, length-append, length-drop, drop_of_length-le, take-append-drop}
use lib.Seq.{drop-cons, get_or-take, get_or-drop, length-take-le, set_at, drop-drop}
use Rattle.entries.specs.Entries.{value_of, bytes_of, entry_at, with_entry}
use Rattle.entries.proofs.Bytes.{Bytes, drop_bytes, take_bytes, value_below, length_bytes}

-- ---- reading: the value of the bytes from place `left` of the entry on
pub record Read (bytes : List ℕ) (at width value left : ℕ) : Type 0 where
  pub within : left ≤ width
  pub is : value ≡ value_of (drop left (take width (drop at bytes)))

module _ (bytes : List ℕ) (at width : ℕ) (inside : at + width ≤ length bytes) where
  long : length (take width (drop at bytes)) ≡ width
  long = length-take-le width (drop at bytes) (omega (arith, length-drop at bytes))

  pub read_begin : Read bytes at width 0 width
  read_begin =
      let past : length (take width (drop at bytes)) ≤ width = omega (arith, long) in
      record { within = omega arith; is = rw (drop_of_length-le (take width (drop at bytes)) past) }

  one_more : (value left : ℕ) → Read bytes at width value (suc left) → Read bytes at width (value * 256 + get_or bytes (at + left) 0) left
  one_more value left r =
      let within : left < width = r.within in
      let h : left < length (take width (drop at bytes)) = omega (arith, long) in
      let byte : get_or (take width (drop at bytes)) left 0 ≡ get_or bytes (at + left) 0
      = get_or-take width (drop at bytes) left 0 within ∙ get_or-drop at bytes left 0 in
      record { within = omega arith; is = rw (drop-cons (take width (drop at bytes)) left 0 h, byte) (omega (arith, r.is)) }

  pub read_turn : {value left : ℕ} → 0 < left → Read bytes at width value left
      → Read bytes at width (value * 256 + get_or bytes (at + (left - 1)) 0) (left - 1)
  read_turn {value} {left} some r =
      let same : left ≡ suc (left - 1) = omega arith in
      one_more value (left - 1) (subst (Read bytes at width value) same r)

  pub read_end : {value : ℕ} → Read bytes at width value 0 → value ≡ entry_at width bytes at
  unfolding entry_at
  read_end r = r.is

  module _ (bytes-are : Bytes bytes) where
    part_bytes : (left : ℕ) → Bytes (drop left (take width (drop at bytes)))
    part_bytes left = drop_bytes left (take_bytes width (drop_bytes at bytes-are))

    -- so a byte more fits eight bytes
    pub read_small : {value left : ℕ} → width ≤ 8 → 0 < left → Read bytes at width value left → value < 256 ^ 7
    read_small {value} {left} few some r =
        let l : length (drop left (take width (drop at bytes))) ≤ 7 = omega (arith, length-drop left (take width (drop at bytes)), long) in
        let p : 256 ^ length (drop left (take width (drop at bytes))) ≤ 256 ^ 7 = pow-le-pow_right (omega arith) l in
        omega (arith, r.is, value_below (drop left (take width (drop at bytes))) (part_bytes left))

-- ---- writing: the first i bytes of the value are written, and `left` is what the others are the bytes of
abbrev pub above : ℕ → ℕ → ℕ
above zero v = v
above (suc i) v = above i (v / 256)

above_next : (i v : ℕ) → above (suc i) v ≡ above i v / 256
above_next zero v = refl
above_next (suc i) v = above_next i (v / 256)

bytes_next : (i v : ℕ) → bytes_of (suc i) v ≡ bytes_of i v ++ above i v % 256 ∷ []
bytes_next zero v = refl
bytes_next (suc i) v = ap (λ (z : List ℕ). v % 256 ∷ z) (bytes_next i (v / 256))

pub record Written (bytes₀ : List ℕ) (at value : ℕ) (bytes : List ℕ) (left i : ℕ) : Type 0 where
  pub is : bytes ≡ (take at bytes₀ ++ bytes_of i value) ++ drop (at + i) bytes₀
  pub rest : left ≡ above i value

module _ (bytes₀ : List ℕ) (at value : ℕ) where
  pub write_begin : at ≤ length bytes₀ → Written bytes₀ at value bytes₀ value 0
  write_begin h = record { is = rw (append-nil, add-zero) (sym (take-append-drop at bytes₀)); rest = refl }

  module _ {bytes : List ℕ} {left i : ℕ} (w : Written bytes₀ at value bytes left i) where
    begun_long : at + i ≤ length bytes₀ → length (take at bytes₀ ++ bytes_of i value) ≡ at + i
    begun_long h = rw (length-append, length-take-le at bytes₀ (omega arith), length_bytes i value)

    pub write_length : at + i ≤ length bytes₀ → length bytes ≡ length bytes₀
    write_length h = rw (w.is, length-append, begun_long h, length-drop) (omega arith)

    pub write_turn : at + i < length bytes₀ → Written bytes₀ at value (set bytes (at + i) (left % 256)) (left / 256) (i + 1)
    write_turn h =
        record {
          is =
              rw (
                w.is,
                drop-cons bytes₀ (at + i) 0 h,
                set_at (take at bytes₀ ++ bytes_of i value) (get_or bytes₀ (at + i) 0) (drop (suc (at + i)) bytes₀) (left % 256) (at + i) (begun_long (omega arith)),
                w.rest,
                next,
                add-one,
                bytes_next i value,
                append_assoc,
                append_assoc,
                append_assoc,
              );
          rest = rw (w.rest, add-one) (sym (above_next i value));
        }
      where
        next : suc (at + i) ≡ at + (i + 1)
        next = omega arith

    pub write_end : (width : ℕ) → i ≡ width → bytes ≡ with_entry width bytes₀ at value
    unfolding with_entry
    write_end width e = w.is ∙ rw (e, append_assoc, drop-drop)
