-- Laws of numbers put into fields one after the other: each stands at its place, what lies before is untouched, and numbers that stand in
-- other bytes copy their bits.
use mathlib.Core.List.{List, [], ◌∷◌}
use mathlib.Core.Logic.{inl}
use mathlib.Core.Path.{◌≡◌, refl, sym, ap, ap₂, ◌∙◌}
use Prim.Native.Nat.{ℕ, zero, suc, ◌+◌, ◌-◌, ◌*◌, ◌^◌, ◌≤◌, ◌<◌}
use native.Mathlib.Nat.{mod-eq_of_lt}
use native.Mathlib.Omega.{arith}
use native.Mathlib.Decide.{dec_lt}
use lib.ListN.{length}
use Rattle.bits.specs.Fields.{bit_of, bit_at, field_at, with_field}
use Rattle.bits.proofs.Fields.{put_length, bit_outside, bit_inside, bit_of_field, field_agree, field_put}
use Rattle.record.specs.Format.{weight_fields, total_width}
use Rattle.record.specs.Reading.{numbers_at}
use Rattle.record.specs.Widths.{weight_bits}
use Rattle.record.specs.Writing.{put_fields}

pub weights_total : (n : ℕ) → total_width (weight_fields n) ≡ weight_bits * n
weights_total zero = refl
weights_total (suc n) = omega (arith, weights_total n)

pub put_all_length : (bytes : List ℕ) (at : ℕ) (fields numbers : List ℕ) → length (put_fields bytes at fields numbers) ≡ length bytes
put_all_length bytes at [] numbers = refl
put_all_length bytes at (width ∷ fields) [] = refl
put_all_length bytes at (width ∷ fields) (n ∷ numbers) =
    put_all_length (with_field bytes at width n) (at + width) fields numbers ∙ put_length bytes at width n

bit_before : (bytes : List ℕ) (at : ℕ) (fields numbers : List ℕ) (i : ℕ) → i < at → bit_at (put_fields bytes at fields numbers) i ≡ bit_at bytes i
bit_before bytes at [] numbers i h = refl
bit_before bytes at (width ∷ fields) [] i h = refl
bit_before bytes at (width ∷ fields) (n ∷ numbers) i h =
    bit_before (with_field bytes at width n) (at + width) fields numbers i (omega arith) ∙ bit_outside bytes at width n i (inl h)

field_before : (bytes : List ℕ) (at : ℕ) (fields numbers : List ℕ) (from n : ℕ) → from + n ≤ at → field_at (put_fields bytes at fields numbers) from n ≡ field_at bytes from n
field_before bytes at fields numbers from n h =
    field_agree (put_fields bytes at fields numbers) bytes from n (λ i k. bit_before bytes at fields numbers (from + i) (omega arith))

-- there is a number for each field, and it fits
abbrev pub Fit : List ℕ → List ℕ → Type 0
Fit [] [] = Unit {0}
Fit [] (n ∷ numbers) = ⊥
Fit (width ∷ fields) [] = ⊥
Fit (width ∷ fields) (n ∷ numbers) = (n < 2 ^ width) × Fit fields numbers

-- and it stands in the field
abbrev pub Stand : List ℕ → ℕ → List ℕ → List ℕ → Type 0
Stand bytes at [] [] = Unit {0}
Stand bytes at [] (n ∷ numbers) = ⊥
Stand bytes at (width ∷ fields) [] = ⊥
Stand bytes at (width ∷ fields) (n ∷ numbers) = (field_at bytes at width ≡ n) × Stand bytes (at + width) fields numbers

pub put_stand : (bytes : List ℕ) (at : ℕ) (fields numbers : List ℕ) → Fit fields numbers → at + total_width fields ≤ 8 * length bytes →
    Stand (put_fields bytes at fields numbers) at fields numbers
put_stand bytes at [] [] fit room = tt
put_stand bytes at [] (n ∷ numbers) fit room = fit
put_stand bytes at (width ∷ fields) [] fit room = fit
put_stand bytes at (width ∷ fields) (n ∷ numbers) fit room =
    let b = with_field bytes at width n in (
      field_before b (at + width) fields numbers at width (omega arith) ∙ field_put bytes at width n (omega arith) ∙ mod-eq_of_lt fit.0,
      put_stand b (at + width) fields numbers fit.1 (omega (arith, put_length bytes at width n)),
    )

-- they stand too in bytes that agree as far as the fields go
pub stand_kept : (bytes other : List ℕ) (bits at : ℕ) (fields numbers : List ℕ) → ((from n : ℕ) → from + n ≤ bits → field_at other from n ≡ field_at bytes from n) →
    at + total_width fields ≤ bits → Stand bytes at fields numbers → Stand other at fields numbers
stand_kept bytes other bits at [] [] same room s = tt
stand_kept bytes other bits at [] (n ∷ numbers) same room s = s
stand_kept bytes other bits at (width ∷ fields) [] same room s = s
stand_kept bytes other bits at (width ∷ fields) (n ∷ numbers) same room s =
    (same at width (omega arith) ∙ s.0, stand_kept bytes other bits (at + width) fields numbers same (omega arith) s.1)

-- the numbers that stand in fields are those read there
pub stand_read : (bytes : List ℕ) (at : ℕ) (fields numbers : List ℕ) → Stand bytes at fields numbers → numbers_at bytes at fields ≡ numbers
stand_read bytes at [] [] s = refl
stand_read bytes at [] (n ∷ numbers) s = absurd s
stand_read bytes at (width ∷ fields) [] s = absurd s
stand_read bytes at (width ∷ fields) (n ∷ numbers) s = ap₂ (λ (m : ℕ) (ms : List ℕ). m ∷ ms) s.0 (stand_read bytes (at + width) fields numbers s.1)

pub read_stand : (bytes : List ℕ) (at : ℕ) (fields : List ℕ) → Stand bytes at fields (numbers_at bytes at fields)
read_stand bytes at [] = tt
read_stand bytes at (width ∷ fields) = (refl, read_stand bytes (at + width) fields)

pub bit_copied : (bytes out : List ℕ) (at : ℕ) (fields numbers : List ℕ) → Stand bytes at fields numbers → at + total_width fields ≤ 8 * length out →
    (i : ℕ) → at ≤ i → i < at + total_width fields → bit_at (put_fields out at fields numbers) i ≡ bit_at bytes i
bit_copied bytes out at [] numbers s room i low high = absurd (omega arith)
bit_copied bytes out at (width ∷ fields) [] s room i low high = absurd s
bit_copied bytes out at (width ∷ fields) (n ∷ numbers) s room i low high =
    let b = with_field out at width n in
    elim (dec_lt i (at + width)) as (λ _. bit_at (put_fields b (at + width) fields numbers) i ≡ bit_at bytes i) [
      | yes h ↦ let j = i - at in
          let e : at + j ≡ i = omega arith in
          bit_before b (at + width) fields numbers i h
          ∙ ap (bit_at b) (sym e)
          ∙ bit_inside out at width n j (omega arith) (omega arith)
          ∙ ap (λ (v : ℕ). bit_of v j) (sym s.0)
          ∙ bit_of_field bytes at width j (omega arith)
          ∙ ap (bit_at bytes) e
      | no k ↦ bit_copied bytes b (at + width) fields numbers s.1 (omega (arith, put_length out at width n)) i (omega arith) (omega arith)
    ]
