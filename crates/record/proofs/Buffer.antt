-- The buffer after a record is written, past the record's own bits: the unused bits of its last byte are 0, and later bytes are as they were.
use mathlib.Core.List.{List, [], ◌∷◌}
use mathlib.Core.Path.{◌≡◌, refl, sym, ap, ◌∙◌}
use Prim.Native.Nat.{ℕ, ◌+◌, ◌-◌, ◌*◌, ◌/◌, ◌%◌, ◌^◌, ◌≤◌, ◌<◌}
use native.Mathlib.Nat.{zero-div}
use native.Mathlib.Omega.{arith}
use borrow.Author.Tests.{ltb-false}
use lib.ListN.{length, get_or}
use Rattle.std.specs.Prelude.{Ok}
use Rattle.bits.specs.Fields.{bit_at, with_field}
use Rattle.bits.proofs.Fields.{bit_inside, byte_behind}
use Rattle.record.specs.declared.DeltaRecord.{DeltaRecord}
use Rattle.record.specs.Format.{fields_of, total_width, bits_of}
use Rattle.record.specs.Writing.{stored, put_fields, put_record, unused, written, write_answer, bytes_after}
use Rattle.record.proofs.Put.{put_all_length}
use Rattle.record.proofs.Refusals.{answered}

byte_behind_all : (bytes : List ℕ) (at : ℕ) (fields numbers : List ℕ) (j : ℕ) → at + total_width fields ≤ 8 * j → get_or (put_fields bytes at fields numbers) j 0 ≡ get_or bytes j 0
byte_behind_all bytes at [] numbers j h = refl
byte_behind_all bytes at (width ∷ fields) [] j h = refl
byte_behind_all bytes at (width ∷ fields) (n ∷ numbers) j h =
    byte_behind_all (with_field bytes at width n) (at + width) fields numbers j (omega arith) ∙ byte_behind bytes at width n j (omega arith)

module _ (delta : DeltaRecord) (bytes : List ℕ) (bits : ℕ) (done : write_answer delta (length bytes) ≡ Ok bits) where
  -- the bytes that the record takes
  abbrev size : ℕ
  size = (bits_of delta.encoding + 7) / 8

  pub unused_cleared : (i : ℕ) → bits_of delta.encoding ≤ i → i < 8 * size → bit_at (bytes_after delta bytes) i ≡ 0
  unfolding bytes_after written
  unused_cleared i low high =
      let n = bits_of delta.encoding in
      let put = put_record delta.encoding delta.weights bytes in
      let a = answered delta (length bytes) done in
      let room : size ≤ length bytes = ltb-false (length bytes) size a.passed.roomy in
      let j = i - n in
      let e : n + j ≡ i = omega arith in
      rw a.done
      (ap (bit_at (with_field put n (unused n) 0)) (sym e)
      ∙ bit_inside put n (unused n) 0 j (omega (arith, put_all_length bytes 0 (fields_of delta.encoding) (stored delta.encoding delta.weights))) (omega arith)
      ∙ ap (λ (k : ℕ). k % 2) (zero-div (2 ^ j)))

  pub later_kept : (j : ℕ) → size ≤ j → get_or (bytes_after delta bytes) j 0 ≡ get_or bytes j 0
  unfolding bytes_after written
  later_kept j h =
      let n = bits_of delta.encoding in
      let put = put_record delta.encoding delta.weights bytes in
      rw (answered delta (length bytes) done).done
      (byte_behind put n (unused n) 0 j (omega arith)
      ∙ byte_behind_all bytes 0 (fields_of delta.encoding) (stored delta.encoding delta.weights) j (omega arith))
