-- Reading after writing: a record that the writer does not refuse is read back, with as many bits as were written.
use mathlib.Core.Bool.{Bool, true, false}
use mathlib.Core.List.{List}
use mathlib.Core.Logic.{inl}
use mathlib.Core.Path.{◌≡◌, refl, ap, ◌∙◌}
use Prim.Native.Nat.{ℕ, ◌+◌, ◌-◌, ◌*◌, ◌≤◌, ◌<◌}
use native.Mathlib.Omega.{arith}
use borrow.Author.Tests.{le-leb, ltb-false}
use lib.Dec.{eqb}
use lib.IntN.{ℤ}
use lib.ListN.{length}
use Rattle.std.specs.Prelude.{Ok}
use Rattle.bits.specs.Fields.{with_field, holds}
use Rattle.bits.proofs.Fields.{put_length, field_outside}
use Rattle.record.specs.declared.DeltaEncoding.{DeltaEncoding}
use Rattle.record.specs.declared.DeltaEncoding.TheVariants.{NoOp, Consecutive, Lookback, Conv1}
use Rattle.record.specs.declared.DeltaRecord.{DeltaRecord}
use Rattle.record.specs.Format.{weight_fields, fields_of, total_width, bits_of, weights_at}
use Rattle.record.specs.Reading.{given, reading, read_weights, read_consecutive, read_lookback, read_conv1, read_variant, read_record}
use Rattle.record.specs.Records.{kept_weights, kept, Machine}
use Rattle.record.specs.Widths.{variant_bits, order_bits, flag_bits, window_bits, state_bits, shift_bits, bias_bits, count_bits, greatest, greatest_shift}
use Rattle.record.specs.Writing.{flag_value, stored, put_record, unused, written, write_answer, bytes_after}
use Rattle.record.proofs.Put.{put_all_length, Fit, Stand, put_stand, stand_kept, stand_read}
use Rattle.record.proofs.Refusals.{Passed, answered, order_range, window_fits, enough_room}
use Rattle.record.proofs.Signed.{lowered_raised, raised_fits}
use Rattle.record.proofs.Weights.{stored_read, weights_fit}

flag_fits : (flag : Bool) → flag_value flag < 2
flag_fits true = omega arith
flag_fits false = omega arith

flag_read : (flag : Bool) → eqb (flag_value flag) 1 ≡ flag
flag_read true = refl
flag_read false = refl

-- every number of a record that passed the tests fits its field
stored_fit : (encoding : DeltaEncoding) (weights : List ℤ) (room : ℕ) → Passed encoding room → Machine (record { encoding = encoding; weights = weights }) → Fit (fields_of encoding) (stored encoding weights)
stored_fit NoOp ws room p m = (omega arith, tt)
stored_fit (Consecutive order flag) ws room p m = (omega arith, (omega (arith, ltb-false (greatest order_bits) order.0 p.fitting), (flag_fits flag, tt)))
stored_fit (Lookback window state flag) ws room p m =
    let f = window_fits window state p.fitting in
    (omega arith, (f.1, (f.2, (flag_fits flag, tt))))
stored_fit (Conv1 shift bias order) ws room p m =
    let k = order_range order.0 p.ordered in (
      omega arith,
      (
        omega (arith, ltb-false greatest_shift shift.0 p.fitting),
        (raised_fits 63 bias m.bias_fits, (omega arith, weights_fit order.0 ws (omega (arith, m.long)) m.weight_fits)),
      ),
    )

written_length : (encoding : DeltaEncoding) (weights : List ℤ) (bytes : List ℕ) → length (written encoding weights bytes) ≡ length bytes
unfolding written
written_length encoding weights bytes =
    put_length (put_record encoding weights bytes) (bits_of encoding) (unused (bits_of encoding)) 0 ∙ put_all_length bytes 0 (fields_of encoding) (stored encoding weights)

-- and stands there in what is written
written_stand : (encoding : DeltaEncoding) (weights : List ℤ) (bytes : List ℕ) → Passed encoding (length bytes) → Machine (record { encoding = encoding; weights = weights }) →
    Stand (written encoding weights bytes) 0 (fields_of encoding) (stored encoding weights)
unfolding written
written_stand encoding weights bytes p m =
    let fields = fields_of encoding in
    let numbers = stored encoding weights in
    let n = bits_of encoding in
    let put = put_record encoding weights bytes in
    stand_kept put (with_field put n (unused n) 0) n 0 fields numbers
    (λ from k h. field_outside put n (unused n) 0 from k (inl h))
    (omega arith)
    (put_stand bytes 0 fields numbers (stored_fit encoding weights (length bytes) p m) (omega (arith, enough_room encoding (length bytes) p.roomy)))

held : (encoding : DeltaEncoding) (weights : List ℤ) (bytes : List ℕ) (at n : ℕ) → Passed encoding (length bytes) → at + n ≤ bits_of encoding → holds (written encoding weights bytes) at n ≡ true
held encoding weights bytes at n p h =
    le-leb (at + n) (8 * length (written encoding weights bytes))
    (omega (arith, written_length encoding weights bytes, enough_room encoding (length bytes) p.roomy))

read_written : (encoding : DeltaEncoding) (weights : List ℤ) (bytes : List ℕ) → Passed encoding (length bytes) → Machine (record { encoding = encoding; weights = weights }) →
    read_variant (written encoding weights bytes) ≡ given encoding (kept_weights encoding weights) (bits_of encoding)
unfolding read_variant read_consecutive read_lookback read_conv1 read_weights reading
read_written NoOp ws bytes p m =
    let s = written_stand NoOp ws bytes p m in
    rw (held NoOp ws bytes 0 variant_bits p (omega arith), s.0)
read_written (Consecutive order flag) ws bytes p m =
    let e = Consecutive order flag in
    let s = written_stand e ws bytes p m in
    rw (held e ws bytes 0 variant_bits p (omega arith), s.0, held e ws bytes variant_bits order_bits p (omega arith), s.1.0, p.formed, held e ws bytes (variant_bits + order_bits) flag_bits p (omega arith), s.1.1.0, flag_read flag)
read_written (Lookback window state flag) ws bytes p m =
    let e = Lookback window state flag in
    let s = written_stand e ws bytes p m in
    let fits = window_fits window state p.fitting in
    let back : window - 1 + 1 ≡ window = omega arith in
    rw (
      held e ws bytes 0 variant_bits p (omega arith),
      s.0,
      held e ws bytes variant_bits window_bits p (omega arith),
      s.1.0,
      back,
      held e ws bytes (variant_bits + window_bits) state_bits p (omega arith),
      s.1.1.0,
      p.formed,
      held e ws bytes (variant_bits + window_bits + state_bits) flag_bits p (omega arith),
      s.1.1.1.0,
      flag_read flag,
    )
read_written (Conv1 shift bias order) ws bytes p m =
    let e = Conv1 shift bias order in
    let k = order.0 in
    let s = written_stand e ws bytes p m in
    let range = order_range k p.ordered in
    let back : k - 1 + 1 ≡ k = omega arith in
    let bits : weights_at + total_width (weight_fields k) ≡ bits_of e = omega arith in
    let numbers = stand_read (written e ws bytes) weights_at (weight_fields k) _ s.1.1.1.1 in
    rw (
      held e ws bytes 0 variant_bits p (omega arith),
      s.0,
      held e ws bytes variant_bits shift_bits p (omega arith),
      s.1.0,
      held e ws bytes (variant_bits + shift_bits) bias_bits p (omega arith),
      s.1.1.0,
      held e ws bytes (variant_bits + shift_bits + bias_bits) count_bits p (omega arith),
      s.1.1.1.0,
      back,
      p.ordered,
      held e ws bytes weights_at (total_width (weight_fields k)) p (omega arith),
      lowered_raised 63 bias m.bias_fits,
      numbers,
      stored_read k ws m.weight_fits,
    )
    (ap (given e (kept_weights e ws)) bits)

-- the record is read back as the format keeps it
pub read_after_write : (delta : DeltaRecord) (bytes : List ℕ) (bits : ℕ) → Machine delta → write_answer delta (length bytes) ≡ Ok bits →
    read_record (bytes_after delta bytes) true ≡ Ok (record { delta = kept delta; bits = bits })
unfolding read_record bytes_after
read_after_write delta bytes bits m d =
    let a = answered delta (length bytes) d in
    rw (a.done, a.bits) (read_written delta.encoding delta.weights bytes a.passed m)

-- and so the very record, where its array holds 0 at the places that the format drops
pub same_record : (delta : DeltaRecord) (bytes : List ℕ) (bits : ℕ) → Machine delta → kept delta ≡ delta → write_answer delta (length bytes) ≡ Ok bits →
    read_record (bytes_after delta bytes) true ≡ Ok (record { delta = delta; bits = bits })
same_record delta bytes bits m e d =
    read_after_write delta bytes bits m d
    ∙ ap (λ (x : DeltaRecord). Ok (record { delta = x; bits = bits })) e
