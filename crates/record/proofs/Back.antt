-- Writing after reading: every record that the reader gives in the form with variants is written back to the very bits that it was read from.
use mathlib.Core.Bool.{true, false, not}
use mathlib.Core.List.{List}
use mathlib.Core.Logic.{inl}
use mathlib.Core.Path.{◌≡◌, refl, sym, ◌∙◌}
use Prim.Native.Nat.{ℕ, ◌+◌, ◌-◌, ◌*◌, ◌/◌, ◌^◌, ◌≤◌, ◌<◌}
use native.Mathlib.Omega.{arith}
use borrow.Author.Tests.{le-ltb, eqb-true, eqb-false, ne_eqb}
use lib.Dec.{eqb, ltb}
use lib.IntN.{ℤ}
use lib.ListN.{length}
use Rattle.std.specs.Prelude.{Result, Ok, IfOk}
use Rattle.std.proofs.lemmas.Result.{IfOk-at_ok}
use Rattle.bits.specs.Fields.{bit_at, field_at, holds}
use Rattle.bits.proofs.Fields.{field_lt, bit_outside}
use Rattle.kinds.specs.declared.Refusal.{Refusal}
use Rattle.record.specs.declared.DeltaEncoding.{DeltaEncoding}
use Rattle.record.specs.declared.DeltaEncoding.TheVariants.{NoOp, Consecutive, Lookback, Conv1}
use Rattle.record.specs.declared.Reading.{Reading}
use Rattle.record.specs.Format.{weight_fields, fields_of, total_width, bits_of, weights_at, logs_malformed}
use Rattle.record.specs.Reading.{in_array, no_weights, weights_in, read_weights, read_consecutive, read_lookback, read_conv1, read_variant, read_record}
use Rattle.record.specs.Signed.{lowered}
use Rattle.record.specs.Widths.{variant_bits, order_bits, flag_bits, window_bits, state_bits, shift_bits, bias_bits, count_bits, greatest}
use Rattle.record.specs.Writing.{flag_value, stored, put_record, unused, written, misordered, malformed, unfit, too_long, writing_refusal, write_answer, bytes_after}
use Rattle.record.proofs.Put.{Stand, bit_copied, read_stand}
use Rattle.record.proofs.Signed.{raised_lowered}
use Rattle.record.proofs.Walk.{by_test, by_refusal, by_reading}
use Rattle.record.proofs.Weights.{array_stored}
use Rattle.rule.specs.Refusals.{order_fits}

-- the record of r is written to `out` without refusal, in as many bits as it was read from, and they are the bits of `bytes`
pub record WrittenBack (bytes out : List ℕ) (r : Reading) : Type 0 where
  pub answered : write_answer r.delta (length out) ≡ Ok r.bits
  pub copied : (i : ℕ) → i < r.bits → bit_at (bytes_after r.delta out) i ≡ bit_at bytes i

flag_back : (v : ℕ) → v < 2 → v ≡ flag_value (eqb v 1)
flag_back v h = by_test (λ (n : ℕ). v ≡ n) (eqb v 1) 1 0 (λ e. eqb-true v 1 e) (λ e. let n : v ≡ 1 → ⊥ = eqb-false v 1 e in omega arith)

-- a number below 2^n fits n bits
fits : (n v : ℕ) → v < 2 ^ n → ltb (greatest n) v ≡ false
fits n v h = le-ltb (greatest n) v (omega arith)

module _ (bytes out : List ℕ) where
  -- a record whose numbers stand in the bytes, and which no test but the last can refuse
  stand_back : (encoding : DeltaEncoding) (weights : List ℤ) → misordered encoding ≡ false → malformed encoding ≡ false → unfit encoding ≡ false →
      Stand bytes 0 (fields_of encoding) (stored encoding weights) → bits_of encoding ≤ 8 * length out →
      WrittenBack bytes out (record { delta = record { encoding = encoding; weights = weights }; bits = bits_of encoding })
  unfolding write_answer bytes_after writing_refusal written
  stand_back encoding weights p q r stand room =
      let n = bits_of encoding in
      let s : too_long encoding (length out) ≡ false = le-ltb (length out) ((n + 7) / 8) (omega arith) in
      record {
        answered = rw (p, q, r, s);
        copied = rw (p, q, r, s)
            (λ i h.
            bit_outside (put_record encoding weights out) n (unused n) 0 i (inl h)
            ∙ bit_copied bytes out 0 (fields_of encoding) (stored encoding weights) stand (omega arith) i (omega arith) (omega arith));
      }

  -- what is shown of everything read
  abbrev Back : Result Reading Refusal → Type 0
  Back r = IfOk r (λ x. x.bits ≤ 8 * length out → WrittenBack bytes out x)

  consecutive_back : field_at bytes 0 variant_bits ≡ 1 → Back (read_consecutive bytes variant_bits)
  unfolding read_consecutive
  consecutive_back variant =
      let order = field_at bytes variant_bits order_bits in
      let flag = field_at bytes (variant_bits + order_bits) flag_bits in
      by_reading Back bytes _ _ _ _ (λ _.
      by_refusal Back (eqb order 0) _ _ tt (λ formed.
      by_reading Back bytes _ _ _ _ (λ _ room.
      stand_back (Consecutive (record { 0 = order }) (eqb flag 1)) no_weights refl formed (fits order_bits order (field_lt bytes _ order_bits))
      (variant, (refl, (flag_back flag (field_lt bytes _ flag_bits), tt))) room)
      tt)) tt

  lookback_back : field_at bytes 0 variant_bits ≡ 2 → Back (read_lookback bytes variant_bits)
  unfolding read_lookback
  lookback_back variant =
      let w = field_at bytes variant_bits window_bits in
      let s = field_at bytes (variant_bits + window_bits) state_bits in
      let flag = field_at bytes (variant_bits + window_bits + state_bits) flag_bits in
      by_reading Back bytes _ _ _ _ (λ _.
      by_reading Back bytes _ _ _ _ (λ _.
      by_refusal Back (logs_malformed (w + 1) s) _ _ tt (λ formed.
      by_reading Back bytes _ _ _ _ (λ _ room.
      let less : w ≡ w + 1 - 1 = omega arith in
      stand_back (Lookback (w + 1) s (eqb flag 1)) no_weights refl formed
      (rw (ne_eqb (w + 1) 0 (λ e. omega arith), fits window_bits (w + 1 - 1) (omega (arith, field_lt bytes variant_bits window_bits)), fits state_bits s (field_lt bytes _ state_bits)))
      (variant, (less, (refl, (flag_back flag (field_lt bytes _ flag_bits), tt)))) room)
      tt)) tt) tt

  conv1_back : field_at bytes 0 variant_bits ≡ 3 → Back (read_conv1 bytes variant_bits)
  unfolding read_conv1 read_weights
  conv1_back variant =
      let q = field_at bytes variant_bits shift_bits in
      let b = field_at bytes (variant_bits + shift_bits) bias_bits in
      let c = field_at bytes (variant_bits + shift_bits + bias_bits) count_bits in
      let k = c + 1 in
      let less : c ≡ k - 1 = omega arith in
      let e = Conv1 (record { 0 = q }) (lowered 63 b) (record { 0 = k }) in
      let bits : weights_at + total_width (weight_fields k) ≡ bits_of e = omega arith in
      by_reading Back bytes _ _ _ _ (λ _.
      by_reading Back bytes _ _ _ _ (λ _.
      by_reading Back bytes _ _ _ _ (λ _.
      by_refusal Back (not (order_fits k)) _ _ tt (λ ordered.
      by_test Back (holds bytes weights_at (total_width (weight_fields k))) _ _ (λ _.
      rw bits (λ room.
      stand_back e (in_array (weights_in bytes weights_at k)) ordered refl (fits shift_bits q (field_lt bytes _ shift_bits))
      (variant, (refl, (sym (raised_lowered 63 b), (less, rw (array_stored bytes weights_at k) (read_stand bytes weights_at (weight_fields k)))))) room))
      (λ _. tt))) tt) tt) tt

  variant_back : Back (read_variant bytes)
  unfolding read_variant
  variant_back =
      let v = field_at bytes 0 variant_bits in
      by_reading Back bytes 0 variant_bits _ _ (λ _.
      by_test Back (eqb v 0) _ _ (λ e room. stand_back NoOp no_weights refl refl refl (eqb-true v 0 e, tt) room) (λ _.
      by_test Back (eqb v 1) _ _ (λ e. consecutive_back (eqb-true v 1 e)) (λ _.
      by_test Back (eqb v 2) _ _ (λ e. lookback_back (eqb-true v 2 e)) (λ _.
      by_test Back (eqb v 3) _ _ (λ e. conv1_back (eqb-true v 3 e)) (λ _.
      tt)))))
      tt

-- every record that the reader gives is written back to the bits that it was read from
pub write_after_read : (bytes out : List ℕ) (r : Reading) → read_record bytes true ≡ Ok r → r.bits ≤ 8 * length out → WrittenBack bytes out r
unfolding read_record
write_after_read bytes out r d room = IfOk-at_ok (λ x. x.bits ≤ 8 * length out → WrittenBack bytes out x) d (variant_back bytes out) room
