-- What the reader never does: use bits that are not there, or refuse an order that five bits can hold.
use mathlib.Core.Bool.{Bool, true, false}
use mathlib.Core.List.{List}
use mathlib.Core.Path.{◌≡◌, refl}
use Prim.Native.Nat.{ℕ, ◌+◌, ◌*◌, ◌≤◌}
use native.Mathlib.Omega.{arith}
use borrow.Author.Tests.{le-leb, leb-true}
use lib.Dec.{eqb}
use lib.ListN.{length}
use Rattle.std.specs.Prelude.{Result, Ok, Err, IfOk}
use Rattle.bits.specs.Fields.{field_at, holds}
use Rattle.bits.proofs.Fields.{field_lt}
use Rattle.kinds.specs.declared.Refusal.{Refusal}
use Rattle.kinds.specs.declared.Refusal.TheVariants.{BadOrder, BytesEnd, UnknownVariant, BadRecord}
use Rattle.record.specs.declared.DeltaEncoding.{DeltaEncoding}
use Rattle.record.specs.declared.Reading.{Reading}
use Rattle.record.specs.Format.{weight_fields, total_width, logs_malformed}
use Rattle.record.specs.Reading.{read_weights, read_consecutive, read_lookback, read_conv1, read_variant, read_order, read_record}
use Rattle.record.specs.Widths.{variant_bits, order_bits, window_bits, state_bits, shift_bits, bias_bits, count_bits}
use Rattle.record.proofs.Walk.{by_test, by_refusal, by_reading}

-- r, read from bytes, uses bits that are there, and is not the refusal 1
pub record Sound (bytes : List ℕ) (r : Result Reading Refusal) : Type 0 where
  pub there : IfOk r (λ x. x.bits ≤ 8 * length bytes)
  pub ordered : r ≡ Err BadOrder → ⊥

module _ (bytes : List ℕ) where
  abbrev P : Result Reading Refusal → Type 0
  P = Sound bytes

  refused_sound : (r : Refusal) → (◌≡◌ {A = Result Reading Refusal} (Err r) (Err BadOrder) → ⊥) → P (Err r)
  refused_sound r n = record { there = tt; ordered = n }

  short : P (Err BytesEnd)
  short = refused_sound BytesEnd (λ e. let z : ◌≡◌ {A = ℕ} 0 1 = cc in omega arith)

  bad : P (Err BadRecord)
  bad = refused_sound BadRecord (λ e. let z : ◌≡◌ {A = ℕ} 0 1 = cc in omega arith)

  -- a record whose last field was there
  given_sound : (at width : ℕ) (x : Reading) → x.bits ≡ at + width → holds bytes at width ≡ true → P (Ok x)
  given_sound at width x e h =
      record {
        there = omega (arith, leb-true (at + width) (8 * length bytes) h);
        ordered = λ o. let z : ◌≡◌ {A = ℕ} 0 1 = cc in omega arith;
      }

  consecutive_sound : (at : ℕ) → P (read_consecutive bytes at)
  unfolding read_consecutive
  consecutive_sound at =
      by_reading P bytes at _ _ _ (λ _.
      by_refusal P (eqb (field_at bytes at order_bits) 0) _ _ bad (λ _.
      by_reading P bytes _ _ _ _ (given_sound _ _ _ refl) short)) short

  lookback_sound : (at : ℕ) → P (read_lookback bytes at)
  unfolding read_lookback
  lookback_sound at =
      by_reading P bytes at _ _ _ (λ _.
      by_reading P bytes _ _ _ _ (λ _.
      by_refusal P (logs_malformed (field_at bytes at window_bits + 1) (field_at bytes (at + window_bits) state_bits)) _ _ bad (λ _.
      by_reading P bytes _ _ _ _ (given_sound _ _ _ refl) short)) short) short

  weights_sound : (at : ℕ) (encoding : DeltaEncoding) (order : ℕ) → P (read_weights bytes at encoding order)
  unfolding read_weights
  weights_sound at encoding order = by_test P (holds bytes at (total_width (weight_fields order))) _ _ (given_sound at (total_width (weight_fields order)) _ refl) (λ _. short)

  conv1_sound : (at : ℕ) → P (read_conv1 bytes at)
  unfolding read_conv1
  conv1_sound at =
      let place = at + shift_bits + bias_bits in
      let k = field_at bytes place count_bits + 1 in
      by_reading P bytes at _ _ _ (λ _.
      by_reading P bytes _ _ _ _ (λ _.
      by_reading P bytes _ _ _ _ (λ _.
      rw (le-leb 1 k (omega arith), le-leb k 32 (omega (arith, field_lt bytes place count_bits))) (weights_sound _ _ k))
      short) short) short

  variant_sound : P (read_variant bytes)
  unfolding read_variant
  variant_sound =
      let v = field_at bytes 0 variant_bits in
      by_reading P bytes 0 _ _ _ (λ h.
      by_test P (eqb v 0) _ _ (λ _. given_sound 0 variant_bits _ refl h) (λ _.
      by_test P (eqb v 1) _ _ (λ _. consecutive_sound _) (λ _.
      by_test P (eqb v 2) _ _ (λ _. lookback_sound _) (λ _.
      by_test P (eqb v 3) _ _ (λ _. conv1_sound _) (λ _.
      refused_sound UnknownVariant (λ e. let z : ◌≡◌ {A = ℕ} 0 1 = cc in omega arith))))))
      short

  order_sound : P (read_order bytes)
  unfolding read_order
  order_sound =
      by_reading P bytes 0 _ _ _ (λ h.
      by_test P (eqb (field_at bytes 0 order_bits) 0) _ _ (λ _. given_sound 0 order_bits _ refl h) (λ _. given_sound 0 order_bits _ refl h))
      short

pub sound : (bytes : List ℕ) (variants : Bool) → Sound bytes (read_record bytes variants)
unfolding read_record
sound bytes true = variant_sound bytes
sound bytes false = order_sound bytes
