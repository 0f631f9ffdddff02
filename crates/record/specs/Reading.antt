-- What reading a delta record answers: its fields in order, each where the one before it ended, and each test as soon as its fields are read.
use Rattle.std.specs.Prelude.{Bool, false, cond, not, List, [], ◌∷◌, ◌++◌, map, ℕ, ◌+◌, ◌-◌, eqb, ℤ, pos, length, replicate, Result, Ok, Err}
use Rattle.bits.specs.Fields.{field_at, holds}
use Rattle.kinds.specs.Answers.{refuse}
use Rattle.kinds.specs.declared.Refusal.{Refusal}
use Rattle.kinds.specs.declared.Refusal.TheVariants.{BadOrder, BytesEnd, UnknownVariant, BadRecord}
use Rattle.record.specs.declared.DeltaEncoding.{DeltaEncoding}
use Rattle.record.specs.declared.DeltaEncoding.TheVariants.{NoOp, Consecutive, Lookback, Conv1}
use Rattle.record.specs.declared.Reading.{Reading}
use Rattle.record.specs.Format.{consecutive_fields, lookback_fields, conv1_fields, weight_fields, total_width, logs_malformed}
use Rattle.record.specs.Signed.{lowered}
use Rattle.record.specs.Widths.{variant_bits, order_bits}
use Rattle.rule.specs.Refusals.{order_fits}

-- weights in the record's array of 32, whose other places are 0
abbrev pub in_array : List ℤ → List ℤ
in_array weights = weights ++ replicate (32 - length weights) (pos 0)

abbrev pub no_weights : List ℤ
no_weights = in_array []

abbrev pub given : DeltaEncoding → List ℤ → ℕ → Result Reading Refusal
given encoding weights bits = Ok (record { delta = record { encoding = encoding; weights = weights }; bits = bits })

-- the empty record, and no bits used: what numbers say beside a refusal
abbrev pub nothing : Reading
nothing = record { delta = record { encoding = NoOp; weights = no_weights }; bits = 0 }

-- the first of the fields, at a bit place; its number, the place behind it and the other fields are handed on.
-- 7 where the bytes end before or inside it, as where no field is left
unfoldable pub reading : List ℕ → ℕ → List ℕ → (ℕ → ℕ → List ℕ → Result Reading Refusal) → Result Reading Refusal
reading bytes at [] next = Err BytesEnd
reading bytes at (width ∷ fields) next =
    cond (holds bytes at width) (next (field_at bytes at width) (at + width) fields) (Err BytesEnd)

-- order 0 is 9
unfoldable pub read_consecutive : List ℕ → ℕ → Result Reading Refusal
read_consecutive bytes at =
    reading bytes at consecutive_fields λ order at fields.
    refuse (eqb order 0) BadRecord
    (reading bytes at fields λ flag at _.
    given (Consecutive (record { 0 = order }) (eqb flag 1)) no_weights at)

-- the window's log is stored less 1; malformed logs are 9, once both are read
unfoldable pub read_lookback : List ℕ → ℕ → Result Reading Refusal
read_lookback bytes at =
    reading bytes at lookback_fields λ window at fields.
    reading bytes at fields λ state at fields.
    refuse (logs_malformed (window + 1) state) BadRecord
    (reading bytes at fields λ flag at _.
    given (Lookback (window + 1) state (eqb flag 1)) no_weights at)

-- the numbers in fields that follow one another
abbrev pub numbers_at : List ℕ → ℕ → List ℕ → List ℕ
numbers_at bytes at [] = []
numbers_at bytes at (width ∷ fields) = field_at bytes at width ∷ numbers_at bytes (at + width) fields

abbrev pub weights_in : List ℕ → ℕ → ℕ → List ℤ
weights_in bytes at order = map (lowered 31) (numbers_at bytes at (weight_fields order))

-- the weights, the last fields of an encoding whose other fields are read; 7 where one of them is missing
unfoldable pub read_weights : List ℕ → ℕ → DeltaEncoding → ℕ → Result Reading Refusal
read_weights bytes at encoding order =
    cond (holds bytes at (total_width (weight_fields order)))
    (given encoding (in_array (weights_in bytes at order)) (at + total_width (weight_fields order)))
    (Err BytesEnd)

-- the order is stored less 1; above 32 it is 1, which five bits can't hold
unfoldable pub read_conv1 : List ℕ → ℕ → Result Reading Refusal
read_conv1 bytes at =
    reading bytes at conv1_fields λ shift at fields.
    reading bytes at fields λ bias at fields.
    reading bytes at fields λ count at _.
    refuse (not (order_fits (count + 1))) BadOrder
    (read_weights bytes at (Conv1 (record { 0 = shift }) (lowered 63 bias) (record { 0 = count + 1 })) (count + 1))

-- 0 nothing, 1 Consecutive, 2 Lookback, 3 Conv1, any other 8
unfoldable pub read_variant : List ℕ → Result Reading Refusal
read_variant bytes =
    reading bytes 0 (variant_bits ∷ []) λ variant at _.
    cond (eqb variant 0) (given NoOp no_weights at)
    (cond (eqb variant 1) (read_consecutive bytes at)
    (cond (eqb variant 2) (read_lookback bytes at)
    (cond (eqb variant 3) (read_conv1 bytes at)
    (Err UnknownVariant))))

-- the form without variants: an order alone, 0 for nothing, the flag off
unfoldable pub read_order : List ℕ → Result Reading Refusal
read_order bytes =
    reading bytes 0 (order_bits ∷ []) λ order at _.
    cond (eqb order 0) (given NoOp no_weights at)
    (given (Consecutive (record { 0 = order }) false) no_weights at)

unfoldable pub read_record : List ℕ → Bool → Result Reading Refusal
read_record bytes variants = cond variants (read_variant bytes) (read_order bytes)
