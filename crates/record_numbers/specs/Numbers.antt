-- A record as plain numbers, and plain numbers as a record.
use Rattle.std.specs.Prelude.{Bool, false, cond, List, ℕ, eqb, ltb, ℤ, pos, Result, Ok}
use Rattle.kinds.specs.Answers.{refuse}
use Rattle.kinds.specs.declared.Refusal.{Refusal}
use Rattle.kinds.specs.declared.Refusal.TheVariants.{UnknownVariant}
use Rattle.record.specs.declared.DeltaEncoding.{DeltaEncoding}
use Rattle.record.specs.declared.DeltaEncoding.TheVariants.{NoOp, Consecutive, Lookback, Conv1}
use Rattle.record.specs.declared.DeltaRecord.{DeltaRecord}
use Rattle.record.specs.Reading.{in_array, no_weights}
use Rattle.record_numbers.specs.declared.numbers.Numbers.{Numbers}

-- variant, order, window log, state log, flag, shift, bias
abbrev pub given : ℕ → ℕ → ℕ → ℕ → Bool → ℕ → ℤ → Numbers
given variant order window state flag shift bias =
    record {
      variant = variant;
      order = record { 0 = order };
      window_n_log = window;
      state_n_log = state;
      secondary_uses_delta = flag;
      quantization = record { 0 = shift };
      bias = bias;
    }

-- what a variant does not have is 0
abbrev pub numbers_of : DeltaEncoding → Numbers
numbers_of NoOp = given 0 0 0 0 false 0 (pos 0)
numbers_of (Consecutive order flag) = given 1 order.0 0 0 flag 0 (pos 0)
numbers_of (Lookback window state flag) = given 2 0 window state flag 0 (pos 0)
numbers_of (Conv1 shift bias order) = given 3 order.0 0 0 false shift.0 bias

-- of a variant that is 0 to 3; what it does not have is not looked at
abbrev pub encoding_of : Numbers → DeltaEncoding
encoding_of n =
    cond (eqb n.variant 0) NoOp
    (cond (eqb n.variant 1) (Consecutive n.order n.secondary_uses_delta)
    (cond (eqb n.variant 2) (Lookback n.window_n_log n.state_n_log n.secondary_uses_delta)
    (Conv1 n.quantization n.bias n.order)))

-- 8 for any other variant
abbrev pub known_encoding : Numbers → Result DeltaEncoding Refusal
known_encoding n = refuse (ltb 3 n.variant) UnknownVariant (Ok (encoding_of n))

-- Conv1's weights in the record's array; no other variant has any
abbrev pub weights_of : ℕ → List ℤ → List ℤ
weights_of variant weights = cond (eqb variant 3) (in_array weights) no_weights

abbrev pub record_of : Numbers → List ℤ → DeltaRecord
record_of n weights = record { encoding = encoding_of n; weights = weights_of n.variant weights }
