-- The delta record's format, for the reader and the writer alike: the fields of each variant in order, by their widths in bits.
use Rattle.std.specs.Prelude.{Bool, ◌||◌, List, [], ◌∷◌, ◌++◌, ℕ, ◌+◌, ltb, replicate}
use Rattle.record.specs.declared.DeltaEncoding.{DeltaEncoding}
use Rattle.record.specs.declared.DeltaEncoding.TheVariants.{NoOp, Consecutive, Lookback, Conv1}
use Rattle.record.specs.Widths.{variant_bits, order_bits, flag_bits, window_bits, state_bits, shift_bits, bias_bits, count_bits, weight_bits, greatest_window_log}

-- what follows the variant, with which every record begins
abbrev pub consecutive_fields : List ℕ
consecutive_fields = order_bits ∷ flag_bits ∷ []

abbrev pub lookback_fields : List ℕ
lookback_fields = window_bits ∷ state_bits ∷ flag_bits ∷ []

-- up to the weights; the count says how many of them follow
abbrev pub conv1_fields : List ℕ
conv1_fields = shift_bits ∷ bias_bits ∷ count_bits ∷ []

abbrev pub weight_fields : ℕ → List ℕ
weight_fields order = replicate order weight_bits

-- all fields of a record
abbrev pub fields_of : DeltaEncoding → List ℕ
fields_of NoOp = variant_bits ∷ []
fields_of (Consecutive order flag) = variant_bits ∷ consecutive_fields
fields_of (Lookback window state flag) = variant_bits ∷ lookback_fields
fields_of (Conv1 shift bias order) = variant_bits ∷ conv1_fields ++ weight_fields order.0

-- how many bits fields take
abbrev pub total_width : List ℕ → ℕ
total_width [] = 0
total_width (width ∷ fields) = width + total_width fields

abbrev pub bits_of : DeltaEncoding → ℕ
bits_of encoding = total_width (fields_of encoding)

-- the bit place of a Conv1's first weight
abbrev pub weights_at : ℕ
weights_at = total_width (variant_bits ∷ conv1_fields)

-- what no Lookback may say: a window above the limit, or a state above the window, both by their logs
abbrev pub logs_malformed : ℕ → ℕ → Bool
logs_malformed window state = ltb greatest_window_log window || ltb window state
