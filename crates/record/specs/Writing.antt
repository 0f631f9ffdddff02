-- What writing a delta record answers, and the buffer at exit: the tests 1, 9, 10 and 11, and the same fields that are read.
use Rattle.std.specs.Prelude.{Bool, false, cond, not, ◌||◌, List, [], ◌∷◌, map, ℕ, ◌+◌, ◌-◌, ◌/◌, ◌%◌, eqb, ltb, ℤ, length, take, Result, Ok}
use Rattle.std.specs.Result.{result_and}
use Rattle.bits.specs.Fields.{with_field}
use Rattle.kinds.specs.Answers.{Answer, Done, refuse, when_done}
use Rattle.kinds.specs.declared.Refusal.{Refusal}
use Rattle.kinds.specs.declared.Refusal.TheVariants.{BadOrder, BadRecord, UnfitField, NoRoom}
use Rattle.record.specs.declared.DeltaEncoding.{DeltaEncoding}
use Rattle.record.specs.declared.DeltaEncoding.TheVariants.{NoOp, Consecutive, Lookback, Conv1}
use Rattle.record.specs.declared.DeltaRecord.{DeltaRecord}
use Rattle.record.specs.Format.{fields_of, bits_of, logs_malformed}
use Rattle.record.specs.Signed.{raised}
use Rattle.record.specs.Widths.{order_bits, window_bits, state_bits, greatest, greatest_shift}
use Rattle.rule.specs.Refusals.{order_fits}

abbrev pub flag_value : Bool → ℕ
flag_value flag = cond flag 1 0

abbrev pub stored_weights : ℕ → List ℤ → List ℕ
stored_weights order weights = map (raised 31) (take order weights)

-- the number in each field of a record, in order
abbrev pub stored : DeltaEncoding → List ℤ → List ℕ
stored NoOp weights = 0 ∷ []
stored (Consecutive order flag) weights = 1 ∷ order.0 ∷ flag_value flag ∷ []
stored (Lookback window state flag) weights = 2 ∷ (window - 1) ∷ state ∷ flag_value flag ∷ []
stored (Conv1 shift bias order) weights = 3 ∷ shift.0 ∷ raised 63 bias ∷ (order.0 - 1) ∷ stored_weights order.0 weights

-- numbers put into fields that follow one another from a bit place on
abbrev pub put_fields : List ℕ → ℕ → List ℕ → List ℕ → List ℕ
put_fields bytes at [] numbers = bytes
put_fields bytes at (width ∷ fields) [] = bytes
put_fields bytes at (width ∷ fields) (number ∷ numbers) = put_fields (with_field bytes at width number) (at + width) fields numbers

abbrev pub put_record : DeltaEncoding → List ℤ → List ℕ → List ℕ
put_record encoding weights bytes = put_fields bytes 0 (fields_of encoding) (stored encoding weights)

-- how many bits of the last byte are unused
abbrev pub unused : ℕ → ℕ
unused bits = (8 - bits % 8) % 8

-- the record from bit 0 on, the unused bits of its last byte 0, later bytes as they were
unfoldable pub written : DeltaEncoding → List ℤ → List ℕ → List ℕ
written encoding weights bytes = with_field (put_record encoding weights bytes) (bits_of encoding) (unused (bits_of encoding)) 0

-- test 1, for Conv1 alone
abbrev pub misordered : DeltaEncoding → Bool
misordered NoOp = false
misordered (Consecutive order flag) = false
misordered (Lookback window state flag) = false
misordered (Conv1 shift bias order) = not (order_fits order.0)

-- test 9
abbrev pub malformed : DeltaEncoding → Bool
malformed NoOp = false
malformed (Consecutive order flag) = eqb order.0 0
malformed (Lookback window state flag) = logs_malformed window state
malformed (Conv1 shift bias order) = false

-- logs that their fields can't hold, the window's less 1
abbrev pub logs_unfit : ℕ → ℕ → Bool
logs_unfit window state = eqb window 0 || (ltb (greatest window_bits) (window - 1) || ltb (greatest state_bits) state)

-- test 10; every flag, bias and weight fits its field, and so does an order of 1 to 32 less 1
abbrev pub unfit : DeltaEncoding → Bool
unfit NoOp = false
unfit (Consecutive order flag) = ltb (greatest order_bits) order.0
unfit (Lookback window state flag) = logs_unfit window state
unfit (Conv1 shift bias order) = ltb greatest_shift shift.0

-- test 11, for a buffer of so many bytes
abbrev pub too_long : DeltaEncoding → ℕ → Bool
too_long encoding room = ltb room ((bits_of encoding + 7) / 8)

unfoldable pub writing_refusal : DeltaEncoding → ℕ → Answer
writing_refusal encoding room =
    refuse (misordered encoding) BadOrder
    (refuse (malformed encoding) BadRecord
    (refuse (unfit encoding) UnfitField
    (refuse (too_long encoding room) NoRoom Done)))

-- what writing answers: the bits written
unfoldable pub write_answer : DeltaRecord → ℕ → Result ℕ Refusal
write_answer delta room = result_and (writing_refusal delta.encoding room) (Ok (bits_of delta.encoding))

-- the buffer at exit: as it was after a refusal
unfoldable pub bytes_after : DeltaRecord → List ℕ → List ℕ
bytes_after delta bytes =
    when_done (writing_refusal delta.encoding (length bytes)) (written delta.encoding delta.weights bytes) bytes
