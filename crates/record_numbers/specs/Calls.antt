-- What reading and writing a record in plain numbers answer, and what they leave in what they were lent.
use Rattle.std.specs.Prelude.{Bool, not, List, ℕ, eqb, ℤ, length, Result}
use Rattle.std.specs.Result.{result_and, result_map_both, result_unwrap_or}
use Rattle.kinds.specs.declared.Refusal.{Refusal}
use Rattle.kinds.specs.declared.Refusal.TheVariants.{BadLength}
use Rattle.kinds.specs.Answers.{refuse, when_done}
use Rattle.record.specs.declared.Reading.{Reading}
use Rattle.record.specs.Reading as record_reading
use Rattle.record.specs.Reading.{read_record}
use Rattle.record.specs.Writing.{write_answer, bytes_after}
use Rattle.record_numbers.specs.declared.numbers.Numbers.{Numbers}
use Rattle.record_numbers.specs.Numbers.{numbers_of, record_of}
use Rattle.record_numbers.specs.Refusals.{numbers_refusal}
use Rattle.record_numbers.specs.declared.Readout.{Readout}

-- a reading in plain numbers
abbrev pub readout : Reading → Readout
readout r = record { numbers = numbers_of r.delta.encoding; bits = r.bits }

-- what the numbers say beside a refusal: the empty record and no bits, each of them 0
abbrev pub nothing : Readout
nothing = readout record_reading.nothing

-- the record's array has 32 places: any other number of lent weights is 4, before the bytes are looked at
unfoldable pub read_into : List ℕ → Bool → List ℤ → Result Reading Refusal
read_into bytes variants weights = refuse (not (eqb (length weights) 32)) BadLength (read_record bytes variants)

-- what reading answers
abbrev pub read_numbers : List ℕ → Bool → List ℤ → Result Readout Refusal
read_numbers bytes variants weights = result_map_both readout (λ refusal. refusal) (read_into bytes variants weights)

-- the numbers that a caller in another language is given, who has the answer beside them: each is 0 beside a refusal
abbrev pub given_out : List ℕ → Bool → List ℤ → Readout
given_out bytes variants weights = result_unwrap_or (read_numbers bytes variants weights) nothing

-- the lent weights at exit
abbrev pub weights_after : List ℕ → Bool → List ℤ → List ℤ
weights_after bytes variants weights =
    result_unwrap_or (result_map_both (λ r. r.delta.weights) (λ refusal. refusal) (read_into bytes variants weights)) weights

-- what writing answers: those tests, then the record's own
unfoldable pub write_numbers : Numbers → List ℤ → ℕ → Result ℕ Refusal
write_numbers n weights room = result_and (numbers_refusal n (length weights)) (write_answer (record_of n weights) room)

-- the buffer at exit
unfoldable pub bytes_after_numbers : Numbers → List ℤ → List ℕ → List ℕ
bytes_after_numbers n weights bytes = when_done (numbers_refusal n (length weights)) (bytes_after (record_of n weights) bytes) bytes
