-- The refusal table: each refusal's number, and the two ways in which answers are put together.
use Rattle.std.specs.Prelude.{Bool, true, false, cond, List, ◌++◌, ℕ, Result, Ok, Err, is_ok, codes, decimal}
use Rattle.kinds.specs.declared.Refusal.{Refusal}
use Rattle.kinds.specs.declared.Refusal.TheVariants.{BadOrder, BadShift, Overflows, BadLength, TooFewSamples, NoConfiguration, BytesEnd, UnknownVariant, BadRecord, UnfitField, NoRoom}

abbrev pub number_of : Refusal → ℕ
number_of BadOrder = 1
number_of BadShift = 2
number_of Overflows = 3
number_of BadLength = 4
number_of TooFewSamples = 5
number_of NoConfiguration = 6
number_of BytesEnd = 7
number_of UnknownVariant = 8
number_of BadRecord = 9
number_of UnfitField = 10
number_of NoRoom = 11

-- what is printed of a refusal
abbrev pub refusal_text : Refusal → List ℕ
refusal_text r = codes "refused " ++ decimal (number_of r)

-- 0 is done
abbrev pub answer_number : {A : Type 0} → Result A Refusal → ℕ
answer_number (Ok a) = 0
answer_number (Err r) = number_of r

-- what a call says that has nothing else to say
abbrev pub Answer : Type 0
Answer = Result (Unit {0}) Refusal

abbrev pub Done : Answer
Done = Ok tt

-- the refusal r where the test fails it, and otherwise what the later tests say
abbrev pub refuse : {A : Type 0} → Bool → Refusal → Result A Refusal → Result A Refusal
refuse true r later = Err r
refuse false r later = later

-- what a call leaves: the first where it is done, the second beside a refusal
abbrev pub when_done {ℓ} : {A : Type 0} {B : Type ℓ} → Result A Refusal → B → B → B
when_done a done refused = cond (is_ok a) done refused
