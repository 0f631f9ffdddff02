-- What of plain numbers is refused before there is a record.
use Rattle.std.specs.Prelude.{cond, not, ℕ, eqb, ltb, Result, Ok}
use Rattle.std.specs.Result.{result_and}
use Rattle.kinds.specs.Answers.{Answer, Done, refuse}
use Rattle.kinds.specs.declared.Refusal.{Refusal}
use Rattle.kinds.specs.declared.Refusal.TheVariants.{BadOrder, BadLength, UnknownVariant}
use Rattle.record.specs.declared.DeltaEncoding.{DeltaEncoding}
use Rattle.record_numbers.specs.Numbers.{encoding_of}
use Rattle.record_numbers.specs.declared.numbers.Numbers.{Numbers}
use Rattle.rule.specs.Refusals.{order_fits}

-- tests 1 and 4, for Conv1 alone
abbrev pub conv1_refusal : ℕ → ℕ → Answer
conv1_refusal order weights = refuse (not (order_fits order)) BadOrder (refuse (not (eqb weights order)) BadLength Done)

-- what is tested before there is a record: 8; then, for Conv1, 1 and 4
unfoldable pub numbers_refusal : Numbers → ℕ → Answer
numbers_refusal n weights =
    refuse (ltb 3 n.variant) UnknownVariant
    (cond (eqb n.variant 3) (conv1_refusal n.order.0 weights) Done)

-- the encoding, where no test refuses it
abbrev pub tested_encoding : Numbers → ℕ → Result DeltaEncoding Refusal
tested_encoding n weights = result_and (numbers_refusal n weights) (Ok (encoding_of n))
