-- The refusals of coding: each test alone, and the order in which a call makes them.
use Rattle.std.specs.Prelude.{Bool, not, ◌&&◌, ℕ, leb, ltb, eqb, length}
use Rattle.kinds.specs.declared.Refusal.TheVariants.{BadOrder, BadShift, Overflows, BadLength, TooFewSamples}
use Rattle.kinds.specs.Answers.{Answer, Done, refuse, when_done}
use Rattle.rule.specs.Numbers.{accumulator}
use Rattle.rule.specs.Configuration.{Config}
use Rattle.rule.specs.Prediction.{admitted}

-- 1 to 32
abbrev pub order_fits : ℕ → Bool
order_fits k = leb 1 k && leb k 32

-- 0 to A-1
abbrev pub shift_fits : ℕ → ℕ → Bool
shift_fits W q = ltb q (accumulator W)

-- tests 1, 2, 4, 3, where a state of `state` samples is given
unfoldable pub coding_refusal : ℕ → Config → ℕ → Answer
coding_refusal W c state =
    refuse (not (order_fits c.order)) BadOrder
    (refuse (not (shift_fits W c.shift)) BadShift
    (refuse (not (eqb (length c.weights) c.order && eqb state c.order)) BadLength
    (refuse (not (admitted W c.bias c.weights)) Overflows Done)))

-- encoding n samples: then test 5. A call that lends no state counts as one that lends k places for it
unfoldable pub encoding_refusal : ℕ → Config → ℕ → ℕ → Answer
encoding_refusal W c state n =
    when_done (coding_refusal W c state) (refuse (ltb n c.order) TooFewSamples Done) (coding_refusal W c state)

-- the fast way takes order 6 alone
unfoldable pub order_six_refusal : ℕ → Config → ℕ → Answer
order_six_refusal W c state = refuse (not (eqb c.order 6)) BadOrder (coding_refusal W c state)
