-- A call of decoding: from the width, the configuration, and the lent state and piece, to all that the call leaves. The two ways differ
-- in their refusals alone.
use Rattle.std.specs.Prelude.{List, ℕ, length}
use Rattle.kinds.specs.Answers.{Answer, answer_number, when_done}
use Rattle.rule.specs.Configuration.{Config}
use Rattle.rule.specs.Prediction.{prediction}
use Rattle.rule.specs.Coding.{decoded_piece, new_state}
use Rattle.rule.specs.Refusals.{coding_refusal, order_six_refusal}
use Rattle.calls.specs.declared.Way.{Way}
use Rattle.calls.specs.declared.Way.TheVariants.{General, OrderSix}

-- what a call says, and what it was lent, at its exit
pub record Decoded : Type 0 where
  pub said : Answer
  pub state : List ℕ
  pub piece : List ℕ

abbrev pub left : Answer → List ℕ → List ℕ → Decoded
left said state piece = record { said = said; state = state; piece = piece }

-- the samples from the state on take the piece's place, and the last k are the state for the piece that follows; beside a refusal all
-- that was lent stays as it was
unfoldable pub answered : Answer → ℕ → Config → List ℕ → List ℕ → Decoded
answered answer W c state piece =
    when_done answer
    (left answer (new_state W c.order (prediction W c) state piece) (decoded_piece W c.order (prediction W c) state piece))
    (left answer state piece)

abbrev pub refusal_by : Way → ℕ → Config → ℕ → Answer
refusal_by General W c state = coding_refusal W c state
refusal_by OrderSix W c state = order_six_refusal W c state

abbrev pub decode_by : Way → ℕ → Config → List ℕ → List ℕ → Decoded
decode_by way W c state piece = answered (refusal_by way W c (length state)) W c state piece

-- what a user calls
abbrev pub decode : ℕ → Config → List ℕ → List ℕ → Decoded
decode W c state piece = decode_by General W c state piece

-- the same with the answer's number
pub record Numbered : Type 0 where
  pub number : ℕ
  pub state : List ℕ
  pub piece : List ℕ

abbrev pub left_numbered : ℕ → List ℕ → List ℕ → Numbered
left_numbered number state piece = record { number = number; state = state; piece = piece }

abbrev pub numbered : Decoded → Numbered
numbered d = left_numbered (answer_number d.said) d.state d.piece
