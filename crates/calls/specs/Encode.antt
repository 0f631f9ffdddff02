-- A call of encoding: from the width, the configuration, and the lent samples and state, to all that the call leaves.
use Rattle.std.specs.Prelude.{List, ℕ, length, take}
use Rattle.kinds.specs.Answers.{Answer, answer_number, when_done}
use Rattle.rule.specs.Configuration.{Config}
use Rattle.rule.specs.Prediction.{prediction}
use Rattle.rule.specs.Coding.{encoded_buffer}
use Rattle.rule.specs.Refusals.{encoding_refusal}

-- what a call says, and what it was lent, at its exit
pub record Encoded : Type 0 where
  pub said : Answer
  pub samples : List ℕ
  pub state : List ℕ

abbrev pub left : Answer → List ℕ → List ℕ → Encoded
left said samples state = record { said = said; samples = samples; state = state }

-- the samples are coded where they lie, and the first k of them are the saved state; beside a refusal all that was lent stays as it was
unfoldable pub encode : ℕ → Config → List ℕ → List ℕ → Encoded
encode W c samples state =
    let answer = encoding_refusal W c (length state) (length samples) in
    when_done answer
    (left answer (encoded_buffer W c.order (prediction W c) samples) (take c.order samples))
    (left answer samples state)

-- the same with the answer's number
pub record Numbered : Type 0 where
  pub number : ℕ
  pub samples : List ℕ
  pub state : List ℕ

abbrev pub left_numbered : ℕ → List ℕ → List ℕ → Numbered
left_numbered number samples state = record { number = number; samples = samples; state = state }

abbrev pub numbered : Encoded → Numbered
numbered e = left_numbered (answer_number e.said) e.samples e.state
