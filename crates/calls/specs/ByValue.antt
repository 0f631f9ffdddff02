-- The calls with the state by value: in the first `count` places of an array of 32.
use Rattle.std.specs.Prelude.{cond, List, [], ◌++◌, ℕ, ◌-◌, leb, length, take, drop, replicate}
use Rattle.kinds.specs.Answers.{Answer, answer_number, when_done}
use Rattle.rule.specs.Configuration.{Config}
use Rattle.calls.specs.declared.Way.{Way}
use Rattle.calls.specs.Encode.{Encoded, encode}
use Rattle.calls.specs.Decode.{Decoded, decode_by}

-- ---- encoding: the saved state in its array, whose places past it are 0; beside a refusal none is saved
pub record Saved : Type 0 where
  pub said : Answer
  pub samples : List ℕ
  pub array : List ℕ
  pub count : ℕ

abbrev pub saved : Answer → List ℕ → List ℕ → ℕ → Saved
saved said samples array count = record { said = said; samples = samples; array = array; count = count }

abbrev pub padded : List ℕ → List ℕ
padded state = state ++ replicate (32 - length state) 0

abbrev pub saved_of : Encoded → Saved
saved_of e =
    let state = when_done e.said e.state [] in
    saved e.said e.samples (padded state) (length state)

-- of a call that is lent k places for its state
abbrev pub encode_by_value : ℕ → Config → List ℕ → Saved
encode_by_value W c samples = saved_of (encode W c samples (replicate c.order 0))

-- ---- encoding with the residuals handed back as a part of the samples, which begins at place k; beside a refusal it is empty
pub record Handed : Type 0 where
  pub part : List ℕ
  pub state : List ℕ
  pub number : ℕ

abbrev pub handed : List ℕ → List ℕ → ℕ → Handed
handed part state number = record { part = part; state = state; number = number }

abbrev pub handed_of : ℕ → Encoded → Handed
handed_of k e = handed (when_done e.said (drop k e.samples) []) e.state (answer_number e.said)

abbrev pub begins : ℕ → Encoded → ℕ
begins k e = when_done e.said k (length e.samples)

-- ---- decoding: a count that no array of 32 has is a state of no samples; the places past the state are kept, and so is the count
abbrev pub lent : ℕ → ℕ
lent count = cond (leb count 32) count 0

pub record Held : Type 0 where
  pub said : Answer
  pub array : List ℕ
  pub count : ℕ
  pub piece : List ℕ

abbrev pub held : Answer → List ℕ → ℕ → List ℕ → Held
held said array count piece = record { said = said; array = array; count = count; piece = piece }

abbrev pub held_of : List ℕ → ℕ → Decoded → Held
held_of array count d = held d.said (d.state ++ drop (length d.state) array) count d.piece

abbrev pub decode_by_value : Way → ℕ → Config → List ℕ → ℕ → List ℕ → Held
decode_by_value way W c array count piece = held_of array count (decode_by way W c (take (lent count) array) piece)
