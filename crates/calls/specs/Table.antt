-- T1 to T12: twelve calls whose every number is given. The old weight stands first, and a buffer is shown whole.
use Rattle.std.specs.Prelude.{◌≡◌, List, [], ◌∷◌, ℕ, ℤ, pos, negsuc, length, take, replicate}
use Rattle.kinds.specs.Answers.{Done}
use Rattle.rule.specs.Configuration.{Config}
use Rattle.calls.specs.declared.Way.TheVariants.{OrderSix}
use Rattle.calls.specs.Encode as encoding
use Rattle.calls.specs.Decode as decoding
use Rattle.calls.specs.Pieces.{Each}

-- weights, bias and shift, as the table has them; the order is their number
abbrev pub given : List ℤ → ℤ → ℕ → Config
given weights bias shift = record { order = length weights; shift = shift; bias = bias; weights = weights }

-- T1 to T10: at the width W these samples become this buffer
pub record Encodes : Type 0 where
  pub W : ℕ
  pub config : Config
  pub samples : List ℕ
  pub buffer : List ℕ

abbrev pub IsEncoded : Encodes → Type 0
IsEncoded t =
    encoding.encode t.W t.config t.samples (replicate t.config.order 0)
    ≡ encoding.left Done t.buffer (take t.config.order t.samples)

-- T11 and T12: from this state this piece gives this output and the new state
pub record Decodes : Type 0 where
  pub W : ℕ
  pub config : Config
  pub state : List ℕ
  pub piece : List ℕ
  pub output : List ℕ
  pub after : List ℕ

abbrev pub IsDecoded : Decodes → Type 0
IsDecoded t = decoding.decode t.W t.config t.state t.piece ≡ decoding.left Done t.after t.output

abbrev last : Config
last = given (pos 1 ∷ []) (pos 0) 0

abbrev line : Config
line = given (negsuc 0 ∷ pos 2 ∷ []) (pos 0) 0

abbrev sixth : Config
sixth = given (pos 0 ∷ pos 0 ∷ pos 0 ∷ pos 0 ∷ pos 0 ∷ pos 1 ∷ []) (pos 0) 0

abbrev pub encodes : List Encodes
encodes =
    record { W = 8; config = last; samples = 10 ∷ 12 ∷ 11 ∷ []; buffer = 138 ∷ 130 ∷ 127 ∷ [] }
    ∷ record { W = 8; config = line; samples = 10 ∷ 12 ∷ 14 ∷ 15 ∷ []; buffer = 138 ∷ 140 ∷ 128 ∷ 127 ∷ [] }
    ∷ record { W = 8; config = given (negsuc 0 ∷ []) (pos 0) 0; samples = 5 ∷ 3 ∷ []; buffer = 133 ∷ 131 ∷ [] }
    ∷ record { W = 8; config = given (pos 0 ∷ []) (negsuc 0) 1; samples = 9 ∷ 9 ∷ []; buffer = 137 ∷ 137 ∷ [] }
    ∷ record { W = 8; config = given (pos 2 ∷ []) (pos 0) 0; samples = 200 ∷ 150 ∷ []; buffer = 72 ∷ 134 ∷ [] }
    ∷ record { W = 8; config = given (pos 3 ∷ []) (pos 1) 2; samples = 7 ∷ 6 ∷ []; buffer = 135 ∷ 129 ∷ [] }
    ∷ record { W = 8; config = last; samples = 255 ∷ 0 ∷ []; buffer = 127 ∷ 129 ∷ [] }
    ∷ record { W = 8; config = line; samples = 4 ∷ 5 ∷ []; buffer = 132 ∷ 133 ∷ [] }
    ∷ record { W = 16; config = last; samples = 1000 ∷ 1003 ∷ []; buffer = 33768 ∷ 32771 ∷ [] }
    ∷ record { W = 32; config = last; samples = 0 ∷ 4294967295 ∷ []; buffer = 2147483648 ∷ 2147483647 ∷ [] }
    ∷ []

abbrev pub eleventh : Decodes
eleventh = record { W = 8; config = sixth; state = 1 ∷ 2 ∷ 3 ∷ 4 ∷ 5 ∷ 6 ∷ []; piece = 129 ∷ []; output = 1 ∷ []; after = 2 ∷ 3 ∷ 4 ∷ 5 ∷ 6 ∷ 7 ∷ [] }

abbrev pub decodes : List Decodes
decodes =
    eleventh
    ∷ record { W = 8; config = line; state = 10 ∷ 12 ∷ []; piece = []; output = []; after = 10 ∷ 12 ∷ [] }
    ∷ []

-- T11 goes the way of order 6 too
abbrev pub IsDecodedAtSix : Decodes → Type 0
IsDecodedAtSix t = decoding.decode_by OrderSix t.W t.config t.state t.piece ≡ decoding.left Done t.after t.output

abbrev pub Table : Type 0
Table = Each IsEncoded encodes × Each IsDecoded decodes × Each IsDecodedAtSix (eleventh ∷ [])
