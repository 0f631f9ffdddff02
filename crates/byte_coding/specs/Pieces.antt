-- Decoding bytes piece by piece: calls in order, each by its own way and from the state's bytes that the call before it left. Then the
-- same calls with the answers' numbers. The weights' bytes are those of every call.
use Rattle.std.specs.Prelude.{◌≡◌, true, List, [], ◌∷◌, ℕ, ◌/◌}
use Rattle.rule.specs.Configuration.{Config}
use Rattle.entries.specs.Entries.{is_entire}
use Rattle.calls.specs.Decode.{Decoded, Numbered, numbered}
use Rattle.calls.specs.Pieces.{Asked, Each}
use Rattle.byte_coding.specs.Bytes.{ragged}
use Rattle.byte_coding.specs.Calls.{decode_bytes}

-- what each call leaves
abbrev pub byte_decodings : ℕ → Config → List ℕ → List ℕ → List Asked → List Decoded
byte_decodings W c weights state [] = []
byte_decodings W c weights state (a ∷ asked) =
    let d = decode_bytes a.way W c (ragged W weights state a.piece) state a.piece in
    d ∷ byte_decodings W c weights d.state asked

abbrev pub numbered_byte_decodings : ℕ → Config → List ℕ → List ℕ → List Asked → List Numbered
numbered_byte_decodings W c weights state [] = []
numbered_byte_decodings W c weights state (a ∷ asked) =
    let n = numbered (decode_bytes a.way W c (ragged W weights state a.piece) state a.piece) in
    n ∷ numbered_byte_decodings W c weights n.state asked

-- every piece divides into samples
abbrev pub AllEntire : ℕ → List Asked → Type 0
AllEntire W asked = Each (λ (a : Asked). is_entire (W / 8) a.piece ≡ true) asked
