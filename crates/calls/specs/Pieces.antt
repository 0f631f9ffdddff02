-- Decoding piece by piece: calls in order, each by its own way and from the state that the call before it left. Then the same calls
-- with the answers' numbers, and with the state by value.
use Rattle.std.specs.Prelude.{◌≡◌, List, [], ◌∷◌, ◌++◌, ℕ}
use Rattle.rule.specs.Configuration.{Config}
use Rattle.calls.specs.declared.Way.{Way}
use Rattle.calls.specs.declared.Way.TheVariants.{General, OrderSix}
use Rattle.calls.specs.Decode.{Decoded, decode_by, Numbered, numbered}
use Rattle.calls.specs.ByValue.{Held, decode_by_value}

-- a call that is to be made
pub record Asked : Type 0 where
  pub way : Way
  pub piece : List ℕ

-- the pieces of a list, joined in order
abbrev pub joined_by : {A : Type 0} → (A → List ℕ) → List A → List ℕ
joined_by piece [] = []
joined_by piece (a ∷ rest) = piece a ++ joined_by piece rest

-- what the last of a list has, or where there is none, what was there before
abbrev pub last_by : {A B : Type 0} → (A → B) → B → List A → B
last_by has before [] = before
last_by has before (a ∷ rest) = last_by has (has a) rest

-- the pieces joined again
abbrev pub joined : List Asked → List ℕ
joined asked = joined_by (λ (a : Asked). a.piece) asked

-- what each call leaves
abbrev pub decodings : ℕ → Config → List ℕ → List Asked → List Decoded
decodings W c state [] = []
decodings W c state (a ∷ asked) =
    let d = decode_by a.way W c state a.piece in
    d ∷ decodings W c d.state asked

-- the joined outputs of the calls
abbrev pub outputs : List Decoded → List ℕ
outputs ds = joined_by (λ (d : Decoded). d.piece) ds

-- the state that the last call leaves
abbrev pub final_state : List ℕ → List Decoded → List ℕ
final_state state ds = last_by (λ (d : Decoded). d.state) state ds

-- a property of every call
abbrev pub Each : {A : Type 0} → (A → Type 0) → List A → Type 0
Each holds [] = Unit {0}
Each holds (a ∷ rest) = holds a × Each holds rest

-- the way of order 6 is asked for at order 6 alone
abbrev pub Fits : Config → Way → Type 0
Fits c General = Unit {0}
Fits c OrderSix = c.order ≡ 6

abbrev pub AllFit : Config → List Asked → Type 0
AllFit c asked = Each (λ (a : Asked). Fits c a.way) asked

-- the same pieces, all the general way
abbrev pub all_general : List Asked → List Asked
all_general [] = []
all_general (a ∷ asked) = record { way = General; piece = a.piece } ∷ all_general asked

-- ---- with the answers' numbers
abbrev pub numbered_decodings : ℕ → Config → List ℕ → List Asked → List Numbered
numbered_decodings W c state [] = []
numbered_decodings W c state (a ∷ asked) =
    let n = numbered (decode_by a.way W c state a.piece) in
    n ∷ numbered_decodings W c n.state asked

abbrev pub numbered_outputs : List Numbered → List ℕ
numbered_outputs ns = joined_by (λ (n : Numbered). n.piece) ns

abbrev pub numbered_state : List ℕ → List Numbered → List ℕ
numbered_state state ns = last_by (λ (n : Numbered). n.state) state ns

-- ---- with the state by value: each call from the array and the count that the call before it left
abbrev pub held_decodings : ℕ → Config → List ℕ → ℕ → List Asked → List Held
held_decodings W c array count [] = []
held_decodings W c array count (a ∷ asked) =
    let h = decode_by_value a.way W c array count a.piece in
    h ∷ held_decodings W c h.array h.count asked

abbrev pub held_outputs : List Held → List ℕ
held_outputs hs = joined_by (λ (h : Held). h.piece) hs

abbrev pub final_array : List ℕ → List Held → List ℕ
final_array array hs = last_by (λ (h : Held). h.array) array hs

abbrev pub final_count : ℕ → List Held → ℕ
final_count count hs = last_by (λ (h : Held). h.count) count hs
