-- The two ways of decoding are one call: at order 6, from any state and on any piece, they answer alike and leave the same state and
-- the same piece, also by value and with the answer's number; so calls in order may go either way in turn. Assumes nothing.
use mathlib.Core.Path.{◌≡◌, refl, ap}
use mathlib.Core.List.{List, [], ◌∷◌}
use Prim.Native.Nat.{ℕ}
use borrow.Author.Tests.{eq-eqb}
use lib.ListN.{length, take}
use Rattle.rule.specs.Configuration.{Config}
use Rattle.rule.specs.Refusals.{coding_refusal, order_six_refusal}
use Rattle.calls.specs.declared.Way.{Way}
use Rattle.calls.specs.declared.Way.TheVariants.{General, OrderSix}
use Rattle.calls.specs.Decode.{Decoded, refusal_by, decode_by, decode, numbered}
use Rattle.calls.specs.ByValue.{lent, held_of, decode_by_value}
use Rattle.calls.specs.Pieces.{Asked, decodings, Fits, AllFit, all_general}

module _ (W : ℕ) (c : Config) where
  pub refusals_agree : (n : ℕ) → c.order ≡ 6 → order_six_refusal W c n ≡ coding_refusal W c n
  unfolding order_six_refusal
  refusals_agree n six = rw (eq-eqb c.order 6 six)

  refusal_agrees : (way : Way) → Fits c way → (n : ℕ) → refusal_by way W c n ≡ coding_refusal W c n
  refusal_agrees General fits n = refl
  refusal_agrees OrderSix fits n = refusals_agree n fits

  -- ---- one call: answer, state and piece
  pub ways_agree : (way : Way) → Fits c way → (state piece : List ℕ) → decode_by way W c state piece ≡ decode W c state piece
  ways_agree way fits state piece = rw (refusal_agrees way fits (length state))

  pub ways_agree_numbered : (way : Way) → Fits c way → (state piece : List ℕ)
      → numbered (decode_by way W c state piece) ≡ numbered (decode W c state piece)
  ways_agree_numbered way fits state piece = ap numbered (ways_agree way fits state piece)

  pub ways_agree_by_value : (way : Way) → Fits c way → (array : List ℕ) (count : ℕ) (piece : List ℕ)
      → decode_by_value way W c array count piece ≡ decode_by_value General W c array count piece
  ways_agree_by_value way fits array count piece = ap (held_of array count) (ways_agree way fits (take (lent count) array) piece)

  -- ---- calls in order
  pub turns_agree : (state : List ℕ) (asked : List Asked) → AllFit c asked → decodings W c state asked ≡ decodings W c state (all_general asked)
  turns_agree state [] fit = refl
  turns_agree state (a ∷ asked) fit =
      rw (ways_agree a.way fit.0 state a.piece)
      (ap (λ (later : List Decoded). decode W c state a.piece ∷ later) (turns_agree (decode W c state a.piece).state asked fit.1))
