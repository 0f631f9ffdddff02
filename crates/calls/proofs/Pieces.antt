-- However residuals are cut: calls in order answer alike, and their joined outputs and the last state are those of one call on all the
-- residuals, whether it is done or refused; so two cuts agree. Where the configuration's tests pass for a state of k samples, every
-- call is done. Assumes nothing.
use Rattle.std.specs.Prelude.{is_ok}
use mathlib.Core.Path.{◌≡◌, refl, sym, ap, ◌∙◌}
use mathlib.Core.Bool.{Bool, true, false}
use mathlib.Core.List.{List, [], ◌∷◌, ◌++◌}
use Prim.Native.Nat.{ℕ}
use lib.ListN.{length}
use Rattle.kinds.specs.Answers.{Answer, Done}
use Rattle.rule.specs.Configuration.{Config}
use Rattle.rule.specs.Prediction.{prediction}
use Rattle.rule.specs.Coding.{decoded_piece, new_state}
use Rattle.rule.specs.Refusals.{coding_refusal}
use Rattle.rule.proofs.Extending as extending
use Rattle.rule.proofs.Passing.{coding_passed}
use Rattle.calls.specs.Decode.{Decoded, left, decode}
use Rattle.calls.specs.Pieces.{Asked, joined, decodings, outputs, final_state, Each, AllFit}
use Rattle.calls.proofs.Leaving.{decode_done, decode_refused}
use Rattle.calls.proofs.Ways.{ways_agree}

module _ (W : ℕ) (c : Config) where
  -- ---- one call: what its tests say, and what it leaves where they pass
  abbrev tested : List ℕ → Answer
  tested state = coding_refusal W c (length state)

  abbrev decoded : List ℕ → List ℕ → Decoded
  decoded state piece = left (tested state) (new_state W c.order (prediction W c) state piece) (decoded_piece W c.order (prediction W c) state piece)

  passed : (state piece : List ℕ) → is_ok (tested state) ≡ true → decode W c state piece ≡ decoded state piece
  passed state piece passes = sym (decode_done W c state piece refl passes refl refl)

  kept : (state piece : List ℕ) → is_ok (tested state) ≡ false → decode W c state piece ≡ left (tested state) state piece
  kept state piece fails = sym (decode_refused W c state piece refl fails)

  either : (P : Decoded → Type 0) (state piece : List ℕ)
      → (is_ok (tested state) ≡ true → P (decoded state piece)) → (is_ok (tested state) ≡ false → P (left (tested state) state piece))
      → P (decode W c state piece)
  either P state piece if-done if-refused = go (is_ok (tested state)) refl
    where
      go : (t : Bool) → is_ok (tested state) ≡ t → P (decode W c state piece)
      go true e = rw (passed state piece e) (if-done e)
      go false e = rw (kept state piece e) (if-refused e)

  pub decode_said : (state piece : List ℕ) → (decode W c state piece).said ≡ tested state
  decode_said state piece = either (λ (d : Decoded). d.said ≡ tested state) state piece (λ e. refl) (λ e. refl)

  full : (state : List ℕ) → is_ok (tested state) ≡ true → length state ≡ c.order
  full state passes = (coding_passed W c (length state) passes).1

  decoded_length : (state piece : List ℕ) → is_ok (tested state) ≡ true → length (decoded state piece).state ≡ length state
  decoded_length state piece passes =
      extending.length_state W c.order (prediction W c) state piece (full state passes) ∙ sym (full state passes)

  pub length_kept : (state piece : List ℕ) → length (decode W c state piece).state ≡ length state
  length_kept state piece = either (λ (d : Decoded). length d.state ≡ length state) state piece (decoded_length state piece) (λ e. refl)

  -- ---- a call on no residuals, and two calls as one
  decode_none : (state : List ℕ) → ([] ≡ (decode W c state []).piece) × (state ≡ (decode W c state []).state)
  unfolding new_state decoded_piece
  decode_none state = either (λ (d : Decoded). ([] ≡ d.piece) × (state ≡ d.state)) state [] (λ e. (refl, refl)) (λ e. (refl, refl))

  -- a call, and then a call on `more` from the state that it left
  abbrev pub followed : Decoded → List ℕ → Decoded
  followed d more =
      let e = decode W c d.state more in
      left d.said e.state (d.piece ++ e.piece)

  decoded_more : (state piece more : List ℕ) → is_ok (tested state) ≡ true → decode W c state (piece ++ more) ≡ followed (decoded state piece) more
  decoded_more state piece more e =
      let states = extending.state_more W c.order (prediction W c) state piece (full state e) more in
      let pieces = extending.decoded_more W c.order (prediction W c) state piece (full state e) more in
      rw (passed state (piece ++ more) e, passed (decoded state piece).state more (rw (decoded_length state piece e) e))
      (λ i. left (tested state) (states i) (pieces i))

  pub decode_more : (state piece more : List ℕ) → decode W c state (piece ++ more) ≡ followed (decode W c state piece) more
  decode_more state piece more =
      either (λ (d : Decoded). decode W c state (piece ++ more) ≡ followed d more) state piece (decoded_more state piece more)
      (λ e. rw (kept state (piece ++ more) e, kept state more e))

  -- ---- calls in order
  pub answers_alike : (a : Answer) (state : List ℕ) (asked : List Asked) → AllFit c asked → tested state ≡ a
      → Each (λ (d : Decoded). d.said ≡ a) (decodings W c state asked)
  answers_alike a state [] fit said = tt
  answers_alike a state (b ∷ asked) fit said =
      rw (ways_agree W c b.way fit.0 state b.piece) (
        decode_said state b.piece ∙ said,
        answers_alike a (decode W c state b.piece).state asked fit.1 (ap (coding_refusal W c) (length_kept state b.piece) ∙ said),
      )

  pub outputs_joined : (state : List ℕ) (asked : List Asked) → AllFit c asked
      → outputs (decodings W c state asked) ≡ (decode W c state (joined asked)).piece
  outputs_joined state [] fit = (decode_none state).0
  outputs_joined state (a ∷ asked) fit =
      rw (ways_agree W c a.way fit.0 state a.piece, decode_more state a.piece (joined asked))
      (ap (λ (later : List ℕ). (decode W c state a.piece).piece ++ later) (outputs_joined (decode W c state a.piece).state asked fit.1))

  pub state_joined : (state : List ℕ) (asked : List Asked) → AllFit c asked
      → final_state state (decodings W c state asked) ≡ (decode W c state (joined asked)).state
  state_joined state [] fit = (decode_none state).1
  state_joined state (a ∷ asked) fit =
      rw (ways_agree W c a.way fit.0 state a.piece, decode_more state a.piece (joined asked))
      (state_joined (decode W c state a.piece).state asked fit.1)

  pub cuts_agree : (state : List ℕ) (these those : List Asked) → AllFit c these → AllFit c those → joined these ≡ joined those
      → (outputs (decodings W c state these) ≡ outputs (decodings W c state those))
      × (final_state state (decodings W c state these) ≡ final_state state (decodings W c state those))
  cuts_agree state these those fit fit' same =
      (rw (outputs_joined state these fit, outputs_joined state those fit', same), rw (state_joined state these fit, state_joined state those fit', same))

  -- ---- where the tests pass for a state of k samples
  module _ (passes : coding_refusal W c c.order ≡ Done) (state : List ℕ) (whole : length state ≡ c.order) (asked : List Asked) (fit : AllFit c asked) where
    pub all_done : Each (λ (d : Decoded). d.said ≡ Done) (decodings W c state asked)
    all_done = answers_alike Done state asked fit (rw whole passes)

    pub outputs_decoded : outputs (decodings W c state asked) ≡ decoded_piece W c.order (prediction W c) state (joined asked)
    outputs_decoded = outputs_joined state asked fit ∙ ap (λ (d : Decoded). d.piece) (passed state (joined asked) (rw (whole, passes)))

    pub state_decoded : final_state state (decodings W c state asked) ≡ new_state W c.order (prediction W c) state (joined asked)
    state_decoded = state_joined state asked fit ∙ ap (λ (d : Decoded). d.state) (passed state (joined asked) (rw (whole, passes)))
