-- The list "known, then new samples" that decoding makes, over the width W, the order k and any predictor p: how long it is, that
-- residuals may come in several goes, that what was known stays, and that only the last k of the known samples count.
-- Assumes nothing.
use mathlib.Core.Path.{◌≡◌, refl, sym, ap, ◌∙◌}
use mathlib.Core.List.{List, [], ◌∷◌, ◌++◌, append_assoc}
use Prim.Native.Nat.{ℕ, ◌+◌, ◌-◌, ◌≤◌, ◌<◌}
use native.Mathlib.Nat.{add-zero, sub_self}
use native.Mathlib.Omega.{arith}
use lib.ListN.{length, take, drop, length-append, length-drop, take-append-drop}
use lib.Seq.{take-append-add, drop-append-add, drop_at, take-append-le, drop-append-le, length-take-le}
use Rattle.rule.proofs.Parts.{drop-take}
use Rattle.rule.specs.Coding.{window, restored, sample_of, extended, decoded_piece, new_state}

-- dropping from a front is taking from what is left
module _ (W k : ℕ) (p : List ℕ → ℕ) where
  -- ---- where the first i places of a list are known, the window before place i is what the next sample is predicted from
  pub sample_window : (l : List ℕ) (i r : ℕ) → k ≤ i → i ≤ length l → sample_of W k p (take i l) r ≡ restored W r (p (window k i l))
  unfolding sample_of window
  sample_window l i r h within = rw (length-take-le i l within, drop-take (i - k) i l, whole)
    where
      whole : i - (i - k) ≡ k
      whole = omega arith

  -- ---- how long it is
  pub length_extended : (known rs : List ℕ) → length (extended W k p known rs) ≡ length known + length rs
  length_extended known [] = sym (add-zero (length known))
  length_extended known (r ∷ rs) =
      omega (
        arith,
        length_extended (known ++ sample_of W k p known r ∷ []) rs,
        length-append known (sample_of W k p known r ∷ []),
      )

  -- ---- residuals in two goes
  pub extended_append : (known rs ts : List ℕ) → extended W k p known (rs ++ ts) ≡ extended W k p (extended W k p known rs) ts
  extended_append known [] ts = refl
  extended_append known (r ∷ rs) ts = extended_append (known ++ sample_of W k p known r ∷ []) rs ts

  -- ---- only the last k count
  sample_after : (a known : List ℕ) (r : ℕ) → k ≤ length known → sample_of W k p (a ++ known) r ≡ sample_of W k p known r
  unfolding sample_of
  sample_after a known r h = rw (length-append a known, same) (rw drop-append-add)
    where
      same : length a + length known - k ≡ length a + (length known - k)
      same = omega arith

  pub extended_after : (a known rs : List ℕ) → k ≤ length known → extended W k p (a ++ known) rs ≡ a ++ extended W k p known rs
  extended_after a known [] h = refl
  extended_after a known (r ∷ rs) h =
      rw (sample_after a known r h, append_assoc)
      (extended_after a (known ++ sample_of W k p known r ∷ []) rs (omega (arith, length-append known (sample_of W k p known r ∷ []))))

  pub drop_extended : (j : ℕ) (a known rs : List ℕ) → length a ≡ j → k ≤ length known
      → drop j (extended W k p (a ++ known) rs) ≡ extended W k p known rs
  drop_extended j a known rs e h = rw (extended_after a known rs h) (drop_at a (extended W k p known rs) j e)

  -- ---- what was known stays
  pub take_extended : (j : ℕ) (known rs : List ℕ) → j ≤ length known → take j (extended W k p known rs) ≡ take j known
  take_extended j known [] h = refl
  take_extended j known (r ∷ rs) h =
      take_extended j (known ++ sample_of W k p known r ∷ []) rs (omega (arith, length-append known (sample_of W k p known r ∷ [])))
      ∙ take-append-le j known (sample_of W k p known r ∷ []) h

  -- ---- a piece from a state of k samples
  module _ (state piece : List ℕ) (full : length state ≡ k) where
    pub length_decoded : length (decoded_piece W k p state piece) ≡ length piece
    unfolding decoded_piece
    length_decoded = length-take-le (length piece) (extended W k p state piece) (omega (arith, length_extended state piece))

    pub length_state : length (new_state W k p state piece) ≡ k
    unfolding new_state
    length_state = length-drop (length piece) (extended W k p state piece) ∙ omega (arith, length_extended state piece)

    -- the outputs and then the new state are the whole list
    pub piece_whole : decoded_piece W k p state piece ++ new_state W k p state piece ≡ extended W k p state piece
    unfolding decoded_piece new_state
    piece_whole = take-append-drop (length piece) (extended W k p state piece)

    -- a piece that goes on is a piece, and another from the state that the first left
    pub extended_more : (more : List ℕ)
        → extended W k p state (piece ++ more) ≡ decoded_piece W k p state piece ++ extended W k p (new_state W k p state piece) more
    extended_more more =
        extended_append state piece more
        ∙ ap (λ (known : List ℕ). extended W k p known more) (sym piece_whole)
        ∙ extended_after (decoded_piece W k p state piece) (new_state W k p state piece) more (omega (arith, length_state))

    both : (more : List ℕ) → length (piece ++ more) ≡ length (decoded_piece W k p state piece) + length more
    both more = rw (length-append, length_decoded)

    pub decoded_more : (more : List ℕ)
        → decoded_piece W k p state (piece ++ more) ≡ decoded_piece W k p state piece ++ decoded_piece W k p (new_state W k p state piece) more
    unfolding decoded_piece
    decoded_more more =
        rw (both more, extended_more more)
        (take-append-add (decoded_piece W k p state piece) (extended W k p (new_state W k p state piece) more) (length more))

    pub state_more : (more : List ℕ) → new_state W k p state (piece ++ more) ≡ new_state W k p (new_state W k p state piece) more
    unfolding new_state
    state_more more =
        rw (both more, extended_more more)
        (drop-append-add (decoded_piece W k p state piece) (extended W k p (new_state W k p state piece) more) (length more))

  -- ---- a piece of one residual, from k samples
  module _ (state : List ℕ) (r : ℕ) (full : length state ≡ k) where
    pub sample_full : sample_of W k p state r ≡ restored W r (p state)
    unfolding sample_of
    sample_full = rw (full, sub_self)

    pub decoded_one : 0 < k → decoded_piece W k p state (r ∷ []) ≡ take 1 state
    unfolding decoded_piece
    decoded_one some = take-append-le 1 state (sample_of W k p state r ∷ []) (omega arith)

    pub state_one : 0 < k → new_state W k p state (r ∷ []) ≡ drop 1 state ++ restored W r (p state) ∷ []
    unfolding new_state
    state_one some = rw (drop-append-le 1 state (sample_of W k p state r ∷ []) (omega arith), sample_full)
