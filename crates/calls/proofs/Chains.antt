-- Calls in order whose answers are numbers, and calls in order with the state by value, are the calls of `decodings`, seen otherwise:
-- what is known of those is known of these. Assumes nothing.
use mathlib.Core.Path.{◌≡◌, refl, sym, ap, ◌∙◌}
use mathlib.Core.List.{List, [], ◌∷◌, ◌++◌, map}
use Prim.Native.Nat.{ℕ, ◌≤◌}
use native.Mathlib.Omega.{arith}
use borrow.Author.Tests.{le-leb}
use lib.ListN.{length, take, drop, length-append}
use lib.Seq.{take_at, length-take-le}
use Rattle.kinds.specs.Answers.{Done, answer_number}
use Rattle.rule.specs.Configuration.{Config}
use Rattle.calls.specs.declared.Way.{Way}
use Rattle.calls.specs.Decode.{Decoded, left, decode_by, Numbered, numbered}
use Rattle.calls.specs.ByValue.{Held, held_of, decode_by_value}
use Rattle.calls.specs.Pieces.{Asked, joined_by, last_by, decodings, outputs, final_state, Each, Fits, AllFit, numbered_decodings, numbered_outputs, numbered_state, held_decodings, held_outputs, final_array, final_count}
use Rattle.calls.proofs.Ways.{ways_agree}
use Rattle.calls.proofs.Pieces.{length_kept}

-- ---- a list whose entries are seen through f
module _ {A B : Type 0} (f : A → B) where
  each_seen : (P : B → Type 0) (l : List A) → Each P (map f l) → Each (λ (a : A). P (f a)) l
  each_seen P [] each = tt
  each_seen P (a ∷ l) each = (each.0, each_seen P l each.1)

  each_shown : (P : A → Type 0) (Q : B → Type 0) → ((a : A) → P a → Q (f a)) → (l : List A) → Each P l → Each Q (map f l)
  each_shown P Q step [] each = tt
  each_shown P Q step (a ∷ l) each = (step a each.0, each_shown P Q step l each.1)

  joined_seen : (piece : B → List ℕ) (l : List A) → joined_by piece (map f l) ≡ joined_by (λ (a : A). piece (f a)) l
  joined_seen piece [] = refl
  joined_seen piece (a ∷ l) = ap (λ (later : List ℕ). piece (f a) ++ later) (joined_seen piece l)

  last_seen : {C : Type 0} (has : B → C) (before : C) (l : List A) → last_by has before (map f l) ≡ last_by (λ (a : A). has (f a)) before l
  last_seen has before [] = refl
  last_seen has before (a ∷ l) = last_seen has (has (f a)) l

  -- f of what the last has
  last_of : {C : Type 0} (has : C → A) (before : A) (l : List C) → f (last_by has before l) ≡ last_by (λ (c : C). f (has c)) (f before) l
  last_of has before [] = refl
  last_of has before (c ∷ l) = last_of has (has c) l

-- ---- numbers
module _ (W : ℕ) (c : Config) where
  pub numbered_decodings_lem : (state : List ℕ) (asked : List Asked) → map numbered (decodings W c state asked) ≡ numbered_decodings W c state asked
  numbered_decodings_lem state [] = refl
  numbered_decodings_lem state (a ∷ asked) =
      let d = decode_by a.way W c state a.piece in
      ap (λ (later : List Numbered). numbered d ∷ later) (numbered_decodings_lem d.state asked)

  module _ (state : List ℕ) (asked : List Asked) where
    pub numbers_zero : Each (λ (d : Decoded). d.said ≡ Done) (decodings W c state asked)
        → Each (λ (n : Numbered). n.number ≡ 0) (numbered_decodings W c state asked)
    numbers_zero each =
        rw (← numbered_decodings_lem state asked)
        (each_shown numbered (λ (d : Decoded). d.said ≡ Done) (λ (n : Numbered). n.number ≡ 0) (λ d said. ap answer_number said) (decodings W c state asked) each)

    pub numbered_outputs_lem : numbered_outputs (numbered_decodings W c state asked) ≡ outputs (decodings W c state asked)
    numbered_outputs_lem = rw (← numbered_decodings_lem state asked) (joined_seen numbered (λ (n : Numbered). n.piece) (decodings W c state asked))

    pub numbered_state_lem : numbered_state state (numbered_decodings W c state asked) ≡ final_state state (decodings W c state asked)
    numbered_state_lem = rw (← numbered_decodings_lem state asked) (last_seen numbered (λ (n : Numbered). n.state) state (decodings W c state asked))

-- ---- the state by value
-- a call whose state is the first `count` places of the array
abbrev pub on_state : ℕ → Held → Decoded
on_state count h = left h.said (take count h.array) h.piece

module _ (W : ℕ) (c : Config) (count : ℕ) (few : count ≤ 32) where
  module _ (way : Way) (fits : Fits c way) (array piece : List ℕ) (enough : count ≤ length array) where
    lent_count : decode_by_value way W c array count piece ≡ held_of array count (decode_by way W c (take count array) piece)
    lent_count = rw (le-leb count 32 few)

    state_length : length (decode_by way W c (take count array) piece).state ≡ count
    state_length = rw (ways_agree W c way fits (take count array) piece) (length_kept W c (take count array) piece ∙ length-take-le count array enough)

    held_call : on_state count (decode_by_value way W c array count piece) ≡ decode_by way W c (take count array) piece
    held_call =
        let d = decode_by way W c (take count array) piece in
        ap (on_state count) lent_count
        ∙ ap (λ (state : List ℕ). left d.said state d.piece) (take_at d.state (drop (length d.state) array) count state_length)

    held_enough : count ≤ length (decode_by_value way W c array count piece).array
    held_enough =
        let d = decode_by way W c (take count array) piece in
        omega (
          arith,
          ap (λ (h : Held). length h.array) lent_count,
          state_length,
          length-append d.state (drop (length d.state) array),
        )

  pub held_decodings_lem : (array : List ℕ) (asked : List Asked) → AllFit c asked → count ≤ length array
      → map (on_state count) (held_decodings W c array count asked) ≡ decodings W c (take count array) asked
  held_decodings_lem array [] fit enough = refl
  held_decodings_lem array (a ∷ asked) fit enough =
      let h = decode_by_value a.way W c array count a.piece in
      ap (λ (later : List Decoded). on_state count h ∷ later) (held_decodings_lem h.array asked fit.1 (held_enough a.way fit.0 array a.piece enough))
      ∙ ap (λ (d : Decoded). d ∷ decodings W c d.state asked) (held_call a.way fit.0 array a.piece enough)

  count_kept : (array : List ℕ) (asked : List Asked) → final_count count (held_decodings W c array count asked) ≡ count
  count_kept array [] = refl
  count_kept array (a ∷ asked) = count_kept (decode_by_value a.way W c array count a.piece).array asked

  module _ (array : List ℕ) (asked : List Asked) (fit : AllFit c asked) (enough : count ≤ length array) where
    pub held_done : Each (λ (d : Decoded). d.said ≡ Done) (decodings W c (take count array) asked)
        → Each (λ (h : Held). h.said ≡ Done) (held_decodings W c array count asked)
    held_done each =
        each_seen (on_state count) (λ (d : Decoded). d.said ≡ Done) (held_decodings W c array count asked)
        (rw (held_decodings_lem array asked fit enough) each)

    pub held_outputs_lem : held_outputs (held_decodings W c array count asked) ≡ outputs (decodings W c (take count array) asked)
    held_outputs_lem =
        sym (joined_seen (on_state count) (λ (d : Decoded). d.piece) (held_decodings W c array count asked))
        ∙ ap outputs (held_decodings_lem array asked fit enough)

    pub held_state : take (final_count count (held_decodings W c array count asked)) (final_array array (held_decodings W c array count asked))
        ≡ final_state (take count array) (decodings W c (take count array) asked)
    held_state =
        rw (count_kept array asked, ← held_decodings_lem array asked fit enough)
        (last_of (take count) (λ (h : Held). h.array) array (held_decodings W c array count asked)
        ∙ sym (last_seen (on_state count) (λ (d : Decoded). d.state) (take count array) (held_decodings W c array count asked)))
