-- Demand 3: the saved state and the residuals after the first k, cut in any way and decoded by ways that fit, give the samples back.
-- First over any predictor with values below 2^W, in one go; then in the calls' own terms, also with the answers' numbers and with the
-- state by value; then the refusals that encoding and decoding share. Assumes nothing.
use Rattle.std.specs.Prelude.{Err, is_ok}
use mathlib.Core.Path.{◌≡◌, refl, sym, ap, ◌∙◌}
use mathlib.Core.Bool.{Bool, true, false, not, cond, ◌&&◌}
use mathlib.Core.List.{List, ◌++◌}
use mathlib.Core.Logic.{◌≢◌}
use Prim.Native.Nat.{ℕ, ◌-◌, ◌^◌, ◌≤◌, ◌<◌}
use native.Mathlib.Nat.{mod-lt}
use native.Mathlib.Omega.{arith}
use borrow.Author.Tests.{le-ltb}
use lib.Dec.{ltb, eqb}
use lib.ListN.{length, take, drop, replicate, length-append}
use lib.Pow.{pow_pos}
use lib.Seq.{length-take-le, take-append_seam}
use Rattle.kinds.specs.declared.Refusal.TheVariants.{BadOrder, BadShift, Overflows, BadLength, TooFewSamples}
use Rattle.kinds.specs.Answers.{Answer, Done, answer_number, refuse}
use Rattle.rule.specs.Configuration.{Config}
use Rattle.rule.specs.Prediction.{admitted, settle, prediction}
use Rattle.rule.specs.Coding.{encoded_buffer, decoded_piece, new_state}
use Rattle.rule.specs.Refusals.{order_fits, shift_fits, coding_refusal, encoding_refusal}
use Rattle.rule.proofs.Extending as extending
use Rattle.rule.proofs.Passing.{coding_passed, ready_passes, encoding_passed}
use Rattle.rule.proofs.Sums.{Samples}
use Rattle.calls.specs.declared.Way.{Way}
use Rattle.calls.specs.Encode as encoding
use Rattle.calls.specs.Decode as decoding
use Rattle.calls.specs.ByValue.{padded, Held, encode_by_value}
use Rattle.calls.specs.Pieces.{Asked, joined, decodings, outputs, final_state, Each, Fits, AllFit, numbered_decodings, numbered_outputs, numbered_state, held_decodings, held_outputs, final_array, final_count}
use Rattle.calls.proofs.Leaving.{zero_ok, encode_said, encode_done}
use Rattle.calls.proofs.Undone.{undone}
use Rattle.calls.proofs.Ways.{ways_agree}
use Rattle.calls.proofs.Pieces.{decode_said, all_done, outputs_decoded, state_decoded}
use Rattle.calls.proofs.Chains as chains

-- ---- any predictor
pub predictor_whole : (W k : ℕ) (p : List ℕ → ℕ) → ((xs : List ℕ) → p xs < 2 ^ W) → (xs : List ℕ) → Samples W xs → k ≤ length xs
    → let residuals = drop k (encoded_buffer W k p xs) in
    decoded_piece W k p (take k xs) residuals ++ new_state W k p (take k xs) residuals ≡ xs
predictor_whole W k p below xs samples enough =
    extending.piece_whole W k p (take k xs) (drop k (encoded_buffer W k p xs)) (length-take-le k xs enough)
    ∙ undone W k p below xs samples enough

-- ---- the rule's predictor, of which all that follows leans on this alone
pub prediction_below : (W : ℕ) (c : Config) (window : List ℕ) → prediction W c window < 2 ^ W
unfolding prediction settle
prediction_below W c window = mod-lt _ (pow_pos W)

module _ (W : ℕ) (c : Config) (xs lent : List ℕ) where
  passed : (encoding.encode W c xs lent).said ≡ Done → is_ok (encoding_refusal W c (length lent) (length xs)) ≡ true
  passed said = ap is_ok (sym (encode_said W c xs lent) ∙ said)

  zero_done : (encoding.numbered (encoding.encode W c xs lent)).number ≡ 0 → (encoding.encode W c xs lent).said ≡ Done
  unfolding encoding_refusal
  zero_done zero =
      let t = encoding_passed W c (length lent) (length xs) (ap is_ok (sym (encode_said W c xs lent)) ∙ zero_ok _ zero) in
      encode_said W c xs lent ∙ rw (ready_passes W c (length lent) t.0.0 t.0.1, le-ltb (length xs) c.order t.1)

  -- ---- the calls
  module _ (samples : Samples W xs) (asked : List Asked) (fit : AllFit c asked) where
    pub whole : (encoding.encode W c xs lent).said ≡ Done
        → joined asked ≡ drop c.order (encoding.encode W c xs lent).samples
        → let e = encoding.encode W c xs lent in
        let ds = decodings W c e.state asked in
        Each (λ (d : decoding.Decoded). d.said ≡ Done) ds × (outputs ds ++ final_state e.state ds ≡ xs)
    whole said cut =
        let k = c.order in
        let p = prediction W c in
        let t = encoding_passed W c (length lent) (length xs) (passed said) in
        let enc = encode_done W c xs lent refl (passed said) refl refl in
        let ok = ready_passes W c k t.0.0 refl in
        let full = length-take-le k xs t.1 in
        let all : joined asked ≡ drop k (encoded_buffer W k p xs) = cut ∙ ap (λ (e : encoding.Encoded). drop k e.samples) (sym enc) in
        rw (← enc) (
          all_done W c ok (take k xs) full asked fit,
          rw (outputs_decoded W c ok (take k xs) full asked fit, state_decoded W c ok (take k xs) full asked fit, all)
              (predictor_whole W k p (prediction_below W c) xs samples t.1),
        )

    -- with the answers' numbers
    pub whole_numbered : (encoding.numbered (encoding.encode W c xs lent)).number ≡ 0
        → joined asked ≡ drop c.order (encoding.numbered (encoding.encode W c xs lent)).samples
        → let e = encoding.numbered (encoding.encode W c xs lent) in
        let ns = numbered_decodings W c e.state asked in
        Each (λ (n : decoding.Numbered). n.number ≡ 0) ns × (numbered_outputs ns ++ numbered_state e.state ns ≡ xs)
    whole_numbered zero cut =
        let w = whole (zero_done zero) cut in
        let state = (encoding.encode W c xs lent).state in
        (chains.numbers_zero W c state asked w.0, rw (chains.numbered_outputs_lem W c state asked, chains.numbered_state_lem W c state asked) w.1)

-- ---- the state by value
saved_few : (W : ℕ) (c : Config) (xs lent : List ℕ) → (encoding.encode W c xs lent).said ≡ Done → length (encoding.encode W c xs lent).state ≤ 32
saved_few W c xs lent said =
    let t = encoding_passed W c (length lent) (length xs) (passed W c xs lent said) in
    rw (← encode_done W c xs lent refl (passed W c xs lent said) refl refl, length-take-le c.order xs t.1) t.0.0.few

held_whole : (W : ℕ) (c : Config) (xs : List ℕ) (asked : List Asked) → AllFit c asked → (state : List ℕ) → length state ≤ 32
    → let ds = decodings W c state asked in
    let hs = held_decodings W c (padded state) (length state) asked in
    Each (λ (d : decoding.Decoded). d.said ≡ Done) ds × (outputs ds ++ final_state state ds ≡ xs)
    → Each (λ (h : Held). h.said ≡ Done) hs × (held_outputs hs ++ take (final_count (length state) hs) (final_array (padded state) hs) ≡ xs)
held_whole W c xs asked fit state few w =
    let n = length state in
    let front : take n (padded state) ≡ state = take-append_seam state (replicate (32 - n) 0) in
    let enough : n ≤ length (padded state) = omega (arith, length-append state (replicate (32 - n) 0)) in (
      chains.held_done W c n few (padded state) asked fit enough (rw front w.0),
      rw (chains.held_outputs_lem W c n few (padded state) asked fit enough, chains.held_state W c n few (padded state) asked fit enough, front) w.1,
    )

pub whole_by_value : (W : ℕ) (c : Config) (xs : List ℕ) → Samples W xs → (asked : List Asked) → AllFit c asked
    → (encode_by_value W c xs).said ≡ Done
    → joined asked ≡ drop c.order (encode_by_value W c xs).samples
    → let e = encode_by_value W c xs in
    let hs = held_decodings W c e.array e.count asked in
    Each (λ (h : Held). h.said ≡ Done) hs × (held_outputs hs ++ take (final_count e.count hs) (final_array e.array hs) ≡ xs)
whole_by_value W c xs samples asked fit said cut =
    let lent : List ℕ = replicate c.order 0 in
    rw said
    (held_whole W c xs asked fit (encoding.encode W c xs lent).state (saved_few W c xs lent said) (whole W c xs lent samples asked fit said cut))

-- ---- the refusals: where a state is lent to encoding and one as long is given to decoding, decoding gives every answer of encoding's
-- but 5, and is done where encoding answers 5
coding_number : (W : ℕ) (c : Config) (n : ℕ) → answer_number (coding_refusal W c n) ≤ 4
unfolding coding_refusal
coding_number W c n =
    go (not (order_fits c.order)) (not (shift_fits W c.shift)) (not (eqb (length c.weights) c.order && eqb n c.order)) (not (admitted W c.bias c.weights))
  where
    go : (q r s t : Bool) → answer_number (refuse q BadOrder (refuse r BadShift (refuse s BadLength (refuse t Overflows Done)))) ≤ 4
    go true r s t = omega arith
    go false true s t = omega arith
    go false false true t = omega arith
    go false false false true = omega arith
    go false false false false = omega arith

coding_done : (W : ℕ) (c : Config) (n : ℕ) → is_ok (coding_refusal W c n) ≡ true → coding_refusal W c n ≡ Done
coding_done W c n passes =
    let t = coding_passed W c n passes in
    ready_passes W c n t.0 t.1

module _ (W : ℕ) (c : Config) (n m : ℕ) where
  refusal_alike : (a : Answer) → answer_number a ≢ 5 → encoding_refusal W c n m ≡ a → coding_refusal W c n ≡ a
  unfolding encoding_refusal
  refusal_alike a other said = go (is_ok (coding_refusal W c n)) (ltb m c.order) refl said
    where
      go : (t few : Bool) → is_ok (coding_refusal W c n) ≡ t → cond t (refuse few TooFewSamples Done) (coding_refusal W c n) ≡ a → coding_refusal W c n ≡ a
      go true true e said = absurd (other (sym (ap answer_number said)))
      go true false e said = coding_done W c n e ∙ said
      go false few e said = said

  refusal_more : encoding_refusal W c n m ≡ Err TooFewSamples → coding_refusal W c n ≡ Done
  unfolding encoding_refusal
  refusal_more said = go (is_ok (coding_refusal W c n)) refl said
    where
      go : (t : Bool) → is_ok (coding_refusal W c n) ≡ t → cond t (refuse (ltb m c.order) TooFewSamples Done) (coding_refusal W c n) ≡ Err TooFewSamples
          → coding_refusal W c n ≡ Done
      go true e said = coding_done W c n e
      go false e said = absurd (omega (arith, coding_number W c n, ap answer_number said))

module _ (W : ℕ) (c : Config) (xs lent : List ℕ) (way : Way) (fits : Fits c way) (state piece : List ℕ) (same : length state ≡ length lent) where
  decoding_said : (decoding.decode_by way W c state piece).said ≡ coding_refusal W c (length lent)
  decoding_said = rw (ways_agree W c way fits state piece) (decode_said W c state piece ∙ ap (coding_refusal W c) same)

  pub refused_alike : (a : Answer) → answer_number a ≢ 5 → (encoding.encode W c xs lent).said ≡ a
      → (decoding.decode_by way W c state piece).said ≡ a
  refused_alike a other said = decoding_said ∙ refusal_alike W c (length lent) (length xs) a other (sym (encode_said W c xs lent) ∙ said)

  pub too_few_done : (encoding.encode W c xs lent).said ≡ Err TooFewSamples → (decoding.decode_by way W c state piece).said ≡ Done
  too_few_done said = decoding_said ∙ refusal_more W c (length lent) (length xs) (sym (encode_said W c xs lent) ∙ said)
