-- From what a coder's steps leave to what its call leaves: `answer` is what the call's tests said. Assumes nothing.
use Rattle.std.specs.Prelude.{is_ok}
use mathlib.Core.Path.{◌≡◌, refl, sym, ap, ◌∙◌}
use mathlib.Core.Bool.{Bool, true, false}
use mathlib.Core.List.{List}
use Prim.Native.Nat.{ℕ, ◌≤◌}
use native.Mathlib.Omega.{arith}
use lib.ListN.{length, take}
use Rattle.kinds.specs.Answers.{Answer, answer_number}
use Rattle.rule.specs.Configuration.{Config}
use Rattle.rule.specs.Prediction.{prediction}
use Rattle.rule.specs.Coding.{encoded_buffer, decoded_piece, new_state}
use Rattle.rule.specs.Refusals.{encoding_refusal}
use Rattle.rule.proofs.Passing.{encoding_passed}
use Rattle.calls.specs.Encode as encoding
use Rattle.calls.specs.Decode as decoding

module _ (W : ℕ) (c : Config) (samples state : List ℕ) {answer : Answer} (said : answer ≡ encoding_refusal W c (length state) (length samples)) where
  pub encode_refused : is_ok answer ≡ false → encoding.left answer samples state ≡ encoding.encode W c samples state
  unfolding encoding.encode
  encode_refused fails =
      let e : is_ok (encoding_refusal W c (length state) (length samples)) ≡ false = ap is_ok (sym said) ∙ fails in
      ap (λ (a : Answer). encoding.left a samples state) said ∙ rw e

  pub encode_done : {xs ys : List ℕ} → is_ok answer ≡ true
      → xs ≡ encoded_buffer W c.order (prediction W c) samples → ys ≡ take c.order samples
      → encoding.left answer xs ys ≡ encoding.encode W c samples state
  unfolding encoding.encode
  encode_done passes first second =
      let e : is_ok (encoding_refusal W c (length state) (length samples)) ≡ true = ap is_ok (sym said) ∙ passes in
      (λ i. encoding.left (said i) (first i) (second i)) ∙ rw e

-- what a call says is what its tests say
pub encode_said : (W : ℕ) (c : Config) (samples state : List ℕ) → (encoding.encode W c samples state).said ≡ encoding_refusal W c (length state) (length samples)
encode_said W c samples state = go (is_ok (encoding_refusal W c (length state) (length samples))) refl
  where
    go : (d : Bool) → is_ok (encoding_refusal W c (length state) (length samples)) ≡ d
        → (encoding.encode W c samples state).said ≡ encoding_refusal W c (length state) (length samples)
    go true e = ap (λ (d : encoding.Encoded). d.said) (sym (encode_done W c samples state refl e refl refl))
    go false e = ap (λ (d : encoding.Encoded). d.said) (sym (encode_refused W c samples state refl e))

-- a call that is done had enough samples
pub encode_enough : (W : ℕ) (c : Config) (samples state : List ℕ) {said : Answer} {xs ys : List ℕ} → encoding.left said xs ys ≡ encoding.encode W c samples state
    → is_ok said ≡ true → c.order ≤ length samples
encode_enough W c samples state called done =
    let answers = ap (λ (e : encoding.Encoded). e.said) called ∙ encode_said W c samples state in
    (encoding_passed W c (length state) (length samples) (ap is_ok (sym answers) ∙ done)).1

module _ (W : ℕ) (c : Config) (state piece : List ℕ) {answer asked : Answer} (said : answer ≡ asked) where
  pub decode_refused : is_ok answer ≡ false → decoding.left answer state piece ≡ decoding.answered asked W c state piece
  unfolding decoding.answered
  decode_refused fails =
      let e : is_ok asked ≡ false = ap is_ok (sym said) ∙ fails in
      ap (λ (a : Answer). decoding.left a state piece) said ∙ rw e

  pub decode_done : {next out : List ℕ} → is_ok answer ≡ true
      → next ≡ new_state W c.order (prediction W c) state piece → out ≡ decoded_piece W c.order (prediction W c) state piece
      → decoding.left answer next out ≡ decoding.answered asked W c state piece
  unfolding decoding.answered
  decode_done passes first second =
      let e : is_ok asked ≡ true = ap is_ok (sym said) ∙ passes in
      (λ i. decoding.left (said i) (first i) (second i)) ∙ rw e

-- ---- the same with the answer's number: no refusal has 0
pub zero_ok : (a : Answer) → answer_number a ≡ 0 → is_ok a ≡ true
zero_ok a zero = grind arith

pub encode_numbered : {all : encoding.Encoded} {said : Answer} {number : ℕ} {xs ys : List ℕ}
    → number ≡ answer_number said → encoding.left said xs ys ≡ all → encoding.left_numbered number xs ys ≡ encoding.numbered all
encode_numbered {xs = xs} {ys = ys} is_number left = ap (λ (n : ℕ). encoding.left_numbered n xs ys) is_number ∙ ap encoding.numbered left

pub decode_numbered : {all : decoding.Decoded} {said : Answer} {number : ℕ} {xs ys : List ℕ}
    → number ≡ answer_number said → decoding.left said xs ys ≡ all → decoding.left_numbered number xs ys ≡ decoding.numbered all
decode_numbered {xs = xs} {ys = ys} is_number left = ap (λ (n : ℕ). decoding.left_numbered n xs ys) is_number ∙ ap decoding.numbered left
