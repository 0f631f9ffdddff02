-- From what the steps of a call over bytes leave to what the call leaves: `answer` is what the tests of its samples said. Assumes nothing.
use Rattle.std.specs.Prelude.{is_ok}
use mathlib.Core.Path.{◌≡◌, refl, ◌∙◌}
use mathlib.Core.Bool.{true, false}
use mathlib.Core.List.{List}
use Prim.Native.Nat.{ℕ}
use lib.ListN.{length, take}
use Rattle.kinds.specs.Answers.{Answer}
use Rattle.rule.specs.Configuration.{Config}
use Rattle.rule.specs.Prediction.{prediction}
use Rattle.rule.specs.Coding.{encoded_buffer, decoded_piece, new_state}
use Rattle.rule.specs.Refusals.{encoding_refusal}
use Rattle.calls.specs.declared.Way.{Way}
use Rattle.calls.specs.Encode as encoding
use Rattle.calls.specs.Decode as decoding
use Rattle.calls.proofs.Leaving as calls
use Rattle.byte_coding.specs.Bytes.{samples_in, samples_bytes}
use Rattle.byte_coding.specs.Calls.{encode_laid, decode_laid}

module _ (W : ℕ) (c : Config) (samples state : List ℕ) {answer : Answer}
    (said : answer ≡ encoding_refusal W c (length (samples_in W state)) (length (samples_in W samples))) where
  pub encode_refused : is_ok answer ≡ false → encoding.left answer samples state ≡ encode_laid W c samples state
  unfolding encode_laid
  encode_refused fails = rw (← calls.encode_refused W c (samples_in W samples) (samples_in W state) said fails, fails)

  pub encode_done : {xs ys : List ℕ} → is_ok answer ≡ true
      → xs ≡ samples_bytes W (encoded_buffer W c.order (prediction W c) (samples_in W samples)) → ys ≡ samples_bytes W (take c.order (samples_in W samples))
      → encoding.left answer xs ys ≡ encode_laid W c samples state
  unfolding encode_laid
  encode_done passes first second =
      (λ i. encoding.left answer (first i) (second i))
      ∙ rw (← calls.encode_done W c (samples_in W samples) (samples_in W state) said passes refl refl, passes)

module _ (way : Way) (W : ℕ) (c : Config) (state piece : List ℕ) {answer : Answer} (said : answer ≡ decoding.refusal_by way W c (length (samples_in W state))) where
  pub decode_refused : is_ok answer ≡ false → decoding.left answer state piece ≡ decode_laid way W c state piece
  unfolding decode_laid
  decode_refused fails = rw (← calls.decode_refused W c (samples_in W state) (samples_in W piece) said fails, fails)

  pub decode_done : {next out : List ℕ} → is_ok answer ≡ true
      → next ≡ samples_bytes W (new_state W c.order (prediction W c) (samples_in W state) (samples_in W piece))
      → out ≡ samples_bytes W (decoded_piece W c.order (prediction W c) (samples_in W state) (samples_in W piece))
      → decoding.left answer next out ≡ decode_laid way W c state piece
  unfolding decode_laid
  decode_done passes first second =
      (λ i. decoding.left answer (first i) (second i))
      ∙ rw (← calls.decode_done W c (samples_in W state) (samples_in W piece) said passes refl refl, passes)
