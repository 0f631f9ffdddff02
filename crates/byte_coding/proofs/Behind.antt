-- What the steps behind the tests lean on, and what they leave: over the width w of W bits, where the code counts a sample's bytes by a
-- and by b. Assumes nothing.
use Rattle.std.specs.Prelude.{is_ok}
use Rattle.std.proofs.Common.{◌≡◌, ◌∙◌, ap, true, List, ℕ, ◌*◌, ◌/◌, ◌++◌, ◌≤◌, length, take, drop, arith}
use Rattle.std.proofs.Math.Nat.{mul-le-mul_left}
use Rattle.kinds.specs.Answers.{Answer}
use Rattle.kinds.specs.declared.Width.{Width}
use Rattle.kinds.specs.Widths.{bits_of}
use Rattle.rule.specs.Configuration.{Config}
use Rattle.rule.specs.Prediction.{Ready, prediction}
use Rattle.rule.specs.Coding.{decoded_piece, new_state}
use Rattle.rule.specs.Refusals.{encoding_refusal}
use Rattle.rule.proofs.Passing.{encoding_passed}
use Rattle.rule.proofs.Extending as extending
use Rattle.calls.specs.declared.Way.{Way}
use Rattle.calls.specs.Decode.{refusal_by}
use Rattle.calls.specs.Pieces.{Fits}
use Rattle.entries.specs.Entries.{entries}
use Rattle.entries.proofs.Lists.{length_entries}
use Rattle.decoding.specs.Steps.{Startable}
use Rattle.decoding.proofs.Choosing.{way_passed}
use Rattle.byte_coding.specs.Bytes.{samples_in, samples_bytes}
use Rattle.byte_coding.specs.Lengths.{Entire}
use Rattle.byte_coding.proofs.Chunks.{loaded_front}

-- ---- encoding: the lent state has k entries, and there are as many samples
pub record Encodes (W : ℕ) (c : Config) (samples state : List ℕ) : Type 0 where
  pub ready : Ready W c
  pub first-long : length state ≡ W / 8 * c.order
  pub near : length state ≤ length samples

module _ (w : Width) {W a b : ℕ} (is : bits_of w ≡ W) (a_is : a ≡ W / 8) (b_is : b ≡ W / 8) (c : Config) (samples state : List ℕ) where
  pub encodes : Entire W state → Entire W samples → is_ok (encoding_refusal (bits_of w) c (length state / a) (length samples / b)) ≡ true → Encodes W c samples state
  encodes lent whole passes =
      let p = encoding_passed W c (length state / (W / 8)) (length samples / (W / 8)) (rw (is, a_is, b_is) at passes) in
      let fewer : length state / (W / 8) ≤ length samples / (W / 8) = omega (arith, p.0.1, p.1) in
      record {
        ready = p.0.0;
        first-long = lent.entire ∙ ap (λ (n : ℕ). W / 8 * n) p.0.1;
        near = omega (arith, lent.entire, whole.entire, mul-le-mul_left (W / 8) fewer);
      }

  pub encode_said : {answer : Answer} → answer ≡ encoding_refusal (bits_of w) c (length state / a) (length samples / b)
      → answer ≡ encoding_refusal W c (length (samples_in W state)) (length (samples_in W samples))
  encode_said said = rw (length_entries (W / 8) state, length_entries (W / 8) samples) (rw (is, a_is, b_is) at said)

-- ---- decoding: the lent state has k entries
pub record Decodable (way : Way) (W : ℕ) (c : Config) (state : List ℕ) : Type 0 where
  pub ready : Ready W c
  pub fits : Fits c way
  pub counted : length state / (W / 8) ≡ c.order

module _ (w : Width) {W a : ℕ} (is : bits_of w ≡ W) (a_is : a ≡ W / 8) (way : Way) (c : Config) (state : List ℕ) where
  pub decodable : is_ok (refusal_by way (bits_of w) c (length state / a)) ≡ true → Decodable way W c state
  decodable passes =
      let p = way_passed W c way (length state / (W / 8)) (rw (is, a_is) at passes) in
      record { ready = p.0.0; fits = p.1; counted = p.0.1 }

  pub decode_said : {answer : Answer} → answer ≡ refusal_by way (bits_of w) c (length state / a) → answer ≡ refusal_by way W c (length (samples_in W state))
  decode_said said = rw (length_entries (W / 8) state) (rw (is, a_is) at said)

module _ {way : Way} {W : ℕ} {c : Config} {state : List ℕ} (d : Decodable way W c state) where
  -- the front of the array is the lent state, once that is loaded
  pub front : {held : List ℕ} (zeros : List ℕ) → held ≡ entries (W / 8) state ++ drop (length state / (W / 8)) zeros → take c.order held ≡ samples_in W state
  front zeros loaded = rw d.counted at (loaded_front (W / 8) state zeros loaded)

  state_long : length (samples_in W state) ≡ c.order
  state_long = length_entries (W / 8) state ∙ d.counted

  pub whole : Entire W state → length state ≡ W / 8 * c.order
  whole lent = lent.entire ∙ ap (λ (n : ℕ). W / 8 * n) d.counted

  -- the steps hold the configuration f, which is c, and start from xs
  module _ {f : Config} {xs : List ℕ} (same : f ≡ c) (loaded : xs ≡ samples_in W state) where
    pub startable : Startable W f xs × Fits f way
    startable = rw (same, loaded) (record { ready = d.ready; full = state_long }, d.fits)

    -- the piece has been decoded, and what is out is the new state
    module _ (piece : List ℕ) where
      pub piece_is : {new : List ℕ} → new ≡ samples_bytes W (decoded_piece W f.order (prediction W f) xs piece)
          → new ≡ samples_bytes W (decoded_piece W c.order (prediction W c) (samples_in W state) piece)
      piece_is e = e ∙ (λ i. samples_bytes W (decoded_piece W (same i).order (prediction W (same i)) (loaded i) piece))

      module _ {out : List ℕ} (e : out ≡ new_state W f.order (prediction W f) xs piece) where
        pub out-is : out ≡ new_state W c.order (prediction W c) (samples_in W state) piece
        out-is = e ∙ (λ i. new_state W (same i).order (prediction W (same i)) (loaded i) piece)

        pub out_long : length out ≡ c.order
        out_long = ap length out-is ∙ extending.length_state W c.order (prediction W c) (samples_in W state) piece state_long
