-- A call over bytes that divide into samples is the call on the samples that lie in them, done or refused, with what it leaves in bytes:
-- its early tests say nothing that the call's own do not, and samples and their bytes give each other back. And encoding that is done
-- found nothing ragged. Assumes nothing.
use Rattle.std.specs.Prelude.{is_ok}
use mathlib.Core.Path.{◌≡◌, refl, sym, ap, ap₂, ◌∙◌}
use mathlib.Core.Bool.{Bool, true, false, not, ◌&&◌, false≢true}
use mathlib.Core.List.{List}
use Prim.Native.Nat.{ℕ, ◌%◌, ◌/◌}
use native.Mathlib.Nat.{mul-mod_right}
use native.Mathlib.Omega.{arith}
use borrow.Author.Tests.{eq-eqb}
use lib.Dec.{eqb}
use lib.ListN.{length}
use Rattle.kinds.specs.declared.Refusal.TheVariants.{BadOrder, BadShift, BadLength}
use Rattle.kinds.specs.declared.Width.{Width}
use Rattle.kinds.specs.Answers.{Answer, Done, answer_number, refuse, when_done}
use Rattle.kinds.specs.Widths.{bits_of}
use Rattle.rule.specs.Configuration.{Config}
use Rattle.rule.specs.Refusals.{order_fits, shift_fits, coding_refusal, encoding_refusal, order_six_refusal}
use Rattle.rule.proofs.Sums.{Samples}
use Rattle.entries.specs.Entries.{is_entire}
use Rattle.entries.proofs.Bytes.{Bytes}
use Rattle.entries.proofs.Lists as lists
use Rattle.calls.specs.declared.Way.{Way}
use Rattle.calls.specs.declared.Way.TheVariants.{General, OrderSix}
use Rattle.calls.specs.Encode as encoding
use Rattle.calls.specs.Decode as decoding
use Rattle.calls.proofs.Leaving as calls
use Rattle.byte_coding.specs.Bytes.{samples_in, samples_bytes, ragged}
use Rattle.byte_coding.specs.Calls.{early, early_by, encode_laid, encode_bytes, decode_laid, decode_bytes}
use Rattle.byte_coding.proofs.Leaving as leaving
use Rattle.sample.proofs.Sizes.{some_bytes, bytes_bits}
use Rattle.byte_coding.proofs.Lengths.{entire_length}
use Rattle.byte_coding.proofs.Below.{bytes_below}

-- ---- where nothing is ragged
module _ (W : ℕ) (c : Config) where
  -- what the early tests refuse, the call's own do
  coding_early : (n : ℕ) → is_ok (early W c false) ≡ false → coding_refusal W c n ≡ early W c false
  unfolding early coding_refusal
  coding_early n fails = go (order_fits c.order) (shift_fits W c.shift) _ fails
    where
      go : (o s : Bool) (later : Answer) → is_ok (refuse (not o) BadOrder (refuse (not s) BadShift Done)) ≡ false
          → refuse (not o) BadOrder (refuse (not s) BadShift later) ≡ refuse (not o) BadOrder (refuse (not s) BadShift Done)
      go true true later fails = absurd (false≢true (sym fails))
      go true false later fails = refl
      go false s later fails = refl

  encoding_early : (n m : ℕ) → is_ok (early W c false) ≡ false → encoding_refusal W c n m ≡ early W c false
  unfolding encoding_refusal
  encoding_early n m fails = rw (coding_early n fails, fails)

  decoding_early : (way : Way) (n : ℕ) → is_ok (early_by way W c false) ≡ false → decoding.refusal_by way W c n ≡ early_by way W c false
  unfolding early_by order_six_refusal
  decoding_early General n fails = coding_early n fails
  decoding_early OrderSix n fails = go (eqb c.order 6) fails
    where
      go : (six : Bool) → is_ok (refuse (not six) BadOrder (early W c false)) ≡ false
          → refuse (not six) BadOrder (coding_refusal W c n) ≡ refuse (not six) BadOrder (early W c false)
      go true fails = coding_early n fails
      go false fails = refl

  encode_entire : (samples state : List ℕ) → encode_bytes W c false samples state ≡ encode_laid W c samples state
  unfolding encode_bytes
  encode_entire samples state = go (is_ok (early W c false)) refl
    where
      go : (t : Bool) → is_ok (early W c false) ≡ t → encode_bytes W c false samples state ≡ encode_laid W c samples state
      go true e = rw e
      go false e = rw e (leaving.encode_refused W c samples state (sym (encoding_early _ _ e)) e)

  decode_entire : (way : Way) (state piece : List ℕ) → decode_bytes way W c false state piece ≡ decode_laid way W c state piece
  unfolding decode_bytes
  decode_entire way state piece = go (is_ok (early_by way W c false)) refl
    where
      go : (t : Bool) → is_ok (early_by way W c false) ≡ t → decode_bytes way W c false state piece ≡ decode_laid way W c state piece
      go true e = rw e
      go false e = rw e (leaving.decode_refused way W c state piece (sym (decoding_early way _ e)) e)

not_ragged : (W : ℕ) (weights state samples : List ℕ) → is_entire 4 weights ≡ true → is_entire (W / 8) state ≡ true → is_entire (W / 8) samples ≡ true
    → ragged W weights state samples ≡ false
not_ragged W weights state samples w s p = rw (w, s, p)

-- ---- samples and their bytes, where a sample takes W / 8 of them
-- bytes that divide into samples
pub record Divided (W : ℕ) (bytes : List ℕ) : Type 0 where
  pub below : Bytes bytes
  pub entire : is_entire (W / 8) bytes ≡ true

module _ (w : Width) where
  abbrev W : ℕ
  W = bits_of w

  pub bytes_of_samples : {bytes : List ℕ} → Divided W bytes → samples_bytes W (samples_in W bytes) ≡ bytes
  bytes_of_samples {bytes} d =
      lists.bytes_of_entries (W / 8) (some_bytes w refl) bytes d.below (length bytes / (W / 8)) (entire_length (W / 8) (length bytes) d.entire)

  pub samples_of_bytes : (xs : List ℕ) → Samples W xs → samples_in W (samples_bytes W xs) ≡ xs
  samples_of_bytes xs samples = lists.entries_of_bytes (W / 8) (some_bytes w refl) xs (λ i. rw (bytes_bits w refl) (samples.below i))

  pub bytes_divided : (xs : List ℕ) → Divided W (samples_bytes W xs)
  bytes_divided xs =
      record {
        below = bytes_below (W / 8) xs;
        entire = eq-eqb _ 0 (ap (λ (l : ℕ). l % (W / 8)) (lists.length_bytes_all (W / 8) xs) ∙ mul-mod_right (W / 8) (length xs));
      }

  -- ---- the calls
  abbrev pub encoded_bytes : encoding.Encoded → encoding.Encoded
  encoded_bytes e = encoding.left e.said (samples_bytes W e.samples) (samples_bytes W e.state)

  abbrev pub decoded_bytes : decoding.Decoded → decoding.Decoded
  decoded_bytes d = decoding.left d.said (samples_bytes W d.state) (samples_bytes W d.piece)

  module _ (c : Config) (weights : List ℕ) (weighed : is_entire 4 weights ≡ true) where
    module _ {samples state : List ℕ} (s : Divided W samples) (h : Divided W state) where
      abbrev tested : Answer
      tested = encoding_refusal W c (length (samples_in W state)) (length (samples_in W samples))

      pub encode_in_bytes : encode_bytes W c (ragged W weights state samples) samples state
          ≡ encoded_bytes (encoding.encode W c (samples_in W samples) (samples_in W state))
      encode_in_bytes = rw (not_ragged W weights state samples weighed h.entire s.entire) (encode_entire W c samples state ∙ go (is_ok tested) refl)
        where
          go : (t : Bool) → is_ok tested ≡ t → encode_laid W c samples state ≡ encoded_bytes (encoding.encode W c (samples_in W samples) (samples_in W state))
          go true e =
              sym (leaving.encode_done W c samples state refl e refl refl)
              ∙ ap encoded_bytes (calls.encode_done W c (samples_in W samples) (samples_in W state) refl e refl refl)
          go false e =
              sym (leaving.encode_refused W c samples state refl e)
              ∙ ap₂ (encoding.left tested) (sym (bytes_of_samples s)) (sym (bytes_of_samples h))
              ∙ ap encoded_bytes (calls.encode_refused W c (samples_in W samples) (samples_in W state) refl e)

    module _ {state piece : List ℕ} (h : Divided W state) (r : Divided W piece) where
      abbrev tests : Way → Answer
      tests way = decoding.refusal_by way W c (length (samples_in W state))

      pub decode_in_bytes : (way : Way) → decode_bytes way W c (ragged W weights state piece) state piece
          ≡ decoded_bytes (decoding.decode_by way W c (samples_in W state) (samples_in W piece))
      decode_in_bytes way = rw (not_ragged W weights state piece weighed h.entire r.entire) (decode_entire W c way state piece ∙ go (is_ok (tests way)) refl)
        where
          go : (t : Bool) → is_ok (tests way) ≡ t → decode_laid way W c state piece ≡ decoded_bytes (decoding.decode_by way W c (samples_in W state) (samples_in W piece))
          go true e =
              sym (leaving.decode_done way W c state piece refl e refl refl)
              ∙ ap decoded_bytes (calls.decode_done W c (samples_in W state) (samples_in W piece) refl e refl refl)
          go false e =
              sym (leaving.decode_refused way W c state piece refl e)
              ∙ ap₂ (decoding.left (tests way)) (sym (bytes_of_samples h)) (sym (bytes_of_samples r))
              ∙ ap decoded_bytes (calls.decode_refused W c (samples_in W state) (samples_in W piece) refl e)

-- ---- encoding that is done found nothing ragged
pub done_even : (W : ℕ) (c : Config) (weights state samples : List ℕ) → answer_number (encode_bytes W c (ragged W weights state samples) samples state).said ≡ 0
    → (is_entire 4 weights ≡ true) × (is_entire (W / 8) state ≡ true) × (is_entire (W / 8) samples ≡ true)
unfolding encode_bytes early
done_even W c weights state samples zero = go (is_entire 4 weights) (is_entire (W / 8) state) (is_entire (W / 8) samples) (even _ (order_fits c.order) (shift_fits W c.shift) zero)
  where
    even : (torn o s : Bool) → answer_number (when_done (refuse (not o) BadOrder (refuse (not s) BadShift (refuse torn BadLength Done))) (encode_laid W c samples state) (encoding.left (refuse (not o) BadOrder (refuse (not s) BadShift (refuse torn BadLength Done))) samples state)).said ≡ 0
        → torn ≡ false
    even false o s zero = refl
    even true true true zero = absurd (omega arith)
    even true true false zero = absurd (omega arith)
    even true false s zero = absurd (omega arith)

    go : (a b c : Bool) → not (a && (b && c)) ≡ false → (a ≡ true) × (b ≡ true) × (c ≡ true)
    go true true true h = (refl, refl, refl)
    go true true false h = absurd (false≢true (sym h))
    go true false c h = absurd (false≢true (sym h))
    go false b c h = absurd (false≢true (sym h))
