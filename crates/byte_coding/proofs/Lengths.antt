-- The tests that the byte lengths decide, and those of the entries behind them, together are the refusal of a call over bytes.
-- Assumes nothing.
use Rattle.std.specs.Prelude.{Err, is_ok}
use mathlib.Core.Path.{◌≡◌, refl, sym, ap, ◌∙◌}
use mathlib.Core.Bool.{Bool, true, false, not, ◌&&◌, false≢true}
use mathlib.Core.List.{List, ◌++◌}
use Prim.Native.Nat.{ℕ, ◌*◌, ◌/◌, ◌%◌, ◌≤◌}
use native.Mathlib.Nat.{div-add-mod}
use native.Mathlib.Omega.{arith}
use borrow.Author.Tests.{eqb-true, eq-eqb}
use lib.Dec.{eqb}
use lib.IntN.{ℤ}
use lib.ListN.{length, take, drop, length-map}
use lib.Seq.{take_at}
use mir.Syntax.{w32}
use mir.Val.{to_z}
use Rattle.kinds.specs.declared.Refusal.TheVariants.{BadOrder, BadShift, BadLength}
use Rattle.kinds.specs.Answers.{Answer, Done, refuse}
use Rattle.kinds.specs.declared.Configuration.{Configuration}
use Rattle.rule.specs.Configuration.{Config, config, given}
use Rattle.rule.specs.Refusals.{order_fits, shift_fits, coding_refusal, encoding_refusal}
use Rattle.rule.proofs.Passing.{order_few, both}
use Rattle.entries.specs.Entries.{entries, is_entire}
use Rattle.entries.proofs.Lists.{length_entries}
use Rattle.calls.specs.declared.Way.{Way}
use Rattle.calls.specs.declared.Way.TheVariants.{General, OrderSix}
use Rattle.calls.specs.Encode as encoding
use Rattle.calls.specs.Decode as decoding
use Rattle.calls.specs.Pieces.{Fits}
use Rattle.calls.proofs.Ways.{refusals_agree, ways_agree}
use Rattle.byte_coding.specs.Bytes.{samples_in, weights_in, laid, ragged}
use Rattle.byte_coding.specs.Calls.{early, early_by, encode_laid, encode_bytes, decode_laid, decode_bytes}
use Rattle.byte_coding.specs.Lengths.{layout_refusal, layout_by}
use Rattle.byte_coding.proofs.Leaving as leaving

pub length_weights : (bytes : List ℕ) → length (weights_in bytes) ≡ length bytes / 4
length_weights bytes = length-map (entries 4 bytes) (to_z w32) ∙ length_entries 4 bytes

pub weights_front : (k : ℕ) (bytes : List ℕ) (numbers zeros : List ℤ) → length bytes / 4 ≡ k
    → numbers ≡ weights_in bytes ++ drop (length bytes / 4) zeros → take k numbers ≡ weights_in bytes
weights_front k bytes numbers zeros e is = rw is (take_at (weights_in bytes) (drop (length bytes / 4) zeros) k (length_weights bytes ∙ e))

-- ---- the tests that need no weight have passed
pub record Laid (W order weights state samples : ℕ) : Type 0 where
  pub few : order ≤ 32
  pub weighed : weights / 4 ≡ order
  pub held : state ≡ W / 8 * (state / (W / 8))
  pub sampled : samples ≡ W / 8 * (samples / (W / 8))

all_pass : (a b c d : Bool) → is_ok (refuse (not a) BadOrder (refuse (not b) BadShift (refuse (not c) BadLength (refuse (not d) BadLength Done)))) ≡ true
    → (a ≡ true) × (c ≡ true) × (d ≡ true)
all_pass true true true true h = (refl, refl, refl)
all_pass true true true false h = absurd (false≢true h)
all_pass true true false d h = absurd (false≢true h)
all_pass true false c d h = absurd (false≢true h)
all_pass false b c d h = absurd (false≢true h)

pub entire_length : (n l : ℕ) → eqb (l % n) 0 ≡ true → l ≡ n * (l / n)
entire_length n l h = omega (arith, eqb-true (l % n) 0 h, div-add-mod l n)

pub layout_passed : (W order shift weights state samples : ℕ) → is_ok (layout_refusal W order shift weights state samples) ≡ true → Laid W order weights state samples
unfolding layout_refusal
layout_passed W order shift weights state samples h =
    let t = all_pass (order_fits order) (shift_fits W shift) (eqb (weights % 4) 0 && (eqb (state % (W / 8)) 0 && eqb (samples % (W / 8)) 0)) (eqb (weights / 4) order) h in
    let w = both (eqb (weights % 4) 0) (eqb (state % (W / 8)) 0 && eqb (samples % (W / 8)) 0) t.1 in
    let s = both (eqb (state % (W / 8)) 0) (eqb (samples % (W / 8)) 0) w.1 in
    record {
      few = order_few order t.0;
      weighed = eqb-true (weights / 4) order t.2;
      held = entire_length (W / 8) state s.0;
      sampled = entire_length (W / 8) samples s.1;
    }

-- ---- the configuration that the steps behind those tests are given: the weights' bytes are loaded to the front of the array
module _ {W : ℕ} (c : Configuration ℕ) {state samples : ℕ} (l : Laid W c.order.0 (length c.weights.now) state samples) {numbers : List ℤ} (zeros : List ℤ)
    (loaded : numbers ≡ weights_in c.weights.now ++ drop (length c.weights.now / 4) zeros) where
  front : take c.order.0 numbers ≡ weights_in c.weights.now
  front = weights_front c.order.0 c.weights.now numbers zeros l.weighed loaded

  pub front_long : c.order.0 ≡ length (take c.order.0 numbers)
  front_long = sym (ap length front ∙ length_weights c.weights.now ∙ l.weighed)

  pub given_laid : (d : Configuration ℤ) → d.order ≡ c.order → d.shift ≡ c.shift → d.bias ≡ c.bias → d.weights.now ≡ take c.order.0 numbers → given d ≡ laid c
  given_laid d order shift bias weights = λ i. config (order i) (shift i) (bias i) ((weights ∙ front) i)

-- ---- what the lengths' tests say of a call over bytes, where the weights c has are those of its bytes
abbrev early_of : (o s w : Bool) → Answer
early_of o s w = refuse (not o) BadOrder (refuse (not s) BadShift (refuse (not w) BadLength Done))

abbrev layout_of : (o s w l : Bool) → Answer
layout_of o s w l = refuse (not o) BadOrder (refuse (not s) BadShift (refuse (not w) BadLength (refuse (not l) BadLength Done)))

-- a refusal is that of the earlier tests, or there are too few or too many weights
data Refused (o s w l : Bool) : Type 0 where
  sooner : is_ok (early_of o s w) ≡ false → layout_of o s w l ≡ early_of o s w → Refused o s w l
  counted : is_ok (early_of o s w) ≡ true → layout_of o s w l ≡ Err BadLength → o ≡ true → s ≡ true → l ≡ false → Refused o s w l

refused_as : (o s w l : Bool) → is_ok (layout_of o s w l) ≡ false → Refused o s w l
refused_as true true true true h = absurd (false≢true (sym h))
refused_as true true true false h = counted refl refl refl refl refl
refused_as true true false l h = sooner refl refl
refused_as true false w l h = sooner refl refl
refused_as false s w l h = sooner refl refl

passed_as : (o s w l : Bool) → is_ok (layout_of o s w l) ≡ true → is_ok (early_of o s w) ≡ true
passed_as true true true l h = refl
passed_as true true false l h = absurd (false≢true h)
passed_as true false w l h = absurd (false≢true h)
passed_as false s w l h = absurd (false≢true h)

module _ (W : ℕ) (c : Config) (weights state samples : List ℕ) (read : c.weights ≡ weights_in weights) where
  abbrev torn : Bool
  torn = ragged W weights state samples

  abbrev even : Bool
  even = is_entire 4 weights && (is_entire (W / 8) state && is_entire (W / 8) samples)

  counts : eqb (length weights / 4) c.order ≡ eqb (length c.weights) c.order
  counts = ap (λ (n : ℕ). eqb n c.order) (sym (ap length read ∙ length_weights weights))

  abbrev layout : Answer
  layout = layout_refusal W c.order c.shift (length weights) (length state) (length samples)

  miscounted : (n : ℕ) → order_fits c.order ≡ true → shift_fits W c.shift ≡ true → eqb (length weights / 4) c.order ≡ false → coding_refusal W c n ≡ Err BadLength
  unfolding coding_refusal
  miscounted n o s l = rw (o, s, sym counts ∙ l)

  -- `answer` is what the lengths' tests said
  module _ {answer : Answer} (said : answer ≡ layout) where
    pub encode_unlaid : is_ok answer ≡ false → encoding.left answer samples state ≡ encode_bytes W c torn samples state
    unfolding encode_bytes early layout_refusal encoding_refusal
    encode_unlaid fails = go (refused_as (order_fits c.order) (shift_fits W c.shift) even (eqb (length weights / 4) c.order) (ap is_ok (sym said) ∙ fails))
      where
        go : Refused (order_fits c.order) (shift_fits W c.shift) even (eqb (length weights / 4) c.order) → encoding.left answer samples state ≡ encode_bytes W c torn samples state
        go (sooner fails same) = ap (λ (a : Answer). encoding.left a samples state) (said ∙ same) ∙ rw fails
        go (counted yet same o s l) =
            let bad : Err BadLength ≡ encoding_refusal W c (length (samples_in W state)) (length (samples_in W samples)) = rw (miscounted (length (samples_in W state)) o s l) in
            ap (λ (a : Answer). encoding.left a samples state) (said ∙ same) ∙ leaving.encode_refused W c samples state bad refl ∙ rw yet

    pub encode_laid_lem : is_ok answer ≡ true → encode_laid W c samples state ≡ encode_bytes W c torn samples state
    unfolding encode_bytes early layout_refusal
    encode_laid_lem passes =
        rw (passed_as (order_fits c.order) (shift_fits W c.shift) even (eqb (length weights / 4) c.order) (ap is_ok (sym said) ∙ passes))

  -- ---- decoding, of a piece in the samples' place, by a way that fits
  abbrev tests : Bool → Type 0
  tests l = Refused (order_fits c.order) (shift_fits W c.shift) even l

  early_alike : (way : Way) → Fits c way → early_by way W c torn ≡ early W c torn
  unfolding early_by
  early_alike General fits = refl
  early_alike OrderSix fits = rw (eq-eqb c.order 6 fits)

  refusal_alike : (way : Way) → Fits c way → (n : ℕ) → decoding.refusal_by way W c n ≡ coding_refusal W c n
  refusal_alike General fits n = refl
  refusal_alike OrderSix fits n = refusals_agree W c n fits

  module _ (way : Way) (fits : Fits c way) {answer : Answer} (said : answer ≡ layout) where
    unlaid : is_ok answer ≡ false → decoding.left answer state samples ≡ decode_bytes way W c torn state samples
    unfolding decode_bytes early layout_refusal
    unlaid fails = go (refused_as (order_fits c.order) (shift_fits W c.shift) even (eqb (length weights / 4) c.order) (ap is_ok (sym said) ∙ fails))
      where
        go : tests (eqb (length weights / 4) c.order) → decoding.left answer state samples ≡ decode_bytes way W c torn state samples
        go (sooner fails same) = ap (λ (a : Answer). decoding.left a state samples) (said ∙ same) ∙ rw (early_alike way fits, fails)
        go (counted passes same o s l) =
            let bad : Err BadLength ≡ decoding.refusal_by way W c (length (samples_in W state))
            = sym (refusal_alike way fits (length (samples_in W state)) ∙ miscounted (length (samples_in W state)) o s l) in
            ap (λ (a : Answer). decoding.left a state samples) (said ∙ same) ∙ leaving.decode_refused way W c state samples bad refl ∙ rw (early_alike way fits, passes)

    laid_lem : is_ok answer ≡ true → decode_laid way W c state samples ≡ decode_bytes way W c torn state samples
    unfolding decode_bytes early layout_refusal
    laid_lem passes =
        rw (
          early_alike way fits,
          passed_as (order_fits c.order) (shift_fits W c.shift) even (eqb (length weights / 4) c.order) (ap is_ok (sym said) ∙ passes),
        )

  abbrev layout_for : Way → Answer
  layout_for way = layout_by way W c.order c.shift (length weights) (length state) (length samples)

  pub decode_unlaid : (way : Way) {answer : Answer} → answer ≡ layout_for way → is_ok answer ≡ false
      → decoding.left answer state samples ≡ decode_bytes way W c torn state samples
  unfolding layout_by decode_bytes early_by
  decode_unlaid General said fails = unlaid General tt said fails
  decode_unlaid OrderSix {answer} said fails = go (eqb c.order 6) refl
    where
      go : (d : Bool) → eqb c.order 6 ≡ d → decoding.left answer state samples ≡ decode_bytes OrderSix W c torn state samples
      go true e = unlaid OrderSix (eqb-true c.order 6 e) (said ∙ rw e) fails
      go false e =
          let bad : answer ≡ Err BadOrder = said ∙ rw e in
          ap (λ (a : Answer). decoding.left a state samples) bad ∙ rw e

  pub decode_laid_lem : (way : Way) {answer : Answer} → answer ≡ layout_for way → is_ok answer ≡ true
      → decode_laid way W c state samples ≡ decode_bytes way W c torn state samples
  unfolding layout_by
  decode_laid_lem General said passes = laid_lem General tt said passes
  decode_laid_lem OrderSix {answer} said passes = go (eqb c.order 6) refl
    where
      go : (d : Bool) → eqb c.order 6 ≡ d → decode_laid OrderSix W c state samples ≡ decode_bytes OrderSix W c torn state samples
      go true e = laid_lem OrderSix (eqb-true c.order 6 e) (said ∙ rw e) passes
      go false e =
          let bad : answer ≡ Err BadOrder = said ∙ rw e in
          absurd (false≢true (sym (ap is_ok bad) ∙ passes))

-- the lengths are entire too where a way is asked for
pub layout_passed_by : (way : Way) (W order shift weights state samples : ℕ) → is_ok (layout_by way W order shift weights state samples) ≡ true
    → Laid W order weights state samples
unfolding layout_by
layout_passed_by General W order shift weights state samples h = layout_passed W order shift weights state samples h
layout_passed_by OrderSix W order shift weights state samples h = go (eqb order 6) refl h
  where
    go : (d : Bool) → eqb order 6 ≡ d → is_ok (refuse (not d) BadOrder (layout_refusal W order shift weights state samples)) ≡ true → Laid W order weights state samples
    go true e h = layout_passed W order shift weights state samples h
    go false e h = absurd (false≢true h)

-- ---- the two ways over bytes
pub ways_agree_in_bytes : (W : ℕ) (c : Config) (torn : Bool) (state piece : List ℕ) (way : Way) → Fits c way
    → decode_bytes way W c torn state piece ≡ decode_bytes General W c torn state piece
unfolding decode_bytes decode_laid early_by
ways_agree_in_bytes W c torn state piece General fits = refl
ways_agree_in_bytes W c torn state piece OrderSix fits =
    rw (eq-eqb c.order 6 fits, ways_agree W c OrderSix fits (samples_in W state) (samples_in W piece))

pub ways_agree_in_bytes_numbered : (W : ℕ) (c : Config) (torn : Bool) (state piece : List ℕ) (way : Way) → Fits c way
    → decoding.numbered (decode_bytes way W c torn state piece) ≡ decoding.numbered (decode_bytes General W c torn state piece)
ways_agree_in_bytes_numbered W c torn state piece way fits = ap decoding.numbered (ways_agree_in_bytes W c torn state piece way fits)
