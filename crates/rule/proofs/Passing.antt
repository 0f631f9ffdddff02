-- What a call may lean on once its tests have passed.
-- Assumes nothing.
use Rattle.std.specs.Prelude.{Err, is_ok}
use mathlib.Core.Path.{◌≡◌, refl, sym, ◌∙◌}
use mathlib.Core.Bool.{Bool, true, false, not, cond, ◌&&◌, false≢true}
use Prim.Native.Nat.{ℕ, ◌≤◌}
use borrow.Author.Tests.{leb-true, ltb-true, eqb-true, ltb-false, le-leb, lt-ltb, eq-eqb}
use lib.Dec.{leb, ltb, eqb}
use lib.ListN.{length}
use Rattle.kinds.specs.declared.Refusal.TheVariants.{BadOrder, BadShift, Overflows, BadLength, TooFewSamples}
use Rattle.kinds.specs.Answers.{Answer, Done, refuse, when_done}
use Rattle.rule.specs.Numbers.{accumulator}
use Rattle.rule.specs.Prediction.{admitted, Ready}
use Rattle.rule.specs.Configuration.{Config}
use Rattle.rule.specs.Refusals.{order_fits, shift_fits, coding_refusal, encoding_refusal, order_six_refusal}

pub both : (a b : Bool) → (a && b) ≡ true → (a ≡ true) × (b ≡ true)
both true true h = (refl, refl)
both true false h = absurd (false≢true h)
both false b h = absurd (false≢true h)

all_pass : (a b c d : Bool) → is_ok (refuse (not a) BadOrder (refuse (not b) BadShift (refuse (not c) BadLength (refuse (not d) Overflows Done)))) ≡ true
    → (a ≡ true) × (b ≡ true) × (c ≡ true) × (d ≡ true)
all_pass true true true true h = (refl, refl, refl, refl)
all_pass true true true false h = absurd (false≢true h)
all_pass true true false d h = absurd (false≢true h)
all_pass true false c d h = absurd (false≢true h)
all_pass false b c d h = absurd (false≢true h)

module _ (W : ℕ) (c : Config) (state : ℕ) where
  pub coding_passed : is_ok (coding_refusal W c state) ≡ true → Ready W c × (state ≡ c.order)
  unfolding coding_refusal
  coding_passed h =
      let t = all_pass (order_fits c.order) (shift_fits W c.shift) (eqb (length c.weights) c.order && eqb state c.order) (admitted W c.bias c.weights) h in
      let o = both (leb 1 c.order) (leb c.order 32) t.0 in
      let l = both (eqb (length c.weights) c.order) (eqb state c.order) t.2 in (
        record {
          some = leb-true 1 c.order o.0;
          few = leb-true c.order 32 o.1;
          shift = ltb-true c.shift (accumulator W) t.1;
          weights = eqb-true (length c.weights) c.order l.0;
          admits = t.3;
        },
        eqb-true state c.order l.1,
      )

  -- and they pass where that holds
  pub ready_passes : Ready W c → state ≡ c.order → coding_refusal W c state ≡ Done
  unfolding coding_refusal
  ready_passes r full =
      rw (
        le-leb 1 c.order r.some,
        le-leb c.order 32 r.few,
        lt-ltb c.shift (accumulator W) r.shift,
        eq-eqb (length c.weights) c.order r.weights,
        eq-eqb state c.order full,
        r.admits,
      )

  -- a later test that is made only where those before it passed
  then_done : (a : Answer) (t : Bool) → is_ok (when_done a (refuse t TooFewSamples Done) a) ≡ true → (is_ok a ≡ true) × (t ≡ false)
  then_done a t h = go (is_ok a) t refl h
    where
      go : (d t : Bool) → is_ok a ≡ d → is_ok (cond d (refuse t TooFewSamples Done) a) ≡ true → (is_ok a ≡ true) × (t ≡ false)
      go true true e h = absurd (false≢true h)
      go true false e h = (e, refl)
      go false t e h = absurd (false≢true (sym e ∙ h))

  pub encoding_passed : (n : ℕ) → is_ok (encoding_refusal W c state n) ≡ true → (Ready W c × (state ≡ c.order)) × (c.order ≤ n)
  unfolding encoding_refusal
  encoding_passed n h =
      let t = then_done (coding_refusal W c state) (ltb n c.order) h in
      (coding_passed t.0, ltb-false n c.order t.1)

  six_done : (t : Bool) → is_ok (refuse (not t) BadOrder (coding_refusal W c state)) ≡ true → (t ≡ true) × (Ready W c × (state ≡ c.order))
  six_done true h = (refl, coding_passed h)
  six_done false h = absurd (false≢true h)

  pub order_six_passed : is_ok (order_six_refusal W c state) ≡ true → (c.order ≡ 6) × (Ready W c × (state ≡ c.order))
  unfolding order_six_refusal
  order_six_passed h =
      let t = six_done (eqb c.order 6) h in
      (eqb-true c.order 6 t.0, t.1)

  pub encoding_order : (n : ℕ) → order_fits c.order ≡ false → encoding_refusal W c state n ≡ Err BadOrder
  unfolding encoding_refusal coding_refusal
  encoding_order n h = rw h

pub order_few : (k : ℕ) → order_fits k ≡ true → k ≤ 32
order_few k h = leb-true k 32 (both (leb 1 k) (leb k 32) h).1
