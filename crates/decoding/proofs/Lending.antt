-- From a lent call, on the places of the state's array that its count says, to the same call with the state by value. That a count which
-- no array has is refused as the count that it is: `forged_refused`. Assumes nothing.
use mathlib.Core.Path.{◌≡◌, refl, sym, ap, ◌∙◌}
use mathlib.Core.Bool.{Bool, true, false, not, cond, false≢true}
use mathlib.Core.List.{List, ◌++◌}
use Prim.Native.Nat.{ℕ, ◌≤◌, ◌<◌}
use native.Mathlib.Omega.{arith}
use borrow.Author.Tests.{leb-true, leb-false, ne_eqb}
use lib.Dec.{leb, eqb}
use lib.ListN.{length, take, drop}
use lib.Seq.{length-take-le}
use Rattle.kinds.specs.declared.Refusal.TheVariants.{BadOrder}
use Rattle.kinds.specs.Answers.{Answer, refuse}
use Rattle.rule.specs.Configuration.{Config}
use Rattle.rule.specs.Refusals.{order_fits, coding_refusal, order_six_refusal}
use Rattle.rule.proofs.Passing.{order_few}
use Rattle.calls.specs.declared.Way.{Way}
use Rattle.calls.specs.declared.Way.TheVariants.{General, OrderSix}
use Rattle.calls.specs.Decode.{left, refusal_by, decode_by}
use Rattle.calls.specs.ByValue.{lent, held, held_of, decode_by_value}

pub lent_few : (count : ℕ) → lent count ≤ 32
lent_few count = go (leb count 32) refl
  where
    go : (d : Bool) → leb count 32 ≡ d → cond d count 0 ≤ 32
    go true e = leb-true count 32 e
    go false e = omega arith

-- `n` places of the array are lent
module _ (count : ℕ) {n : ℕ} (n-is : n ≡ lent count) (array : List ℕ) (full : length array ≡ 32) where
  pub lent_inside : n ≤ length array
  lent_inside = rw (full, n-is) (lent_few count)

  pub lent_long : length (take n array) ≡ n
  lent_long = length-take-le n array lent_inside

  pub held_left : (way : Way) (W : ℕ) (c : Config) (piece : List ℕ) {said : Answer} {next out : List ℕ} → length next ≡ n
      → left said next out ≡ decode_by way W c (take n array) piece → held said (next ++ drop n array) count out ≡ decode_by_value way W c array count piece
  held_left way W c piece {said} {next} {out} long h =
      ap (λ (i : ℕ). held said (next ++ drop i array) count out) (sym long)
      ∙ ap (held_of array count) h
      ∙ ap (λ (i : ℕ). held_of array count (decode_by way W c (take i array) piece)) n-is

-- ---- a forged count
none_unfit : (k : ℕ) → order_fits k ≡ true → 0 ≡ k → ⊥
none_unfit k e q = false≢true (rw (sym q) at e)

module _ (W : ℕ) (c : Config) (count : ℕ) where
  -- neither a count above 32 nor a count of 0 is an order
  coding_alike : coding_refusal W c (lent count) ≡ coding_refusal W c count
  unfolding coding_refusal
  coding_alike = go (leb count 32) refl
    where
      unfit : (d : Bool) → order_fits c.order ≡ d → 32 < count → coding_refusal W c 0 ≡ coding_refusal W c count
      unfit true e h = rw (ne_eqb 0 c.order (none_unfit c.order e), ne_eqb count c.order (λ q. omega (arith, order_few c.order e)))
      unfit false e h = rw e

      go : (d : Bool) → leb count 32 ≡ d → coding_refusal W c (cond d count 0) ≡ coding_refusal W c count
      go true e = refl
      go false e = unfit (order_fits c.order) refl (leb-false count 32 e)

  pub forged_refused : (way : Way) → refusal_by way W c (lent count) ≡ refusal_by way W c count
  unfolding order_six_refusal
  forged_refused General = coding_alike
  forged_refused OrderSix = ap (refuse (not (eqb c.order 6)) BadOrder) coding_alike
