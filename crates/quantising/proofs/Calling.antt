-- A call's tests in their order: what each refusal leaves, and what a call leaves that passed them. A call with lent floats tests their number
-- first, and then leaves what the call on an array leaves that begins with them.
use mathlib.Core.Path.{◌≡◌, refl, sym, ap, ◌∙◌}
use mathlib.Core.Bool.{Bool, true, false, not, ◌&&◌}
use mathlib.Core.List.{List}
use Prim.Native.Nat.{ℕ, ◌≤◌}
use borrow.Author.Tests.{eqb-true, eq-eqb}
use lib.Dec.{eqb}
use lib.Ieee.{Float}
use lib.IntN.{ℤ}
use lib.ListN.{length, take}
use Rattle.std.specs.Prelude.{Result, Ok, Err, None}
use Rattle.kinds.specs.declared.Refusal.{Refusal}
use Rattle.kinds.specs.declared.Refusal.TheVariants.{BadOrder, BadLength, NoConfiguration}
use Rattle.kinds.specs.Answers.{Answer, Done, refuse}
use Rattle.rule.specs.Refusals.{order_fits}
use Rattle.rule.proofs.Passing.{order_few}
use Rattle.quantising.specs.declared.Quantised.{Quantised}
use Rattle.quantising.specs.Steps.{found, outcome}
use Rattle.quantising.specs.Calls.{left, quantised, quantised_fitted}

-- tests 1 and 4 of n weights
abbrev pub early : ℕ → ℕ → Answer
early k n = refuse (not (order_fits k)) BadOrder (refuse (not (eqb n k)) BadLength Done)

pub record Passed (k n : ℕ) : Type 0 where
  pub order : order_fits k ≡ true
  pub count : n ≡ k
  pub few : n ≤ 32

pub passed : (k n : ℕ) → early k n ≡ Done → Passed k n
passed k n h =
    let both = go (order_fits k) (eqb n k) h in
    let count = eqb-true n k both.1 in
    record { order = both.0; count = count; few = rw count (order_few k both.0) }
  where
    go : (order count : Bool) → refuse (not order) BadOrder (refuse (not count) BadLength Done) ≡ Done → (order ≡ true) × (count ≡ true)
    go true true h = (refl, refl)
    go true false h = cc
    go false count h = cc

module _ {A : Type 0} (later : Result A Refusal) (r : Refusal) where
  all : Bool → Bool → Bool → Result A Refusal
  all order given places = refuse (not order) BadOrder (refuse (not (given && places)) BadLength later)

  by_given : (order given places : Bool) → refuse (not order) BadOrder (refuse (not given) BadLength Done) ≡ Err r → all order given places ≡ Err r
  unfolding all
  by_given false given places h = cc
  by_given true false places h = cc
  by_given true true places h = cc

  by_places : (order given places : Bool) → refuse (not order) BadOrder (refuse (not places) BadLength Done) ≡ Err r → all order given places ≡ Err r
  unfolding all
  by_places false given places h = cc
  by_places true false false h = cc
  by_places true true false h = cc
  by_places true given true h = cc

module _ (W k : ℕ) (fitted : List Float) (centre : ℕ) (c : Float) (entry : List ℤ) where
  pub given_refused : (r : Refusal) → early k (length fitted) ≡ Err r → left (Err r) entry ≡ quantised W k fitted centre c entry
  unfolding quantised all
  given_refused r h = rw (by_given _ r (order_fits k) (eqb (length fitted) k) (eqb (length entry) k) h)

  pub places_refused : (r : Refusal) → early k (length entry) ≡ Err r → left (Err r) entry ≡ quantised W k fitted centre c entry
  unfolding quantised all
  places_refused r h = rw (by_places _ r (order_fits k) (eqb (length fitted) k) (eqb (length entry) k) h)

  module _ (given : length fitted ≡ k) (places : early k (length entry) ≡ Done) where
    pub nothing_found : outcome W fitted centre c ≡ None → left (Err NoConfiguration) entry ≡ quantised W k fitted centre c entry
    unfolding quantised
    nothing_found h =
        let p = passed k (length entry) places in
        rw (p.order, eq-eqb _ _ given, eq-eqb _ _ p.count, h)

    pub configured : (q : Quantised) (weights : List ℤ) → outcome W fitted centre c ≡ found q.shift q.bias weights → left (Ok q) weights ≡ quantised W k fitted centre c entry
    unfolding quantised
    configured q weights h =
        let p = passed k (length entry) places in
        rw (p.order, eq-eqb _ _ given, eq-eqb _ _ p.count, h)

  -- the call on an array that begins with the lent floats
  pub same_call : (array : List Float) → length fitted ≡ k → take (length fitted) array ≡ fitted
      → quantised_fitted W (record { weights = array; bias = c; order = record { 0 = k } }) centre entry ≡ quantised W k fitted centre c entry
  same_call array count front =
      ap (λ (ws : List Float). quantised W k ws centre c entry) (ap (λ (n : ℕ). take n array) (sym count) ∙ front)
