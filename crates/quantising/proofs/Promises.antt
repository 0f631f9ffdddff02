-- What every configuration that quantising hands out keeps: the coders take it, by the accumulator rule and a shift below A, and it can be written to a record.
use mathlib.Core.Path.{◌≡◌, refl, sym, ap, ap₂, ◌∙◌, subst}
use mathlib.Core.Bool.{Bool, true, false, not, ◌&&◌}
use mathlib.Core.List.{List, map}
use Prim.Native.Nat.{ℕ, ◌+◌, ◌-◌, ◌^◌, ◌≤◌, ◌<◌}
use native.Mathlib.Omega.{arith}
use borrow.Author.Tests.{lt-leb}
use lib.Dec.{eqb, eqb→eq}
use lib.IntN.{ℤ}
use lib.ListN.{length}
use lib.Ieee.{Float}
use lib.Ieee.Fits.{and_l}
use Rattle.floats.proofs.Patterns.{yes}
use Rattle.kinds.specs.declared.Refusal.{Refusal}
use Rattle.kinds.specs.declared.Refusal.TheVariants.{BadOrder, BadLength, NoConfiguration}
use Rattle.kinds.specs.declared.Shift.{Shift}
use Rattle.kinds.specs.declared.Width.{Width}
use Rattle.kinds.specs.declared.Width.TheVariants.{Eight, Sixteen, ThirtyTwo}
use Rattle.kinds.specs.Answers.{refuse}
use Rattle.std.specs.Prelude.{Option, Some, None, Result, Ok, ok_or, option_and_then}
use Rattle.kinds.specs.Widths.{bits_of}
use Rattle.record.specs.declared.DeltaEncoding.{DeltaEncoding}
use Rattle.record.specs.declared.DeltaEncoding.TheVariants.{Conv1}
use Rattle.record.specs.Widths.{greatest_shift}
use Rattle.record.specs.Writing.{misordered, malformed, unfit}
use Rattle.rule.specs.Numbers.{accumulator}
use Rattle.rule.specs.Prediction.{admitted}
use Rattle.rule.specs.Refusals.{order_fits}
use Rattle.quantising.specs.declared.Quantised.{Quantised}
use Rattle.quantising.specs.declared.scaling.Scale.{Scale}
use Rattle.quantising.specs.Scale.{float, by, only, scale_of}
use Rattle.quantising.specs.Steps.{weight_of, weights_hold, bias_of, bias_holds, Found, found, completed, outcome}
use Rattle.quantising.specs.Calls.{Leaves, concluded, quantised}
use Rattle.quantising.proofs.Choosing.{same_some, ShiftFits, shift_fits}

-- a configuration that the coders take, with a shift that the record's field holds
pub record Usable (W : ℕ) (q : Shift) (bias : ℤ) (weights : List ℤ) : Type 0 where
  pub rule : admitted W bias weights ≡ true
  pub below : q.0 < accumulator W
  pub recorded : q.0 ≤ greatest_shift

-- a record that the writer's tests 1, 9 and 10 let pass, so that its answer depends on the room alone
pub record Writable (encoding : DeltaEncoding) : Type 0 where
  pub ordered : misordered encoding ≡ false
  pub formed : malformed encoding ≡ false
  pub fit : unfit encoding ≡ false

-- ---- whatever the six steps find
none_found : (q : Shift) (bias : ℤ) (ws : List ℤ) → found q bias ws ≡ None → ⊥
none_found q bias ws h = let z : ◌≡◌ {A = ℕ} 0 1 = cc in omega arith

under_only : (t : Bool) (o : Option Found) (q : Shift) (bias : ℤ) (ws : List ℤ) → found q bias ws ≡ only t o → (t ≡ true) × (found q bias ws ≡ o)
under_only true o q bias ws h = (refl, h)
under_only false o q bias ws h = absurd (none_found q bias ws h)

same_found : (q r : Shift) (a b : ℤ) (l m : List ℤ) → found q a l ≡ found r b m → (q ≡ r) × (a ≡ b) × (l ≡ m)
same_found q r a b l m h =
    let e = same_some (record { shift = q; bias = a; weights = l }) (record { shift = r; bias = b; weights = m }) h in
    (ap (λ (f : Found). f.shift) e, ap (λ (f : Found). f.bias) e, ap (λ (f : Found). f.weights) e)

record Kept (W : ℕ) (q : Shift) (bias : ℤ) (weights : List ℤ) : Type 0 where
  rule : admitted W bias weights ≡ true
  shift : ShiftFits W q.0

module _ (W : ℕ) (ws : List Float) (centre : ℕ) (c : Float) (q : Shift) (bias : ℤ) (weights : List ℤ) where
  by_kept : (r : Shift) (b : Float) → by r b ≡ scale_of W ws centre c → found q bias weights ≡ completed W ws (record { shift = r; bias = b }) → Kept W q bias weights
  unfolding completed
  by_kept r b e h =
      let p = float (2 ^ r.0) in
      let z = bias_of p b in
      let l = map (weight_of p) ws in
      let third = only (admitted W z l) (found r z l) in
      let at = under_only (admitted W z l) (found r z l) q bias weights (under_only (bias_holds p b) third q bias weights (under_only (weights_hold p ws) (only (bias_holds p b) third) q bias weights h).1).1 in
      let is = same_found q r bias z weights l at.1 in
      record { rule = ap₂ (admitted W) is.1 is.2 ∙ at.0; shift = subst (λ (s : Shift). ShiftFits W s.0) (sym is.0) (shift_fits W ws centre c r b e) }

  found_kept : found q bias weights ≡ outcome W ws centre c → Kept W q bias weights
  unfolding outcome
  found_kept h = go (scale_of W ws centre c) refl h
    where
      go : (s : Option Scale) → s ≡ scale_of W ws centre c → found q bias weights ≡ option_and_then (completed W ws) s → Kept W q bias weights
      go None e h = absurd (none_found q bias weights h)
      go (Some s) e h = by_kept s.shift s.bias e h

  -- the record of it, with as many weights as there were floats
  pub found_writable : order_fits (length ws) ≡ true → found q bias weights ≡ outcome W ws centre c → Writable (Conv1 q bias (record { 0 = length ws }))
  found_writable order h = record { ordered = ap not order; formed = refl; fit = lt-leb (greatest_shift + 1) q.0 (next (found_kept h).shift.recorded) }
    where
      next : q.0 ≤ greatest_shift → q.0 < greatest_shift + 1
      next l = omega arith

shift_below : (w : Width) (q : ℕ) → q ≤ accumulator (bits_of w) - 1 → q < accumulator (bits_of w)
shift_below Eight q h = omega arith
shift_below Sixteen q h = omega arith
shift_below ThirtyTwo q h = omega arith

pub found_usable : (w : Width) (ws : List Float) (centre : ℕ) (c : Float) (q : Shift) (bias : ℤ) (weights : List ℤ) → found q bias weights ≡ outcome (bits_of w) ws centre c → Usable (bits_of w) q bias weights
found_usable w ws centre c q bias weights h =
    let k = found_kept (bits_of w) ws centre c q bias weights h in
    record { rule = k.rule; below = shift_below w q.0 k.shift.accumulated; recorded = k.shift.recorded }

-- ---- whatever a call that is done leaves
same_ok : (a b : Quantised) → ◌≡◌ {A = Result Quantised Refusal} (Ok a) (Ok b) → a ≡ b
same_ok a b h = cc

module _ (W k : ℕ) (fitted : List Float) (centre : ℕ) (c : Float) (entry : List ℤ) (q : Quantised) where
  abbrev l : Leaves
  l = quantised W k fitted centre c entry

  record Concluded : Type 0 where
    order : order_fits k ≡ true
    given : length fitted ≡ k
    is : found q.shift q.bias l.weights ≡ outcome W fitted centre c

  done_concluded : l.said ≡ Ok q → Concluded
  unfolding quantised
  done_concluded h =
      let at = go (order_fits k) (eqb (length fitted) k && eqb (length entry) k) (outcome W fitted centre c) h in
      record { order = at.0; given = eqb→eq (length fitted) k (and_l (eqb (length fitted) k) (eqb (length entry) k) (yes at.1)); is = at.2 }
    where
      after : Bool → Bool → Option Found → Leaves
      after order lengths o = concluded entry (refuse (not order) BadOrder (refuse (not lengths) BadLength (ok_or o NoConfiguration)))

      go : (order lengths : Bool) (o : Option Found) → (after order lengths o).said ≡ Ok q
          → (order ≡ true) × (lengths ≡ true) × (found q.shift q.bias (after order lengths o).weights ≡ o)
      go false lengths o h = cc
      go true false o h = cc
      go true true None h = cc
      go true true (Some f) h = (refl, refl, ap (λ (r : Quantised). found r.shift r.bias f.weights) (sym (same_ok (record { shift = f.shift; bias = f.bias }) q h)))

  pub done_writable : l.said ≡ Ok q → Writable (Conv1 q.shift q.bias (record { 0 = k }))
  done_writable h =
      let d = done_concluded h in
      subst (λ (n : ℕ). Writable (Conv1 q.shift q.bias (record { 0 = n }))) d.given
      (found_writable W fitted centre c q.shift q.bias l.weights (rw d.given d.order) d.is)

pub done_usable : (w : Width) (k : ℕ) (fitted : List Float) (centre : ℕ) (c : Float) (entry : List ℤ) (q : Quantised)
    → (let l = quantised (bits_of w) k fitted centre c entry in l.said ≡ Ok q → Usable (bits_of w) q.shift q.bias l.weights)
done_usable w k fitted centre c entry q h =
    found_usable w fitted centre c q.shift q.bias _ (done_concluded (bits_of w) k fitted centre c entry q h).is
