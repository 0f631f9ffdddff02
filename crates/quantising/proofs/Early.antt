-- Lent floats that are refused by their number are refused by the whole call, whatever the lent places are.
use Rattle.std.proofs.Common.{◌≡◌, ap, sym, Bool, true, false, not, ◌&&◌, ℕ, ℤ, List, length, eqb, rules}
use Rattle.std.specs.Prelude.{Result, Ok, Err, Float, ok_or}
use Rattle.kinds.specs.declared.Refusal.{Refusal}
use Rattle.kinds.specs.declared.Refusal.TheVariants.{BadOrder, BadLength, NoConfiguration}
use Rattle.kinds.specs.Answers.{Answer, Done, refuse}
use Rattle.rule.specs.Refusals.{order_fits}
use Rattle.quantising.specs.Steps.{outcome}
use Rattle.quantising.specs.Calls.{left, quantised, concluded}

abbrev carried : {A : Type 0} → Result A Refusal → Answer → Result A Refusal
carried later (Ok t) = later
carried later (Err r) = Err r

refused : {A : Type 0} (later : Result A Refusal) (b x y : Bool) {r : Refusal} → refuse b BadOrder (refuse (not x) BadLength Done) ≡ Err r
    → refuse b BadOrder (refuse (not (x && y)) BadLength later) ≡ Err r
refused later true x y e = ap (carried later) e
refused later false false y e = ap (carried later) e
refused later false true y e = search rules

pub refused_call : (W k : ℕ) (fitted : List Float) (centre : ℕ) (c : Float) (entry : List ℤ) {said : Answer} {r : Refusal}
    → said ≡ refuse (not (order_fits k)) BadOrder (refuse (not (eqb (length fitted) k)) BadLength Done) → said ≡ Err r
    → left (Err r) entry ≡ quantised W k fitted centre c entry
unfolding quantised
refused_call W k fitted centre c entry is e =
    ap (concluded entry) (sym (refused (ok_or (outcome W fitted centre c) NoConfiguration) (not (order_fits k)) (eqb (length fitted) k) (eqb (length entry) k) (rw is at e)))
