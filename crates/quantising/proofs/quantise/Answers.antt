-- The tests in their order, and the slice filled after the last of them.
use Rattle.std.proofs.Common.{◌≡◌, sym, ap, ◌∙◌, subst, List, ℕ, None, Result, Ok, Err, arith, rules, length, take}
use Rattle.std.proofs.Math.Seq.{length-take-le}
use Rattle.std.proofs.lemmas.Result.{err_from_is_err_and}
use Rattle.std.specs.Float.{Float}
use Rattle.kinds.specs.declared.Refusal.{Refusal}
use Rattle.kinds.specs.Widths.{bits_of}
use Rattle.quantising.specs.Steps.{found, outcome}
use Rattle.quantising.specs.Calls.{left}
use Rattle.quantising.proofs.Calling.{Passed, passed, places_refused, nothing_found, configured}
use Rattle.quantising.proofs.quantise.Goals as goal

same_err : {A : Type 0} (r s : Refusal) → ◌≡◌ {A = Result A Refusal} (Err r) (Err s) → r ≡ s
same_err r s h = cc

-- an array of 32 has as many first places as the order says
given_holds : (k n : ℕ) (weights : List Float) → Passed k n → length weights ≡ 32 → length (take k weights) ≡ k
given_holds k n weights p e = length-take-le k weights (omega (arith, p.count, p.few))

pub returns-in_err-fitted_answer : goal.returns-in_err-fitted_answer
returns-in_err-fitted_answer c =
    let p = err_from_is_err_and c.from_residual.result c.from_residual.ensures.1 in
    rw (p.1, p.2) (places_refused _ _ _ _ _ _ _ (sym c.in_err-fitted_answer.ensures))

pub returns-in_err-found : goal.returns-in_err-found
returns-in_err-found c =
    let f = c.args.fitted in
    let p = err_from_is_err_and c.from_residual-in_err-found.result c.from_residual-in_err-found.ensures.1 in
    let is = same_err _ _ (rw c.in_err-found.ensures.ok_part at c.in_err-found.ensures.value) in
    let none = rw c.in_err-found.ensures.ok_part at c.configure.ensures in
    let done = sym c.in_ok-fitted_answer.ensures in
    let t = passed f.order.0 (length c.args.weights.now) done in
    let places : length f.weights ≡ 32 = search rules in
    rw (p.1, p.2, is)
    (nothing_found _ _ _ _ _ _ (given_holds _ _ f.weights t places) done
    (subst (λ (n : ℕ). outcome (bits_of c.args.width) (take n f.weights) c.args.centre f.bias ≡ None) t.count none))

pub returns : goal.returns
returns c =
    let f = c.args.fitted in
    let r = c.in_ok-found.found in
    let steps = rw c.in_ok-found.ensures.ok_part at c.configure.ensures in
    let done = sym c.in_ok-fitted_answer.ensures in
    let t = passed f.order.0 (length c.args.weights.now) done in
    let places : length f.weights ≡ 32 = search rules in
    ap (left (Ok r.quantised)) c.copy_from_slice.ensures.after
    ∙ configured _ _ _ _ _ _ (given_holds _ _ f.weights t places) done r.quantised _
    (subst (λ (n : ℕ). outcome (bits_of c.args.width) (take n f.weights) c.args.centre f.bias ≡ found r.quantised.shift r.quantised.bias (take (length (take (length c.args.weights.now) f.weights)) r.weights)) t.count steps)
