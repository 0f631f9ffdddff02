-- The library's test is the logic's.
use Rattle.std.proofs.Common.{◌≡◌, sym, ◌∙◌, refl, Bool, true, false, MatchOption}
use Rattle.std.specs.Bool.{then_some}
use Rattle.std.specs.Float.{Float}
use Rattle.std.specs.Float.Ieee.Scale.{finite}
use Rattle.floats.proofs.Patterns.{finite_is}
use Rattle.quantising.proofs.scaling.if_finite.Goals as goal

by_test : (x : Float) (t : Bool) → t ≡ finite x → MatchOption (then_some t x) (finite x ≡ false) (λ (y : Float). (y ≡ x) × (finite x ≡ true))
by_test x true h = (refl, sym h)
by_test x false h = sym h

pub returns : goal.returns
returns c = rw c.then_some.ensures (by_test c.args.x c.is_finite.result (c.is_finite.ensures.value ∙ finite_is c.args.x))
