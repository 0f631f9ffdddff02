-- What holds once the tests of a way have passed, and that the quicker way may be asked for. Assumes nothing.
use Rattle.std.specs.Prelude.{is_ok}
use mathlib.Core.Path.{◌≡◌, refl}
use mathlib.Core.Bool.{Bool, true, false, cond}
use Prim.Native.Nat.{ℕ}
use borrow.Author.Tests.{eqb-true}
use lib.Dec.{eqb}
use Rattle.rule.specs.Configuration.{Config}
use Rattle.rule.specs.Prediction.{Ready}
use Rattle.rule.proofs.Passing.{coding_passed, order_six_passed}
use Rattle.calls.specs.declared.Way.{Way}
use Rattle.calls.specs.declared.Way.TheVariants.{General, OrderSix}
use Rattle.calls.specs.Decode.{refusal_by}
use Rattle.calls.specs.Pieces.{Fits}
use Rattle.decoding.specs.Ways.{quickest}

pub way_passed : (W : ℕ) (c : Config) (way : Way) (state : ℕ) → is_ok (refusal_by way W c state) ≡ true → (Ready W c × (state ≡ c.order)) × Fits c way
way_passed W c General state h = (coding_passed W c state h, tt)
way_passed W c OrderSix state h = let p = order_six_passed W c state h in (p.1, p.0)

pub quickest_fits : (c : Config) → Fits c (quickest c.order)
quickest_fits c = go (eqb c.order 6) refl
  where
    go : (d : Bool) → eqb c.order 6 ≡ d → Fits c (cond d OrderSix General)
    go true e = eqb-true c.order 6 e
    go false e = tt
