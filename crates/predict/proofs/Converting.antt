-- A configuration's numbers at the accumulator's width, once its tests have passed. Assumes nothing.
use mathlib.Core.Path.{◌≡◌}
use mathlib.Core.List.{List, ◌++◌}
use Prim.Native.Nat.{ℕ, ◌-◌, ◌≤◌}
use lib.IntN.{ℤ, pos}
use lib.ListN.{length, take, replicate}
use lib.Seq.{take_at}
use mir.Facts.{to_z-of_z}
use mir.Syntax.{Width}
use mir.Val.{hbits, to_z, of_z}
use Rattle.kinds.specs.declared.Order.{Order}
use Rattle.kinds.specs.declared.Shift.{Shift}
use Rattle.rule.specs.Numbers.{accumulator}
use Rattle.rule.specs.Configuration.{Config, config, held}
use Rattle.rule.specs.Prediction.{Ready}
use Rattle.rule.proofs.Sums.{size_inside, bias_inside, fits}

-- the bias comes back from its bits
pub bias_back : {W : ℕ} {c : Config} → Ready W c → (w : Width) → accumulator W - 1 ≤ hbits w → to_z w (of_z w c.bias) ≡ c.bias
bias_back {W} {c} r w h = to_z-of_z (fits h (size_inside (bias_inside W c.bias c.weights r.admits)))

-- the first k places of the array are the weights
pub weights_held : {W : ℕ} {c : Config} → Ready W c → {wide : List ℤ} → wide ≡ c.weights ++ replicate (32 - length c.weights) (pos 0)
    → take c.order wide ≡ c.weights
weights_held {c = c} r is = rw is (take_at c.weights (replicate (32 - length c.weights) (pos 0)) c.order r.weights)

-- what a step holds is what the call was given, if the order is the number of the weights
pub held_is : (order : Order) (shift : Shift) {bias given : ℤ} (ws : List ℤ) → bias ≡ given → length ws ≡ order.0
    → held shift bias ws ≡ config order shift given ws
held_is order shift ws same long = λ i. record { order = long i; shift = shift.0; bias = same i; weights = ws }
