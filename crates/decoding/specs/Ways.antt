-- The way that a user's call goes.
use Rattle.std.specs.Prelude.{cond, ℕ, eqb}
use Rattle.calls.specs.declared.Way.{Way}
use Rattle.calls.specs.declared.Way.TheVariants.{General, OrderSix}

abbrev pub quickest : ℕ → Way
quickest k = cond (eqb k 6) OrderSix General
