-- A configuration: the order k, the shift q, the bias, and the weights, of which there are k, the oldest sample's first.
use Rattle.std.specs.Prelude.{List, ℕ, ℤ, length}
use Rattle.kinds.specs.declared.Order.{Order}
use Rattle.kinds.specs.declared.Shift.{Shift}
use Rattle.kinds.specs.declared.Configuration.{Configuration}

pub record Config : Type 0 where
  pub order : ℕ
  pub shift : ℕ
  pub bias : ℤ
  pub weights : List ℤ

-- as a call is given it
abbrev pub config : Order → Shift → ℤ → List ℤ → Config
config order shift bias weights = record { order = order.0; shift = shift.0; bias = bias; weights = weights }

abbrev pub given : Configuration ℤ → Config
given c = config c.order c.shift c.bias c.weights.now

-- as a step holds it, whose order is the number of its weights
abbrev pub held : Shift → ℤ → List ℤ → Config
held shift bias weights = record { order = length weights; shift = shift.0; bias = bias; weights = weights }
