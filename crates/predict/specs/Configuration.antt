-- The configuration that the code's struct holds: its weights stand in the first k places.
use Rattle.std.specs.Prelude.{ℤ, map, take}
use Rattle.rule.specs.Configuration as rule
use Rattle.predict.specs.declared.config.Config.{Config}

abbrev pub config_of : {C : Type 0} → (C → ℤ) → Config C → rule.Config
config_of integer c = rule.config c.order c.shift (integer c.bias) (map integer (take c.order.0 c.weights))
