-- The widths by the names of their functions, and the configuration that a call's plain numbers stand for.
use Rattle.std.specs.Prelude.{List, ℕ, ℤ}
use Rattle.rule.specs.Configuration.{Config}

abbrev pub W_8 : ℕ
W_8 = 8

abbrev pub W_16 : ℕ
W_16 = 16

abbrev pub W_32 : ℕ
W_32 = 32

abbrev pub given : ℕ → ℕ → ℤ → List ℤ → Config
given order shift bias weights = record { order = order; shift = shift; bias = bias; weights = weights }
