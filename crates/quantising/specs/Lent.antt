-- The parts of what a call with lent floats leaves: what it says, and the lent weights at exit; and its two numbers, which are 0 beside a refusal.
use Rattle.std.specs.Prelude.{List, ℕ, Float, ℤ, pos, Result, Ok, Err}
use Rattle.kinds.specs.declared.Refusal.{Refusal}
use Rattle.quantising.specs.declared.Quantised.{Quantised}
use Rattle.quantising.specs.Calls.{quantised}

abbrev pub quantised_from : ℕ → ℕ → List Float → ℕ → Float → List ℤ → Result Quantised Refusal
quantised_from W k fitted centre c entry = (quantised W k fitted centre c entry).said

abbrev pub filled_from : ℕ → ℕ → List Float → ℕ → Float → List ℤ → List ℤ
filled_from W k fitted centre c entry = (quantised W k fitted centre c entry).weights

abbrev pub shift_of : Result Quantised Refusal → ℕ
shift_of (Ok q) = q.shift.0
shift_of (Err r) = 0

abbrev pub bias_of : Result Quantised Refusal → ℤ
bias_of (Ok q) = q.bias
bias_of (Err r) = pos 0
