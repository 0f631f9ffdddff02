-- What a call of quantising says and leaves: tests 1, 4 and 6 in this order. Beside a refusal the lent weights are as they were.
use Rattle.std.specs.Prelude.{not, ◌&&◌, List, ℕ, eqb, Float, ℤ, length, take, Result, Ok, Err, ok_or}
use Rattle.kinds.specs.declared.Refusal.{Refusal}
use Rattle.kinds.specs.declared.Refusal.TheVariants.{BadOrder, BadLength, NoConfiguration}
use Rattle.kinds.specs.Answers.{refuse}
use Rattle.rule.specs.Refusals.{order_fits}
use Rattle.quantising.specs.declared.Fitted.{Fitted}
use Rattle.quantising.specs.declared.Quantised.{Quantised}
use Rattle.quantising.specs.Steps.{Found, outcome}

-- what a call says, with the lent weights at exit
pub record Leaves : Type 0 where
  pub said : Result Quantised Refusal
  pub weights : List ℤ

abbrev pub left : Result Quantised Refusal → List ℤ → Leaves
left said weights = record { said = said; weights = weights }

-- tests 1 and 4: k is the order, `given` the number of fitted weights, and `places` that of the lent places
abbrev pub tested : {A : Type 0} → ℕ → ℕ → ℕ → Result A Refusal → Result A Refusal
tested k given places later = refuse (not (order_fits k)) BadOrder (refuse (not (eqb given k && eqb places k)) BadLength later)

-- the weights that were found fill the lent slice `entry`
abbrev pub concluded : List ℤ → Result Found Refusal → Leaves
concluded entry (Ok f) = left (Ok (record { shift = f.shift; bias = f.bias })) f.weights
concluded entry (Err r) = left (Err r) entry

-- a call with the list of fitted weights and the centred bias c; the last test is that the six steps come to a configuration
unfoldable pub quantised : ℕ → ℕ → List Float → ℕ → Float → List ℤ → Leaves
quantised W k fitted centre c entry =
    concluded entry (tested k (length fitted) (length entry) (ok_or (outcome W fitted centre c) NoConfiguration))

-- a call with fitted weights by value, in the first k places of their array
abbrev pub quantised_fitted : ℕ → Fitted → ℕ → List ℤ → Leaves
quantised_fitted W f centre entry = quantised W f.order.0 (take f.order.0 f.weights) centre f.bias entry
