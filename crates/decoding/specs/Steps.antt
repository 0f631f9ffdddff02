-- What the steps of decoding lean on and leave, whichever way decodes.
use Rattle.std.specs.Prelude.{◌≡◌, List, ℕ, length}
use Rattle.rule.specs.Configuration.{Config}
use Rattle.rule.specs.Prediction.{prediction, Ready}
use Rattle.rule.specs.Coding.{decoded_piece, new_state}

-- the tests have passed, and the state has a sample for each of the k weights
pub record Startable (W : ℕ) (c : Config) (state : List ℕ) : Type 0 where
  pub ready : Ready W c
  pub full : length state ≡ c.order

-- from the state and the residuals: the outputs, and the state for what follows
pub record Decodes (W : ℕ) (c : Config) (state residuals outputs next : List ℕ) : Type 0 where
  pub outputs_are : outputs ≡ decoded_piece W c.order (prediction W c) state residuals
  pub next_is : next ≡ new_state W c.order (prediction W c) state residuals
