-- The sum begins at 0.0.
use Rattle.std.proofs.Common.{rules, ◌≡◌, ap, ◌∙◌}
use Rattle.std.proofs.lemmas.Iterator.{YieldsList-from_slice}
use Rattle.std.proofs.lemmas.Iterator.Consumers.{fold_from_yields_List}
use Rattle.std.specs.Float.{Float, binary64}
use Rattle.std.specs.Float.Ieee.{of_bits}
use Rattle.floats.specs.Values.{magnitude}
use Rattle.quantising.specs.Scale.{◌⊕◌, abs_sum_from}
use Rattle.quantising.specs.Scale as definition
use Rattle.quantising.proofs.Constants.{zero_is}
use Rattle.quantising.proofs.scaling.abs_total.Goals as goal

pub returns : goal.returns
unfolding definition.abs_total
returns c =
    let ws = c.args.weights.now in
    let added : c.fold.result ≡ abs_sum_from (of_bits binary64 0) ws =
    fold_from_yields_List _ (λ (t w : Float). t ⊕ magnitude w) _ _ c.fold.ensures.ran (YieldsList-from_slice ws c.iter.ensures.rest) (λ a x b q k. search rules) in
    added ∙ ap (λ (t : Float). abs_sum_from t ws) zero_is
