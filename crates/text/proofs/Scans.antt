-- One step of the scan for a number: what the definition says at a place that holds a byte. Assumes nothing.
use Rattle.std.proofs.Common.{◌≡◌, ap, ℕ, ◌+◌, ◌<◌, List, ◌∷◌, length, get_or, drop, add-one, drop-cons}
use Rattle.std.specs.Prelude.{option_and_then}
use Rattle.text.specs.Words.{with_digit, number_after}

pub number_step : (text : List ℕ) (i v : ℕ) → i < length text → number_after v (drop i text) ≡ option_and_then (λ w. number_after w (drop (i + 1) text)) (with_digit v (get_or text i 0))
unfolding number_after
number_step text i v h =
    let rest : drop i text ≡ get_or text i 0 ∷ drop (i + 1) text = rw (add-one, drop-cons text i 0) in
    ap (number_after v) rest
