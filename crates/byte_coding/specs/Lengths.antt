-- What the lengths of byte slices decide.
use Rattle.std.specs.Prelude.{◌≡◌, not, ◌&&◌, List, ℕ, ◌+◌, ◌*◌, ◌/◌, ◌%◌, ◌≤◌, eqb, length}
use Rattle.kinds.specs.declared.Refusal.TheVariants.{BadOrder, BadShift, BadLength}
use Rattle.kinds.specs.Answers.{Answer, Done, refuse}
use Rattle.rule.specs.Refusals.{order_fits, shift_fits}
use Rattle.calls.specs.declared.Way.{Way}
use Rattle.calls.specs.declared.Way.TheVariants.{General, OrderSix}

-- bytes that divide into samples of W bits
pub record Entire (W : ℕ) (bytes : List ℕ) : Type 0 where
  pub entire : length bytes ≡ W / 8 * (length bytes / (W / 8))

-- a chunk to encode: the samples from `start` on, at most 512
pub record Chunk (W start : ℕ) (bytes : List ℕ) : Type 0 where
  pub entire : length bytes ≡ W / 8 * (length bytes / (W / 8))
  pub begins : start ≤ length bytes / (W / 8)
  pub short : length bytes / (W / 8) ≤ start + 512

-- the tests that need no weight: 1, 2, and what of 4 the lengths in bytes decide
unfoldable pub layout_refusal : ℕ → ℕ → ℕ → ℕ → ℕ → ℕ → Answer
layout_refusal W order shift weights state samples =
    refuse (not (order_fits order)) BadOrder
    (refuse (not (shift_fits W shift)) BadShift
    (refuse (not (eqb (weights % 4) 0 && (eqb (state % (W / 8)) 0 && eqb (samples % (W / 8)) 0))) BadLength
    (refuse (not (eqb (weights / 4) order)) BadLength Done)))

-- the same where a way is asked for
unfoldable pub layout_by : Way → ℕ → ℕ → ℕ → ℕ → ℕ → ℕ → Answer
layout_by General W order shift weights state samples = layout_refusal W order shift weights state samples
layout_by OrderSix W order shift weights state samples = refuse (not (eqb order 6)) BadOrder (layout_refusal W order shift weights state samples)
