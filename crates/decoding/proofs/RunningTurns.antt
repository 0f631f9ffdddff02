-- A turn of the order-6 loop, over the width W: its sample is predicted from the first running sum. Assumes nothing.
use mathlib.Core.Path.{◌≡◌, ap, ◌∙◌}
use mathlib.Core.List.{List}
use Prim.Native.Nat.{ℕ, ◌+◌, ◌%◌, ◌^◌, ◌<◌}
use native.Mathlib.Omega.{arith}
use lib.IntN.{ℤ, pos}
use lib.ListN.{length, get_or, set}
use Rattle.kinds.specs.declared.Shift.{Shift}
use Rattle.rule.specs.Configuration.{held}
use Rattle.rule.specs.Prediction.{settle, prediction}
use Rattle.decoding.proofs.Batches as batches
use Rattle.decoding.proofs.Turning as turning
use Rattle.decoding.specs.Running.{Runs, shifted}
use Rattle.decoding.proofs.Running as running

module _ (q : Shift) {W : ℕ} {bias : ℤ} {ws : List ℤ} {xs : List ℕ} {ns : List ℤ} (r : Runs W bias ws xs ns) where
  predicted : settle W q.0 (get_or ns 0 (pos 0)) ≡ prediction W (held q bias ws) xs
  unfolding prediction
  predicted = ap (settle W q.0) (running.sum_at_lem r 0)

  -- the sample y that is put on the prediction z, which is settled from the sum n, comes into the known samples
  pub turn : (state₀ residuals₀ residuals : List ℕ) (i : ℕ) {y z : ℕ} {n : ℤ} {next : List ℕ} → length state₀ ≡ length ws
      → batches.Going W (length ws) (prediction W (held q bias ws)) state₀ residuals₀ xs (turning.mixed W i residuals) i
      → i < length residuals → n ≡ get_or ns 0 (pos 0) → z ≡ settle W q.0 n → y ≡ (get_or residuals i 0 + z) % 2 ^ W → next ≡ shifted xs y
      → batches.Going W (length ws) (prediction W (held q bias ws)) state₀ residuals₀ next (turning.mixed W (i + 1) (set residuals i (get_or xs 0 0))) (i + 1)
  turn state₀ residuals₀ residuals i {y} full₀ g within is settled put slid =
      rw slid
      (turning.turn W (length ws) (prediction W (held q bias ws)) (omega (arith, r.weights)) state₀ residuals₀ full₀ xs residuals i y g within
      (put ∙ ap (λ (v : ℕ). (get_or residuals i 0 + v) % 2 ^ W) (settled ∙ ap (settle W q.0) is ∙ predicted)))
