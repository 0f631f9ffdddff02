-- A batch of samples, as `Batches` says it of their numbers.
use Rattle.std.proofs.Common.{◌≡◌, List, ℕ, ◌-◌, ◌≤◌, length, take, drop, map, arith}
use borrow.Rule.Slice.PartMut.{put_mid}
use Rattle.rule.specs.Configuration.{Config}
use Rattle.rule.specs.Prediction.{prediction}
use Rattle.sample.proofs.Numbers.{numbers-length, numbers-part, numbers-put_mid}
use Rattle.decoding.specs.Steps.{Decodes}
use Rattle.decoding.proofs.Batches as batches

module _ {A : Type 0} {number : A → ℕ} {numbers : List A → List ℕ} (are : (xs : List A) → numbers xs ≡ map number xs) (W : ℕ) (c : Config) where
  pub turn : {state₀ residuals₀ state next residuals outputs : List A} {start : ℕ} (end last : ℕ) → length (numbers state₀) ≡ c.order
      → batches.Going W c.order (prediction W c) (numbers state₀) (numbers residuals₀) (numbers state) (numbers residuals) start
      → start ≤ end → end ≤ length residuals₀ → last ≡ end
      → Decodes W c (numbers state) (numbers (take (end - start) (drop start residuals))) (numbers outputs) (numbers next)
      → batches.Going W c.order (prediction W c) (numbers state₀) (numbers residuals₀) (numbers next) (numbers (put_mid start (end - start) residuals outputs)) last
  turn {state₀} {residuals₀} {state} {next} {residuals} {outputs} {start} end last full g past within same d =
      rw (same, numbers-put_mid are start (end - start) residuals outputs) (
      batches.turn W c.order (prediction W c) (numbers state₀) (numbers residuals₀) full g end (numbers outputs) (numbers next) past (rw (numbers-length are residuals₀) within)
      (rw (numbers-part are (end - start) start residuals) at d.outputs_are) (rw (numbers-part are (end - start) start residuals) at d.next_is)
      )

  -- at the end all are decoded
  pub done : {state₀ residuals₀ state residuals : List A} {start : ℕ} → length (numbers state₀) ≡ c.order
      → batches.Going W c.order (prediction W c) (numbers state₀) (numbers residuals₀) (numbers state) (numbers residuals) start → length residuals₀ ≤ start
      → Decodes W c (numbers state₀) (numbers residuals₀) (numbers residuals) (numbers state)
  done {state₀} {residuals₀} full g past =
      let t = batches.ended W c.order (prediction W c) (numbers state₀) (numbers residuals₀) full g (omega (arith, g.same, numbers-length are residuals₀)) in
      record { outputs_are = t.0; next_is = t.1 }
