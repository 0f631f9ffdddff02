-- The lent weights and the record's array of 32. Assumes nothing.
use mathlib.Core.Path.{◌≡◌, refl, ap}
use mathlib.Core.Bool.{Bool, true, false, not}
use Prim.Native.Nat.{ℕ, ◌≤◌}
use native.Mathlib.Omega.{arith}
use borrow.Author.Tests.{eqb-true}
use lib.Dec.{eqb}
use Rattle.kinds.specs.Answers.{Answer, Done, refuse}
use Rattle.kinds.specs.declared.Refusal.TheVariants.{BadOrder, BadLength}
use Rattle.record.proofs.Refusals.{order_range}
use Rattle.rule.specs.Refusals.{order_fits}
use Rattle.record_numbers.specs.declared.numbers.Numbers.{Numbers}
use Rattle.record_numbers.specs.Refusals.{conv1_refusal, numbers_refusal}

conv1_few : (order k : ℕ) → conv1_refusal order k ≡ Done → k ≤ 32
conv1_few order k = go (order_fits order) refl (eqb k order) refl
  where
    go : (a : Bool) → order_fits order ≡ a → (b : Bool) → eqb k order ≡ b → ◌≡◌ {A = Answer} (refuse (not a) BadOrder (refuse (not b) BadLength Done)) Done → k ≤ 32
    go false f b l h = absurd (let z : ◌≡◌ {A = ℕ} 0 1 = cc in omega arith)
    go true f false l h = absurd (let z : ◌≡◌ {A = ℕ} 0 1 = cc in omega arith)
    go true f true l h = omega (arith, eqb-true k order l, (order_range order (ap not f)).1)

-- the weights of a Conv1 that passed its tests fit the array
pub few : (n : Numbers) (k : ℕ) → numbers_refusal n k ≡ Done → n.variant ≡ 3 → k ≤ 32
unfolding numbers_refusal
few n k h e = conv1_few n.order.0 k (rw e at h)
