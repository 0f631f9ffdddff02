-- Paying m times each absolute weight out of a budget, weight by weight, answers whether the whole can be paid.
-- Assumes nothing.
use mathlib.Core.Path.{◌≡◌, refl, sym, ap, ◌∙◌}
use mathlib.Core.Bool.{Bool, true, false}
use mathlib.Core.List.{List}
use Prim.Native.Nat.{ℕ, ◌+◌, ◌-◌, ◌*◌, ◌≤◌, ◌<◌}
use native.Mathlib.Nat.{mul-add}
use native.Mathlib.Numerals.{add-one}
use native.Mathlib.Omega.{arith}
use borrow.Author.Tests.{leb-true, leb-false, le-leb, lt-leb}
use lib.Dec.{leb}
use lib.IntN.{ℤ, pos, nat_abs}
use lib.ListN.{length, get_or, drop}
use lib.Seq.{drop-cons}
use Rattle.rule.specs.Numbers.{greatest, limit}
use Rattle.rule.specs.Prediction.{sum_abs, admitted}

leb_same : (a b c d : ℕ) → (a ≤ b → c ≤ d) → (b < a → d < c) → leb a b ≡ leb c d
leb_same a b c d f g = go (leb a b) refl
  where
    go : (t : Bool) → leb a b ≡ t → leb a b ≡ leb c d
    go true e = e ∙ sym (le-leb c d (f (leb-true a b e)))
    go false e = e ∙ sym (lt-leb c d (g (leb-false a b e)))

pub next_weight : (ws : List ℤ) (i : ℕ) → i < length ws → sum_abs (drop i ws) ≡ nat_abs (get_or ws i (pos 0)) + sum_abs (drop (i + 1) ws)
next_weight ws i h = rw (add-one, drop-cons ws i (pos 0))

-- a turn: the weight at i costs m * z, and is paid
pub turn : (m : ℕ) (ws : List ℤ) (i : ℕ) {left z : ℕ} → i < length ws → z ≡ nat_abs (get_or ws i (pos 0)) → m * z ≤ left
    → leb (m * sum_abs (drop (i + 1) ws)) (left - m * z) ≡ leb (m * sum_abs (drop i ws)) left
turn m ws i {left} {z} h e k =
    let r = sum_abs (drop (i + 1) ws) in
    leb_same (m * r) (left - m * z) (m * (z + r)) left (λ p. omega (arith, mul-add m z r)) (λ p. omega (arith, mul-add m z r))
    ∙ ap (λ (n : ℕ). leb (m * n) left) (ap (λ (n : ℕ). n + r) e ∙ sym (next_weight ws i h))

-- the rule, with the absolute bias spent first
module _ (W : ℕ) (bias : ℤ) (ws : List ℤ) where
  pub bias_spent : nat_abs bias ≤ limit W → leb (greatest W * sum_abs ws) (limit W - nat_abs bias) ≡ admitted W bias ws
  unfolding admitted
  bias_spent h =
      leb_same (greatest W * sum_abs ws) (limit W - nat_abs bias) (nat_abs bias + greatest W * sum_abs ws) (limit W) (λ k. omega arith) (λ k. omega arith)

  pub bias_over : limit W < nat_abs bias → false ≡ admitted W bias ws
  unfolding admitted
  bias_over h = sym (lt-leb (nat_abs bias + greatest W * sum_abs ws) (limit W) (omega arith))
