-- The six running sums of the order-6 way: what the next six predictions have of the samples xs that are known, the oldest first.
use Rattle.std.specs.Prelude.{◌≡◌, true, List, [], ◌∷◌, ◌++◌, ℕ, ◌^◌, ◌<◌, ℤ, length, get_or, take, drop}
use Rattle.rule.specs.Prediction.{admitted, sum_at}

abbrev pub six : {A : Type 0} → A → A → A → A → A → A → List A
six a b c d e f = a ∷ b ∷ c ∷ d ∷ e ∷ f ∷ []

-- the first is whole; each one after it lacks one sample more, and so the terms of one weight more
abbrev pub running_sums : ℤ → List ℤ → List ℕ → List ℤ
running_sums bias ws xs =
    six (sum_at bias ws xs)
    (sum_at bias (take 5 ws) (drop 1 xs))
    (sum_at bias (take 4 ws) (drop 2 xs))
    (sum_at bias (take 3 ws) (drop 3 xs))
    (sum_at bias (take 2 ws) (drop 4 xs))
    (sum_at bias (take 1 ws) (drop 5 xs))

-- ns are the running sums over the six samples xs of W bits, with six weights that are admitted
pub record Runs (W : ℕ) (bias : ℤ) (ws : List ℤ) (xs : List ℕ) (ns : List ℤ) : Type 0 where
  pub weights : length ws ≡ 6
  pub samples : length xs ≡ 6
  pub admits : admitted W bias ws ≡ true
  pub below : (i : ℕ) → get_or xs i 0 < 2 ^ W
  pub sums : ns ≡ running_sums bias ws xs

-- the oldest sample goes and y comes
abbrev pub shifted : List ℕ → ℕ → List ℕ
shifted xs y = drop 1 xs ++ y ∷ []
