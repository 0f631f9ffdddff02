-- The accumulator rule and the prediction, in whole numbers over the width W.
use Rattle.std.specs.Prelude.{◌≡◌, Bool, true, List, [], ◌∷◌, ℕ, ◌+◌, ◌*◌, ◌/◌, ◌%◌, ◌^◌, ◌≤◌, ◌<◌, leb, ℤ, pos, negsuc, nat_abs, ◌+ℤ◌, ◌*ℤ◌, length}
use Rattle.rule.specs.Numbers.{greatest, accumulator, limit}
use Rattle.rule.specs.Configuration.{Config}

-- the sum of the absolute weights
abbrev pub sum_abs : List ℤ → ℕ
sum_abs [] = 0
sum_abs (w ∷ ws) = nat_abs w + sum_abs ws

-- |bias| + M · Σ |weight| ≤ 2^(A-1)-1
unfoldable pub admitted : ℕ → ℤ → List ℤ → Bool
admitted W bias ws = leb (nat_abs bias + greatest W * sum_abs ws) (limit W)

-- s plus each weight times its sample, the oldest sample first
abbrev pub sum_at : ℤ → List ℤ → List ℕ → ℤ
sum_at s [] xs = s
sum_at s (w ∷ ws) [] = s
sum_at s (w ∷ ws) (x ∷ xs) = sum_at (s +ℤ w *ℤ pos x) ws xs

-- a negative sum becomes 0
abbrev pub clamped : ℤ → ℕ
clamped (pos n) = n
clamped (negsuc n) = 0

-- what becomes of a sum: clamped, divided by 2^q rounding down, reduced modulo 2^W
unfoldable pub settle : ℕ → ℕ → ℤ → ℕ
settle W q s = clamped s / 2 ^ q % 2 ^ W

-- the prediction that a configuration makes from a window of k samples
unfoldable pub prediction : ℕ → Config → List ℕ → ℕ
prediction W c window = settle W c.shift (sum_at c.bias c.weights window)

-- what coding leans on, once a call's tests have passed
pub record Ready (W : ℕ) (c : Config) : Type 0 where
  pub some : 1 ≤ c.order
  pub few : c.order ≤ 32
  pub shift : c.shift < accumulator W
  pub weights : length c.weights ≡ c.order
  pub admits : admitted W c.bias c.weights ≡ true
