-- What the width W of a sample, in bits, decides.
use Rattle.std.specs.Prelude.{ℕ, ◌-◌, ◌*◌, ◌^◌, ◌<◌, ℤ}
use Rattle.std.specs.Int.Signed.{mag}

-- M, the greatest sample
abbrev pub greatest : ℕ → ℕ
greatest W = 2 ^ W - 1

-- A, the bits of the accumulator
abbrev pub accumulator : ℕ → ℕ
accumulator W = 2 * W

-- MID, the centre
abbrev pub centre : ℕ → ℕ
centre W = 2 ^ (W - 1)

-- the greatest number of a signed accumulator
abbrev pub limit : ℕ → ℕ
limit W = 2 ^ (accumulator W - 1) - 1

-- z lies inside the signed accumulator of the width W; a negative number's magnitude is one less than its absolute value
pub record Inside (W : ℕ) (z : ℤ) : Type 0 where
  pub inside : mag z < 2 ^ (accumulator W - 1)
