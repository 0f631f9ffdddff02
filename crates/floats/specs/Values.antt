-- What a binary64 value is made of. A finite value's size is the fraction num / den of lib.Ieee.Positive, exactly.
use Rattle.std.specs.Prelude.{Bool, false, ℕ, ◌*◌, ◌/◌, ◌^◌, ◌<◌, ◌≤◌, ℤ}
use lib.Ieee.{Float, nan, inf, fin, minus, size}
use Rattle.std.specs.Float.{float_with_sign}
use Rattle.std.specs.Float.Ieee.Exact.{HasValue}
use Rattle.std.specs.Float.Ieee.Positive.{num, den}

-- the same without its sign
abbrev pub magnitude : Float → Float
magnitude x = float_with_sign false x

-- below 2 ^ 53, and with all 53 digits where they are shifted
pub record Digits (digits shift : ℕ) : Type 0 where
  pub few : digits < 2 ^ 53
  pub full : 0 < shift → 2 ^ 52 ≤ digits

-- x has that sign, and is digits * 2 ^ shift / 2 ^ 1074 in size
pub record Unpacked (x : Float) (negative : Bool) (digits shift : ℕ) : Type 0 where
  pub value : HasValue x negative (digits * 2 ^ shift) (2 ^ 1074)
  pub held : Digits digits shift
  pub bound : shift ≤ 2045

-- the greatest e with 2 ^ e not above x, for an x above zero: its size in units of 2 ^ -1074 has e + 1075 binary digits
unfoldable pub exponent_of : Float → ℤ
exponent_of x = minus (size (num x * 2 ^ 1074 / den x)) 1075

abbrev pub is_negative : Float → Bool
is_negative nan = false
is_negative (inf s) = s
is_negative (fin s m e) = s
