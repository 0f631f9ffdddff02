-- The integer that a float is taken to. A finite value's size is the fraction num / den of lib.Ieee.Positive, exactly.
use Rattle.std.specs.Prelude.{Bool, true, false, cond, ◌&&◌, ℕ, ◌+◌, ◌-◌, ◌*◌, ◌/◌, ◌^◌, ℤ, pos, negsuc, neg_ℤ, ltb, Option, Some, None}
use lib.Ieee.{Float}
use Rattle.std.specs.Float.Ieee.Scale.{finite}
use Rattle.std.specs.Float.Ieee.Positive.{num, den}
use Rattle.floats.specs.Values.{is_negative}

-- the integer nearest to a / c, the greater of two that are as near
abbrev pub half_up : ℕ → ℕ → ℕ
half_up a c = (2 * a + c) / (2 * c)

abbrev pub signed : Bool → ℕ → ℤ
signed true n = neg_ℤ (pos n)
signed false n = pos n

-- the integer nearest to x, halves away from zero
unfoldable pub rounded_of : Float → ℤ
rounded_of x = signed (is_negative x) (half_up (num x) (den x))

-- x cut toward zero
unfoldable pub cut_of : Float → ℤ
cut_of x = signed (is_negative x) (num x / den x)

-- z is a signed integer of that many bits; negsuc n is -1 - n
abbrev pub in_bits : ℕ → ℤ → Bool
in_bits bits (pos n) = ltb n (2 ^ (bits - 1))
in_bits bits (negsuc n) = ltb n (2 ^ (bits - 1))

-- the integer z that x was taken to: a NaN or an infinity has none, and it may be outside those bits
abbrev pub holds : ℕ → Float → ℤ → Bool
holds bits x z = finite x && in_bits bits z

unfoldable pub held : ℕ → Float → ℤ → Option ℤ
held bits x z = cond (holds bits x z) (Some z) None
