-- A word as a signed number of 64 bits.
use Rattle.std.specs.Prelude.{Bool, cond, ℕ, zero, suc, ◌^◌, leb, ltb, ℤ, pos, negsuc, Option, Some, None}

-- from -2^63 to 2^63 - 1
abbrev pub fits : Bool → ℕ → Bool
fits negative n = cond negative (leb n (2 ^ 63)) (ltb n (2 ^ 63))

abbrev pub minus : ℕ → ℤ
minus zero = pos 0
minus (suc n) = negsuc n

abbrev pub signed : Bool → ℕ → ℤ
signed negative n = cond negative (minus n) (pos n)

unfoldable pub signed64 : Bool → Option ℕ → Option ℤ
signed64 negative None = None
signed64 negative (Some n) = cond (fits negative n) (Some (signed negative n)) None
