-- Bit fields of a byte list. Bit 0 is the least significant bit of the first byte, bit 8 that of the second.
use Rattle.std.specs.Prelude.{Bool, cond, ◌&&◌, List, ℕ, zero, suc, ◌+◌, ◌*◌, ◌/◌, ◌%◌, ◌^◌, leb, length, get_or, set, Option, None, Some}

-- bit p of a number
abbrev pub bit_of : ℕ → ℕ → ℕ
bit_of n p = n / 2 ^ p % 2

-- a byte with bit p replaced: the bits below it, x, the bits above it
abbrev pub replaced : ℕ → ℕ → ℕ → ℕ
replaced byte p x = byte % 2 ^ p + x * 2 ^ p + byte / 2 ^ (p + 1) * 2 ^ (p + 1)

-- bit i of a byte list
abbrev pub bit_at : List ℕ → ℕ → ℕ
bit_at bytes i = bit_of (get_or bytes (i / 8) 0) (i % 8)

-- a byte list with bit i replaced; past the end there is none to replace
abbrev pub with_bit : List ℕ → ℕ → ℕ → List ℕ
with_bit bytes i x = set bytes (i / 8) (replaced (get_or bytes (i / 8) 0) (i % 8) x)

-- the number in the `width` bits at bit place `at`
unfoldable pub field_at : List ℕ → ℕ → ℕ → ℕ
field_at bytes at zero = 0
field_at bytes at (suc width) = field_at bytes at width + bit_at bytes (at + width) * 2 ^ width

-- the byte list with those bits replaced by the low bits of a value
unfoldable pub with_field : List ℕ → ℕ → ℕ → ℕ → List ℕ
with_field bytes at zero value = bytes
with_field bytes at (suc width) value = with_bit (with_field bytes at width value) (at + width) (bit_of value width)

-- the bytes hold every bit of the field
abbrev pub holds : List ℕ → ℕ → ℕ → Bool
holds bytes at width = leb (at + width) (8 * length bytes)

-- what reading a field gives: nothing where the bytes end before or inside it, or where it is wider than 64 bits
unfoldable pub found : List ℕ → ℕ → ℕ → Option ℕ
found bytes at width = cond (leb width 64 && holds bytes at width) (Some (field_at bytes at width)) None
