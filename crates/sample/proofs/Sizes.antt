-- The bytes of a sample: one to four, so a small array of samples has room.
use Rattle.std.proofs.Common.{◌≡◌, refl, sym, ℕ, ◌/◌, ◌^◌, ◌≤◌, ◌<◌, arith}
use Rattle.kinds.specs.Widths.{bits_of}
use Rattle.kinds.specs.declared.Width.{Width}
use Rattle.kinds.specs.declared.Width.TheVariants.{Eight, Sixteen, ThirtyTwo}

bytes_at_most : (width : Width) → bits_of width / 8 ≤ 4
bytes_at_most Eight = omega arith
bytes_at_most Sixteen = omega arith
bytes_at_most ThirtyTwo = omega arith

a_byte : (width : Width) → 0 < bits_of width / 8
a_byte Eight = omega arith
a_byte Sixteen = omega arith
a_byte ThirtyTwo = omega arith

whole_bytes : (width : Width) → 256 ^ (bits_of width / 8) ≡ 2 ^ bits_of width
whole_bytes Eight = refl
whole_bytes Sixteen = refl
whole_bytes ThirtyTwo = refl

pub size_at_most : (width : Width) {W size : ℕ} → bits_of width ≡ W → size ≡ W / 8 → size ≤ 4
size_at_most width is size_is = rw (size_is, sym is) (bytes_at_most width)

pub some_bytes : (width : Width) {W : ℕ} → bits_of width ≡ W → 0 < W / 8
some_bytes width is = rw (← is) (a_byte width)

-- a sample's numbers are those of its bytes
pub bytes_bits : (width : Width) {W : ℕ} → bits_of width ≡ W → 256 ^ (W / 8) ≡ 2 ^ W
bytes_bits width is = rw (← is) (whole_bytes width)
