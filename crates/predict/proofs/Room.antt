-- A configuration takes few bytes, at each width. Assumes nothing.
use Rattle.std.proofs.Common.{◌≡◌, sym, ℕ, ◌+◌, ◌*◌, ◌/◌, ◌<◌, max, arith}
use prog.Memory.{up}
use Rattle.kinds.specs.Widths.{bits_of}
use Rattle.kinds.specs.declared.Width.{Width}
use Rattle.kinds.specs.declared.Width.TheVariants.{Eight, Sixteen, ThirtyTwo}

-- at an accumulator of n bytes, whose place is a multiple of a: the order, the shift, the bias and the weights
abbrev bytes : ℕ → ℕ → ℕ
bytes a n = up (max 8 (max 4 (max a (max a 1)))) (up a (up a 12 + n) + 32 * n)

few : (width : Width) → bytes (bits_of width / 4) (bits_of width / 4) < 9223372036854775808
few Eight = omega arith
few Sixteen = omega arith
few ThirtyTwo = omega arith

pub room : (width : Width) {W a n : ℕ} → bits_of width ≡ W → n ≡ W / 4 → a ≡ W / 4 → bytes a n < 9223372036854775808
room width is size_is align_is = rw (size_is, align_is, sym is) (few width)
