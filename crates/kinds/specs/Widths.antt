-- The widths, as the number W of bits in a sample.
use Rattle.std.specs.Prelude.{ℕ}
use Rattle.kinds.specs.declared.Width.{Width}
use Rattle.kinds.specs.declared.Width.TheVariants.{Eight, Sixteen, ThirtyTwo}

abbrev pub bits_of : Width → ℕ
bits_of Eight = 8
bits_of Sixteen = 16
bits_of ThirtyTwo = 32
