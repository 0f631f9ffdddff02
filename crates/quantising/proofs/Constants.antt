-- The float constants of the source are those of the definition: integers as binary64 has them.
use mathlib.Core.Path.{◌≡◌, refl}
use lib.Ieee.{binary64, of_bits, of_int}
use Rattle.quantising.specs.Scale.{float}

pub zero_is : of_bits binary64 0 ≡ float 0
unfolding of_bits of_int
zero_is = refl

pub one_is : of_bits binary64 0x3ff0_0000_0000_0000 ≡ float 1
unfolding of_bits of_int
one_is = refl
