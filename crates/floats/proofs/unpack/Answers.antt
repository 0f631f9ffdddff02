-- The quotient and the remainder of the magnitude's pattern are its fields.
use Rattle.floats.proofs.Patterns.{yes, finite_no_nan, magnitude_no_nan}
use Rattle.floats.proofs.Unpacking.{unpacked_at_first, unpacked_at_later}
use Rattle.floats.proofs.unpack.Goals as goal

pub is_sign_negative-negative-requires : goal.is_sign_negative-negative-requires
is_sign_negative-negative-requires c = finite_no_nan c.args.x c.requires

pub float_to_bits-bits : goal.float_to_bits-bits
float_to_bits-bits c = rw c.abs-size.ensures.value (magnitude_no_nan c.args.x (yes c.well_formed.0.1) c.requires)

pub returns-then-field-eq0 : goal.returns-then-field-eq0
returns-then-field-eq0 c =
    rw (c.abs-size.ensures.value, c.is_sign_negative-negative.ensures)
    (unpacked_at_first c.args.x (yes c.well_formed.0.1) c.requires (rw c.abs-size.ensures.value at c.if-field-eq0.true))

pub returns : goal.returns
returns c =
    rw (c.abs-size.ensures.value, c.is_sign_negative-negative.ensures)
    (unpacked_at_later c.args.x (yes c.well_formed.0.1) c.requires (rw c.abs-size.ensures.value at c.if-field-eq0.false))
