-- `exponent` gives the leading digit's place, moved by the shift.
use Rattle.floats.proofs.Exponents.{zeros_bound, leading_exponent}
use Rattle.floats.proofs.exponent.Goals as goal

pub overflow_sub-parts : goal.overflow_sub-parts
overflow_sub-parts c =
    let r = c.unpack-parts.result in
    zeros_bound c.args.x r.negative r.digits r.shift c.requires c.unpack-parts.ensures

pub returns : goal.returns
returns c =
    let r = c.unpack-parts.result in
    rw c.from.ensures (leading_exponent c.args.x r.negative r.digits r.shift c.requires c.unpack-parts.ensures)
