-- The integer part of the parts, with their sign, is the integer of the exact rule.
use Rattle.std.proofs.Common.{ap, ◌∙◌}
use Rattle.floats.proofs.Signs.{fitted, cut_held, none_held}
use Rattle.floats.proofs.rounding.cut.Goals as goal

pub returns-in_err-parts : goal.returns-in_err-parts
returns-in_err-parts c = c.from_residual.ensures ∙ none_held c.args.bits c.args.x _ (c.in_err-parts.ensures)

pub returns : goal.returns
returns c =
    let r = c.in_ok-parts.parts in
    c.with_sign.ensures ∙ ap (fitted c.args.bits r.negative) c.integer_part-size.ensures
    ∙ cut_held c.args.bits c.requires.1 c.args.x r.negative r.digits r.shift (c.in_ok-parts.ensures)
