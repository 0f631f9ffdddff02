-- A number with no digits to drop is an integer already, and otherwise half is added before they go.
use Rattle.std.proofs.Common.{ap, ◌∙◌, ℕ, ◌-◌, ◌^◌, min}
use Rattle.floats.proofs.IntegerParts.{nearest_of_integer, nearest_below, nearest_right}
use Rattle.floats.proofs.rounding.nearest_integer.Goals as goal

pub returns-then-shift-ge1074 : goal.returns-then-shift-ge1074
returns-then-shift-ge1074 c =
    c.integer_part.ensures
    ∙ ap (λ (k : ℕ). min k (2 ^ 64 - 1)) (nearest_of_integer c.args.digits c.args.shift c.requires c.if-shift-ge1074.true)

pub returns-then-shift-le1010 : goal.returns-then-shift-le1010
returns-then-shift-le1010 c = nearest_below c.args.digits c.args.shift c.requires c.if-shift-le1010.true

pub returns : goal.returns
returns c =
    nearest_right c.args.digits c.args.shift c.requires c.if-shift-le1010.false c.if-shift-ge1074.false
