-- Each arm of `integer_part` is one law of shifts.
use Rattle.floats.proofs.IntegerParts.{part_above, part_left, part_below, part_right}
use Rattle.floats.proofs.rounding.integer_part.Goals as goal

pub returns-then-shift-ge1086 : goal.returns-then-shift-ge1086
returns-then-shift-ge1086 c = part_above c.args.digits c.args.shift c.requires c.if-shift-ge1086.true

pub returns-then-shift-ge1074 : goal.returns-then-shift-ge1074
returns-then-shift-ge1074 c =
    part_left c.args.digits c.args.shift c.requires c.if-shift-ge1074.true c.if-shift-ge1086.false

pub returns-then-shift-le1010 : goal.returns-then-shift-le1010
returns-then-shift-le1010 c = part_below c.args.digits c.args.shift c.requires c.if-shift-le1010.true

pub returns : goal.returns
returns c =
    part_right c.args.digits c.args.shift c.requires c.if-shift-le1010.false c.if-shift-ge1074.false
