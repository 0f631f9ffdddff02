-- A negative sum becomes 0; of any other the shift is a division and the remainder a reduction.
use Rattle.std.proofs.Common.{to_z-of_z, to_z, of_z, ◌≡◌, w32}
use Rattle.sample.proofs.Signs as signs
use Rattle.sample.proofs.eight.U8Sample.settle.Goals as goal

pub returns-then-sum-lt0 : goal.returns-then-sum-lt0
returns-then-sum-lt0 c = signs.settle_negative 8 c.args.shift.0 c.args.sum (rw (to_z-of_z c.ranges.sum) at c.if-sum-lt0.true)

pub returns-else-sum-lt0 : goal.returns-else-sum-lt0
returns-else-sum-lt0 c =
    let same : to_z w32 (of_z w32 c.args.sum) ≡ c.args.sum = to_z-of_z c.ranges.sum in
    rw same (signs.settle_shifted 8 c.args.shift.0 c.args.sum (rw same at c.if-sum-lt0.false))
