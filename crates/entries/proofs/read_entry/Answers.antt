-- What was read so far is below 2^56, so that a byte more fits; at the end it is the entry.
use Rattle.std.proofs.Common.{◌≡◌, ◌+◌, ◌-◌, arith}
use Rattle.entries.proofs.Turns as turns
use Rattle.entries.proofs.read_entry.Goals as goal

pub overflow_mul-value : goal.overflow_mul-value
overflow_mul-value c =
    let small = turns.read_small c.args.bytes.now c.args.at c.args.width c.requires.0 (record { below = λ i. (c.type_inv.bytes i).fits }) c.requires.1 c.loop-i-test.true c.loop-i.invariant in
    record { fits = omega (arith, small) }

pub overflow_add-value : goal.overflow_add-value
overflow_add-value c =
    let small = turns.read_small c.args.bytes.now c.args.at c.args.width c.requires.0 (record { below = λ i. (c.type_inv.bytes i).fits }) c.requires.1 c.loop-i-test.true c.loop-i.invariant in
    record { fits = omega (arith, small, c.from.ensures, (c.type_inv.bytes (c.args.at + (c.loop-i.i - 1))).fits) }

pub returns : goal.returns
returns c =
    let none : c.loop-i.i ≡ 0 = omega arith in
    turns.read_end c.args.bytes.now c.args.at c.args.width c.requires.0 (rw none at c.loop-i.invariant)
