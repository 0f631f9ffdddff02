-- `Lists`' loop.
use Rattle.std.proofs.Common.{◌/◌}
use Rattle.sample.proofs.Numbers as numbers
use Rattle.entries.proofs.Lists as lists
use Rattle.entries.proofs.samples.store.Goals as goal

pub loop-i-preserved : goal.loop-i-preserved
loop-i-preserved g c =
    let are = g.met.S.Sample.numbers_are in
    let from = c.args.from.now in
    let number = numbers.numbers-at are from c.loop-i.i 0 c.loop-i-test.true c.index-from-i.is in
    rw (c.write_entry.ensures, c.BYTES-in-loop-i.ensures, c.BYTES.ensures, g.met.S.Sample.bytes_are, c.from.ensures, c.to_number.ensures.value, ← number) (
    lists.store_turn (g.S.Sample.W / 8) (g.S.Sample.numbers from) c.args.to.now (rw (numbers.numbers-length are from) c.requires) c.loop-i.invariant
    (rw (numbers.numbers-length are from) c.loop-i-test.true)
    )
