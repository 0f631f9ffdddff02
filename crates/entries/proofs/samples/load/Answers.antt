-- `Filling`'s loop, with the table of the entries, each of which a sample holds.
use Rattle.std.proofs.Common.{◌≡◌, ◌∙◌, ◌*◌, ◌/◌, length, arith}
use Rattle.rule.proofs.Filling as filling
use Rattle.sample.proofs.Numbers as numbers
use Rattle.sample.proofs.Sizes.{bytes_bits}
use Rattle.entries.proofs.Bytes.{entry_whole}
use Rattle.entries.proofs.Lists.{loaded}
use Rattle.entries.proofs.samples.load.Goals as goal

pub loop-i-preserved : goal.loop-i-preserved
loop-i-preserved g c =
    let W = g.S.Sample.W in
    let are = g.met.S.Sample.numbers_are in
    let bytes_are = g.met.S.Sample.bytes_are in
    let bits = bytes_bits g.S.Sample.WIDTH g.met.S.Sample.width_is in
    let whole = entry_whole (W / 8) W (W / 8 * c.loop-i.i) c.args.from.now bits (record { below = λ k. (c.type_inv.from k).fits }) in
    let count : length c.args.from.now / c.BYTES.result ≡ length c.args.from.now / (W / 8) = rw (c.BYTES.ensures, bytes_are) in
    let read = rw (c.BYTES-in-loop-i.ensures, c.BYTES-in-loop-i-2.ensures, bytes_are) at c.read_entry.ensures in
    rw (numbers.numbers-set are) (
    filling.fill_turn 0 (omega (arith, count, filling.fill_length c.loop-i.invariant, numbers.numbers-length are c.loop-i.to))
    (c.low_bits.ensures ∙ rw read whole) c.loop-i.invariant
    )

pub returns : goal.returns
returns g c =
    let from = c.args.from.now in
    let n = g.S.Sample.W / 8 in
    let count : length from / c.BYTES.result ≡ length from / n = rw (c.BYTES.ensures, g.met.S.Sample.bytes_are) in
    loaded n from (g.S.Sample.numbers c.args.to.now) (g.S.Sample.numbers c.loop-i.to) c.loop-i.i c.loop-i.invariant (omega (arith, count))
