-- the record is written exactly where every test is passed
use Rattle.std.proofs.Common.{length, sym}
use Rattle.record.proofs.Refusals.{passed}
use Rattle.record_writing.proofs.write_to.Goals as goal

pub write_fields-bits-requires : goal.write_fields-bits-requires
write_fields-bits-requires c =
    let a = c.args in
    let p = passed a.delta.encoding (length a.bytes.now) (sym c.in_ok-refusal.ensures) in
    (p.ordered, p.fitting)
