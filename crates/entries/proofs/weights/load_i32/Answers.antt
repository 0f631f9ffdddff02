-- `Filling`'s loop, with the table of the signed entries, each of which 32 bits hold.
use Rattle.std.proofs.Common.{◌∙◌, ap, ◌*◌, pos, to_z, w32, to_z-of_z, arith}
use Rattle.rule.proofs.Filling as filling
use Rattle.entries.proofs.Bytes.{entry_below}
use Rattle.entries.proofs.Lists.{loaded_signed}
use Rattle.entries.proofs.weights.load_i32.Goals as goal

pub overflow_cast-read_entry : goal.overflow_cast-read_entry
overflow_cast-read_entry c =
    let below = entry_below 4 (4 * c.loop-i.i) c.args.from.now (record { below = λ k. (c.type_inv.from k).fits }) in
    record { fits = omega (arith, c.read_entry.ensures, below) }

pub loop-i-preserved : goal.loop-i-preserved
loop-i-preserved c =
    filling.fill_turn (pos 0) (omega arith)
    (to_z-of_z {w = w32} (record { sfits = c.cast_signed.type_inv }) ∙ c.cast_signed.ensures ∙ ap (to_z w32) c.read_entry.ensures)
    c.loop-i.invariant

pub returns : goal.returns
returns c = loaded_signed w32 4 c.args.from.now c.args.to.now c.loop-i.to c.loop-i.i c.loop-i.invariant (omega arith)
