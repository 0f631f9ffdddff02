-- the sum as the code has it is the definition's byte, which is below 256
use Rattle.std.proofs.Common.{◌≡◌, ◌+◌, ◌*◌, ◌/◌, ◌%◌, arith}
use Rattle.bits.specs.Fields.{replaced}
use Rattle.bits.proofs.Bits.{replaced_lt}
use Rattle.bits.proofs.writing.replace.Goals as goal

pub overflow_cast-result : goal.overflow_cast-result
overflow_cast-result c =
    let a = c.args in
    let one = c.power-one.result in
    let two = c.power-two.result in
    let e : a.byte % one + a.x * one + a.byte / two * two ≡ replaced a.byte a.p a.x = rw (c.power-one.ensures, c.power-two.ensures) in
    rw e (record { fits = replaced_lt a.byte a.p a.x (omega arith) (omega arith) (omega arith) })
