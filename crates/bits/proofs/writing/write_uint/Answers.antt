-- a turn puts the next bit of the value
use Rattle.std.proofs.Common.{sym, ap, ◌∙◌, ℕ, ◌+◌, ◌/◌, ◌%◌, List, arith}
use Rattle.std.proofs.lemmas.Nat.{shr-shr}
use Rattle.bits.specs.Fields.{bit_of, with_bit}
use Rattle.bits.proofs.Fields.{put_none, put_more}
use Rattle.bits.proofs.writing.write_uint.Goals as goal

pub loop-i-init : goal.loop-i-init
loop-i-init c =
    let a = c.args in
    (omega arith, sym (put_none a.bytes.now a.at a.value))

pub loop-i-preserved : goal.loop-i-preserved
loop-i-preserved c =
    let l = c.loop-i in
    let a = c.args in (
      ap (λ (n : ℕ). n / 2) l.invariant.0 ∙ shr-shr a.value l.i 1,
      c.put_bit.ensures
          ∙ ap (λ (n : ℕ). with_bit l.bytes (a.at + l.i) (n % 2)) l.invariant.0
          ∙ ap (λ (b : List ℕ). with_bit b (a.at + l.i) (bit_of a.value l.i)) l.invariant.1
          ∙ sym (put_more a.bytes.now a.at l.i a.value),
    )
