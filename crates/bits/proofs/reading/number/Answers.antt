-- a bit shifted to its place loses nothing, and the sum with it is the field that is one bit wider
use Rattle.std.proofs.Common.{◌≡◌, sym, ap, ◌∙◌, ℕ, ◌+◌, ◌*◌, ◌%◌, ◌^◌, ◌<◌, arith, List}
use Rattle.std.proofs.Math.Pow.{pow_mono, shl_exact}
use Rattle.bits.specs.Fields.{bit_at, field_at}
use Rattle.bits.proofs.Fields.{field_none, field_more, field_lt}
use Rattle.bits.proofs.reading.number.Goals as goal

shifted : (bytes : List ℕ) (at i sum b : ℕ) → b ≡ bit_at bytes (at + i) → i < 64 → sum ≡ field_at bytes at i →
    (b * 2 ^ i % 2 ^ 64 ≡ b * 2 ^ i) × (sum + b * 2 ^ i ≡ field_at bytes at (i + 1))
shifted bytes at i sum b e h s =
    let f : b * 2 ^ i ≡ bit_at bytes (at + i) * 2 ^ i = ap (λ (n : ℕ). n * 2 ^ i) e in
    (shl_exact {a = b} 1 i 64 (omega (arith, e)) (omega (arith, h)), omega (arith, field_more bytes at i, f, s))

pub loop-i-init : goal.loop-i-init
loop-i-init c = sym (field_none c.args.bytes.now c.args.at)

pub overflow_add-sum : goal.overflow_add-sum
overflow_add-sum c =
    let a = c.args in
    let l = c.loop-i in
    let s = shifted a.bytes.now a.at l.i l.sum c.bit.result c.bit.ensures (omega arith) l.invariant in
    let m = pow_mono {i = l.i + 1} {j = 64} (omega arith) in
    rw s.0 (record { fits = omega (arith, s.1, field_lt a.bytes.now a.at (l.i + 1), m) })

pub loop-i-preserved : goal.loop-i-preserved
loop-i-preserved c =
    let a = c.args in
    let l = c.loop-i in
    let s = shifted a.bytes.now a.at l.i l.sum c.bit.result c.bit.ensures (omega arith) l.invariant in
    rw s.0 s.1

pub returns : goal.returns
returns c =
    let l = c.loop-i in
    let e : l.i ≡ c.args.width = omega arith in
    l.invariant ∙ ap (field_at c.args.bytes.now c.args.at) e
