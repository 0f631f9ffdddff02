-- What holds of a record that no test refuses.
use mathlib.Core.Bool.{Bool, true, false, not, ◌||◌, ◌&&◌}
use mathlib.Core.Path.{◌≡◌, refl}
use Prim.Native.Nat.{ℕ, ◌+◌, ◌-◌, ◌*◌, ◌/◌, ◌^◌, ◌≤◌, ◌<◌}
use native.Mathlib.Omega.{arith}
use borrow.Author.Tests.{leb-true, ltb-false, eqb-false}
use lib.Dec.{leb, ltb, eqb}
use Rattle.std.specs.Prelude.{Ok, Err}
use Rattle.std.specs.Result.{result_and}
use Rattle.kinds.specs.Answers.{Answer, Done, refuse}
use Rattle.kinds.specs.declared.Refusal.TheVariants.{BadOrder, BadRecord, UnfitField, NoRoom}
use Rattle.record.specs.declared.DeltaEncoding.{DeltaEncoding}
use Rattle.record.specs.declared.DeltaEncoding.TheVariants.{NoOp, Consecutive, Lookback, Conv1}
use Rattle.record.specs.declared.DeltaRecord.{DeltaRecord}
use Rattle.record.specs.Format.{bits_of, weights_at, logs_malformed}
use Rattle.record.specs.Widths.{window_bits, state_bits, weight_bits, greatest, greatest_window_log}
use Rattle.record.specs.Writing.{misordered, malformed, logs_unfit, unfit, too_long, writing_refusal, write_answer}
use Rattle.record.proofs.Put.{weights_total}
use Rattle.rule.specs.Refusals.{order_fits}

-- a record that is done has passed all four tests
pub record Passed (encoding : DeltaEncoding) (room : ℕ) : Type 0 where
  pub ordered : misordered encoding ≡ false
  pub formed : malformed encoding ≡ false
  pub fitting : unfit encoding ≡ false
  pub roomy : too_long encoding room ≡ false

four : (a b c d : Bool) → refuse a BadOrder (refuse b BadRecord (refuse c UnfitField (refuse d NoRoom Done))) ≡ Done → (a ≡ false) × (b ≡ false) × (c ≡ false) × (d ≡ false)
four true b c d e = absurd (let z : ◌≡◌ {A = ℕ} 0 1 = cc in omega arith)
four false true c d e = absurd (let z : ◌≡◌ {A = ℕ} 0 1 = cc in omega arith)
four false false true d e = absurd (let z : ◌≡◌ {A = ℕ} 0 1 = cc in omega arith)
four false false false true e = absurd (let z : ◌≡◌ {A = ℕ} 0 1 = cc in omega arith)
four false false false false e = (refl, refl, refl, refl)

pub passed : (encoding : DeltaEncoding) (room : ℕ) → writing_refusal encoding room ≡ Done → Passed encoding room
unfolding writing_refusal
passed encoding room e =
    let p = four (misordered encoding) (malformed encoding) (unfit encoding) (too_long encoding room) e in
    record { ordered = p.0; formed = p.1; fitting = p.2; roomy = p.3 }

-- what is known where writing gave bits: no test refused, and they are the record's
pub record Answered (delta : DeltaRecord) (room n : ℕ) : Type 0 where
  pub done : writing_refusal delta.encoding room ≡ Done
  pub passed : Passed delta.encoding room
  pub bits : n ≡ bits_of delta.encoding

pub answered : (delta : DeltaRecord) (room : ℕ) {n : ℕ} → write_answer delta room ≡ Ok n → Answered delta room n
unfolding write_answer
answered delta room {n} e = go (writing_refusal delta.encoding room) refl e
  where
    go : (a : Answer) → writing_refusal delta.encoding room ≡ a → result_and a (Ok (bits_of delta.encoding)) ≡ Ok n → Answered delta room n
    go (Ok u) d f = record { done = d; passed = passed delta.encoding room d; bits = cc }
    go (Err r) d f = absurd (let z : ◌≡◌ {A = ℕ} 0 1 = cc in omega arith)

neither : (a b : Bool) → (a || b) ≡ false → (a ≡ false) × (b ≡ false)
neither true b e = absurd (let z : ◌≡◌ {A = ℕ} 0 1 = cc in omega arith)
neither false b e = (refl, e)

both : (a b : Bool) → not (a && b) ≡ false → (a ≡ true) × (b ≡ true)
both true true e = (refl, refl)
both true false e = absurd (let z : ◌≡◌ {A = ℕ} 0 1 = cc in omega arith)
both false b e = absurd (let z : ◌≡◌ {A = ℕ} 0 1 = cc in omega arith)

pub order_range : (k : ℕ) → not (order_fits k) ≡ false → (0 < k) × (k ≤ 32)
order_range k e =
    let p = both (leb 1 k) (leb k 32) e in
    (leb-true 1 k p.0, leb-true k 32 p.1)

pub window_range : (w s : ℕ) → logs_malformed w s ≡ false → (w ≤ greatest_window_log) × (s ≤ w)
window_range w s e =
    let p = neither (ltb greatest_window_log w) (ltb w s) e in
    (ltb-false greatest_window_log w p.0, ltb-false w s p.1)

pub window_fits : (w s : ℕ) → logs_unfit w s ≡ false → (0 < w) × (w - 1 < 2 ^ window_bits) × (s < 2 ^ state_bits)
window_fits w s e =
    let p = neither (eqb w 0) (ltb (greatest window_bits) (w - 1) || ltb (greatest state_bits) s) e in
    let q = neither (ltb (greatest window_bits) (w - 1)) (ltb (greatest state_bits) s) p.1 in
    let some : w ≡ 0 → ⊥ = eqb-false w 0 p.0 in
    (omega arith, omega (arith, ltb-false (greatest window_bits) (w - 1) q.0), omega (arith, ltb-false (greatest state_bits) s q.1))

pub enough_room : (encoding : DeltaEncoding) (room : ℕ) → too_long encoding room ≡ false → bits_of encoding ≤ 8 * room
enough_room encoding room e = omega (arith, ltb-false room ((bits_of encoding + 7) / 8) e)

-- no record takes more bits than a Conv1 with 32 weights
pub bits_small : (encoding : DeltaEncoding) → misordered encoding ≡ false → bits_of encoding ≤ weights_at + weight_bits * 32
bits_small NoOp e = omega arith
bits_small (Consecutive order flag) e = omega arith
bits_small (Lookback window state flag) e = omega arith
bits_small (Conv1 shift bias order) e = omega (arith, (order_range order.0 e).1, weights_total order.0)
