-- a turn's weight is missing, or stands behind those before it
use Rattle.std.proofs.Common.{◌+◌, ◌*◌, ◌++◌, [], drop, List, ℕ, ℤ, length, sym, ap, refl, ◌≡◌, ◌∙◌, arith, w32, to_z, of_z, FitsSigned, set}
use Rattle.std.proofs.lemmas.Bool.{le-leb, lt-leb, leb-true, leb-false}
use Rattle.std.proofs.Math.Facts.{to_z-of_z}
use Rattle.std.proofs.Math.ListN.{length-set}
use Rattle.std.proofs.Math.Seq.{length-take-le}
use Rattle.std.proofs.lemmas.Result.{err_from_is_err_and}
use Rattle.bits.specs.Fields.{field_at}
use Rattle.record.specs.Format.{weight_fields, total_width, weights_at}
use Rattle.record.specs.Reading.{in_array, given, weights_in, read_weights}
use Rattle.record.specs.Signed.{lowered}
use Rattle.record.specs.Widths.{weight_bits}
use Rattle.record.proofs.Put.{weights_total}
use Rattle.record.proofs.Signed.{lowered_fits}
use Rattle.record.proofs.Weights.{padded, array_begun, array_more, array_filled}
use Rattle.record_reading.proofs.conv1.read_weights.Goals as goal

-- of weight i
abbrev place : ℕ → ℕ
place i = weights_at + weight_bits * i

pub loop-i-init : goal.loop-i-init
loop-i-init c = (length-take-le c.args.order.0 (in_array []) (omega arith), omega arith, array_begun c.args.order.0 (omega arith))

pub returns-in_err-latent : goal.returns-in_err-latent
unfolding read_weights
returns-in_err-latent c =
    let bytes = c.args.bytes.now in
    let k = c.args.order.0 in
    let missing = c.in_err-latent.ensures.missing in
    let short = leb-false (place c.loop-i.i + 32) (8 * length bytes) missing.0 in
    let p = err_from_is_err_and c.from_residual.result c.from_residual.ensures.1 in
    rw (p.1, p.2, missing.1, lt-leb (weights_at + total_width (weight_fields k)) (8 * length bytes) (omega (arith, weights_total k, short))) refl

pub loop-i-preserved : goal.loop-i-preserved
loop-i-preserved c =
    let l = c.loop-i in
    let bytes = c.args.bytes.now in
    let v = c.in_ok-latent.latent in
    let there = c.in_ok-latent.ensures.there in
    let fits : FitsSigned w32 (lowered 31 v) = record { sfits = lowered_fits 31 v there.2 } in
    let raised = ap (λ (z : ℤ). to_z w32 (of_z w32 z)) c.weight_from_latent_ordered.ensures ∙ to_z-of_z fits in (
      length-set l.weight-items l.i _ ∙ l.invariant.0,
      omega (arith, leb-true (place l.i + 32) (8 * length bytes) there.0),
      ap (λ (z : ℤ). set l.weight-items l.i z) (raised ∙ ap (lowered 31) (sym there.1))
          ∙ ap (λ (ws : List ℤ). set ws l.i (lowered 31 (field_at bytes (place l.i) 32))) l.invariant.2
          ∙ array_more c.args.order.0 bytes weights_at l.i (omega arith),
    )

pub returns : goal.returns
unfolding read_weights
returns c =
    let l = c.loop-i in
    let bytes = c.args.bytes.now in
    let k = c.args.order.0 in
    let e : l.i ≡ k = omega arith in
    let bits : place k ≡ weights_at + total_width (weight_fields k) = omega (arith, weights_total k) in
    rw (le-leb (weights_at + total_width (weight_fields k)) (8 * length bytes) (omega (arith, weights_total k)))
    (c.give.ensures
    ∙ ap (λ (ws : List ℤ). given c.args.encoding (ws ++ drop k (in_array [])) (place k)) (l.invariant.2 ∙ ap (λ (n : ℕ). padded k (weights_in bytes weights_at n)) e)
    ∙ ap (λ (ws : List ℤ). given c.args.encoding ws (place k)) (array_filled bytes weights_at k)
    ∙ ap (given c.args.encoding (in_array (weights_in bytes weights_at k))) bits)
