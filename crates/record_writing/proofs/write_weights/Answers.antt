-- a turn puts the first of the weights that are left
use Rattle.std.proofs.Common.{◌≡◌, ◌+◌, ◌-◌, ◌<◌, List, ℕ, suc, ℤ, pos, length, get_or, take, ap, ◌∙◌, arith, rules, add-one, w32, FitsSigned}
use Rattle.std.proofs.Math.Seq.{drop-cons}
use Rattle.std.proofs.Math.Facts.{to_z-of_z}
use Rattle.bits.specs.Fields.{with_field}
use Rattle.record.specs.Signed.{raised}
use Rattle.record.specs.Widths.{weight_bits}
use Rattle.record_writing.proofs.write_weights.Invariants.{place, put_rest}
use Rattle.record_writing.proofs.write_weights.Goals as goal

turn : (bytes : List ℕ) (ws : List ℤ) (i : ℕ) → i < length ws →
    put_rest (with_field bytes (place i) weight_bits (raised 31 (get_or ws i (pos 0)))) ws (i + 1) ≡ put_rest bytes ws i
turn bytes ws i h =
    let w = get_or ws i (pos 0) in
    let fewer : length ws - i ≡ suc (length ws - (i + 1)) = omega arith in
    let behind : place (i + 1) ≡ place i + weight_bits = omega arith in
    rw (drop-cons ws i (pos 0) h, fewer, behind, add-one i)

pub loop-i-preserved : goal.loop-i-preserved
loop-i-preserved c =
    let l = c.loop-i in
    let ws = take c.args.order.0 c.args.weights in
    let w = get_or ws l.i (pos 0) in
    let fits : FitsSigned w32 w = search rules in
    let latent : c.weight_to_latent_ordered.result ≡ raised 31 w = c.weight_to_latent_ordered.ensures ∙ ap (raised 31) (to_z-of_z fits) in
    ap (λ (b : List ℕ). put_rest b ws (l.i + 1)) (c.write_uint.ensures ∙ ap (with_field l.bytes (place l.i) weight_bits) latent)
    ∙ turn l.bytes ws l.i c.loop-i-test.true
    ∙ l.invariant
