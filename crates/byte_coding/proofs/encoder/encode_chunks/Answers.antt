-- The loop is `Coded`'s last part.
use Rattle.std.proofs.Common.{◌∙◌, ◌-◌, ◌*◌, ◌/◌, arith}
use Rattle.rule.specs.Prediction.{prediction}
use Rattle.sample.proofs.Sizes.{some_bytes}
use Rattle.predict.specs.Configuration.{config_of}
use Rattle.byte_coding.proofs.Coded as law
use Rattle.byte_coding.proofs.encoder.encode_chunks.Goals as goal

pub loop-end-init : goal.loop-end-init
loop-end-init g c =
    let W = g.S.Sample.W in
    let some = some_bytes g.S.Sample.WIDTH g.met.S.Sample.width_is in
    rw (c.BYTES.ensures, g.met.S.Sample.bytes_are) (law.begun W (W / 8) c.args.config.now.order.0 (prediction W (config_of g.S.Sample.integer c.args.config.now)) c.args.samples.now some c.requires.1.entire)

pub loop-end-preserved : goal.loop-end-preserved
loop-end-preserved g c =
    let W = g.S.Sample.W in
    let some = some_bytes g.S.Sample.WIDTH g.met.S.Sample.width_is in
    let bytes_is = c.BYTES-in-loop-end.ensures ∙ g.met.S.Sample.bytes_are in
    rw bytes_is (law.turn W (W / 8) c.args.config.now.order.0 (prediction W (config_of g.S.Sample.integer c.args.config.now)) c.args.samples.now some c.requires.1.entire
    c.loop-end.invariant ((c.loop-end.end - 1) / 512 * 512) (omega arith) c.encode_chunk.new.samples (rw bytes_is at c.encode_chunk.ensures))
