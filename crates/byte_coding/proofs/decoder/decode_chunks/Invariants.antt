-- Before `start`, or the end, the outputs stand, and the state is the one that they leave: `Chunks`' loop.
use Rattle.std.proofs.Common.{◌≡◌, ◌/◌, min, length}
use Rattle.rule.specs.Prediction.{prediction}
use Rattle.predict.specs.Configuration.{config_of}
use Rattle.byte_coding.proofs.Chunks as law
use Rattle.byte_coding.proofs.decoder.decode_chunks.Given as goal

abbrev pub invariant-loop-start : goal.invariant-loop-start
invariant-loop-start g l =
    let W = g.S.Sample.W in
    let numbers = g.S.Sample.numbers in
    let bytes = l.initial.piece in
    (length l.room ≡ 512)
    × law.Going W (W / 8) l.config.order.0 (prediction W (config_of g.S.Sample.integer l.config)) (numbers l.initial.state) bytes
    (numbers l.state) l.piece (min l.start (length bytes / (W / 8)))
