-- From `end` on the samples are coded, and before it they are as they were: `Coded`'s loop.
use Rattle.std.proofs.Common.{◌/◌}
use Rattle.rule.specs.Prediction.{prediction}
use Rattle.predict.specs.Configuration.{config_of}
use Rattle.byte_coding.proofs.Coded as law
use Rattle.byte_coding.proofs.encoder.encode_chunks.Given as goal

abbrev pub invariant-loop-end : goal.invariant-loop-end
invariant-loop-end g l =
    let W = g.S.Sample.W in
    law.Coding W (W / 8) l.config.order.0 (prediction W (config_of g.S.Sample.integer l.config)) l.initial.samples l.samples l.end

abbrev pub decreases-loop-end : goal.decreases-loop-end
decreases-loop-end g l = l.end
