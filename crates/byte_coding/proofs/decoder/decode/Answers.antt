-- The quicker way may be asked for, and either way gives the same.
use Rattle.std.proofs.Common.{◌∙◌, ap}
use Rattle.calls.specs.declared.Way.{Way}
use Rattle.byte_coding.specs.Bytes.{laid, ragged}
use Rattle.byte_coding.specs.Calls.{decode_bytes}
use Rattle.byte_coding.proofs.Lengths.{ways_agree_in_bytes}
use Rattle.decoding.specs.Ways.{quickest}
use Rattle.decoding.proofs.Choosing.{quickest_fits}
use Rattle.byte_coding.proofs.decoder.decode.Goals as goal

pub returns : goal.returns
returns g c =
    let W = g.S.Sample.W in
    let a = c.args in
    let torn = ragged W a.config.weights.now a.state.now a.piece.now in
    c.decode_by.ensures
    ∙ ap (λ (way : Way). decode_bytes way W (laid a.config) torn a.state.now a.piece.now) c.quickest_way.ensures
    ∙ ways_agree_in_bytes W (laid a.config) torn a.state.now a.piece.now (quickest a.config.order.0) (quickest_fits (laid a.config))
