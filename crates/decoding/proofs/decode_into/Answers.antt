-- The quicker way may be asked for, and either way gives the same.
use Rattle.std.proofs.Common.{◌∙◌}
use Rattle.rule.specs.Configuration.{given}
use Rattle.calls.proofs.Ways.{ways_agree}
use Rattle.decoding.specs.Ways.{quickest}
use Rattle.decoding.proofs.Choosing.{quickest_fits}
use Rattle.decoding.proofs.decode_into.Goals as goal

pub returns : goal.returns
returns g c =
    let a = c.args in
    let config = given a.config in
    rw c.quickest_way.ensures at c.decode_by.ensures
    ∙ ways_agree g.S.Sample.W config (quickest a.config.order.0) (quickest_fits config) (g.S.Sample.numbers a.state.now) (g.S.Sample.numbers a.piece.now)
