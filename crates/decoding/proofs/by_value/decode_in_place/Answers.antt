-- The quicker way may be asked for, and either way gives the same.
use Rattle.rule.specs.Configuration.{given}
use Rattle.calls.proofs.Ways.{ways_agree_by_value}
use Rattle.decoding.specs.Ways.{quickest}
use Rattle.decoding.proofs.Choosing.{quickest_fits}
use Rattle.decoding.proofs.by_value.decode_in_place.Goals as goal

pub returns : goal.returns
returns g c =
    let a = c.args in
    let config = given a.config in
    let agree = ways_agree_by_value g.S.Sample.W config (quickest a.config.order.0) (quickest_fits config) (g.S.Sample.numbers a.state.samples) a.state.count.0 (g.S.Sample.numbers a.piece.now) in
    rw (c.quickest_way.ensures, agree) at c.decode_by.ensures
