-- The lent places are the first ones of the array, and the others stay: `Lending`.
use Rattle.std.proofs.Common.{◌≡◌, ◌∙◌, length, rules}
use Rattle.rule.specs.Configuration.{given}
use Rattle.sample.proofs.Numbers as numbers
use Rattle.decoding.proofs.Lending as lending
use Rattle.decoding.proofs.by_value.decode_by.Goals as goal

pub returns : goal.returns
returns g c =
    let are = g.met.S.Sample.numbers_are in
    let numbers_of = g.S.Sample.numbers in
    let samples = c.args.state.samples in
    let count = c.args.state.count.0 in
    let places = c.places_lent-places in
    let d = c.decode_by-said in
    let full : length (numbers_of samples) ≡ 32 = numbers.numbers-length are samples ∙ search rules in
    let lent = lending.lent_long count places.ensures (numbers_of samples) full in
    let long : length (numbers_of d.new.state) ≡ places.result =
    numbers.numbers-length are d.new.state ∙ search rules in
    rw (numbers.numbers-append are, numbers.numbers-drop are) (
    lending.held_left count places.ensures (numbers_of samples) full c.args.way g.S.Sample.W (given c.args.config) (numbers_of c.args.piece.now) long
    (rw (numbers.numbers-take are) at d.ensures)
    )
