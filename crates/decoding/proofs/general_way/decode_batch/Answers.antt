-- The state is laid in the array, the residuals are decoded behind it, and the last samples are the new state.
use Rattle.std.proofs.Common.{◌≡◌, ◌∙◌, ◌++◌, ◌+◌, ◌-◌, length, take, drop, arith}
use Rattle.std.proofs.Math.Seq.{take_at}
use Rattle.sample.proofs.Numbers as numbers
use Rattle.decoding.proofs.Toggled.{decodes_twice}
use Rattle.decoding.proofs.general_way.decode_batch.Goals as goal

pub returns : goal.returns
returns g c =
    let are = g.met.S.Sample.numbers_are in
    let numbers_of = g.S.Sample.numbers in
    let state = c.args.state.now in
    let k = c.args.config.now.order.0 in
    let full = c.requires.0.full in
    let d = c.decode_residuals in
    let count = length c.toggle_center_in_place.new.numbers in
    let known : take k (numbers_of (c.copy_from_slice.new.self ++ drop (length state) c.args.samples.now)) ≡ numbers_of state =
    rw (c.copy_from_slice.ensures.after, numbers.numbers-append are) (take_at (numbers_of state) _ k full) in
    let same : length d.new.residuals ≡ count = d.auto.residuals in
    let whole : count + length state - count ≡ k = omega (arith, numbers.numbers-length are state, full) in
    let last : numbers_of c.copy_from_slice-2.new.self ≡ take k (drop count (numbers_of d.new.samples)) =
    rw (c.copy_from_slice-2.ensures.after, same, whole) (numbers.numbers-part are k count d.new.samples) in
    let coded = c.toggle_center_in_place.ensures in
    decodes_twice (record { outputs_are = rw (known, coded) at d.ensures.outputs_are; next_is = last ∙ (rw (known, coded) at d.ensures.next_is) })
