-- The running sums and the batches of one go on together: a turn is `RunningTurns`'.
use Rattle.std.proofs.Common.{◌≡◌, ◌∙◌, sym, ap, ℕ, map, get_or, length, ◌+◌, ◌<◌, ◌≤◌, ◌%◌, ◌^◌, arith, rules}
use Rattle.std.proofs.lemmas.List.{length-map, get_or-map}
use lib.Dec.{lit<}
use Rattle.rule.specs.Coding.{toggled}
use Rattle.sample.proofs.Numbers as numbers
use Rattle.decoding.proofs.Batches as batches
use Rattle.decoding.proofs.Turning as turning
use Rattle.decoding.proofs.Toggled.{decodes_twice}
use Rattle.decoding.proofs.Running as running
use Rattle.decoding.proofs.RunningTurns as law
use Rattle.decoding.proofs.Room as room
use denote.Param.{layout}
use Rattle.decoding.proofs.order_six.decode_residuals.Goals as goal

pub begun-running-requires : goal.begun-running-requires
begun-running-requires g c =
    let met = g.met.S.Sample in
    let few = room.sample_few g.S.Sample.WIDTH met.width_is met.size_is in
    let long : length c.args.six.weights ≡ 6 = search rules in
    let full = sym (numbers.numbers-length met.numbers_are c.args.state.now) ∙ c.requires.full in
    (room.six_room (layout g.row.S-Wide) met.wide_size, (room.running_room (layout g.row.S) (layout g.row.S-Wide) few met.wide_size, (c.requires.ready.admits, full ∙ length-map c.args.six.weights g.S.Sample.wide ∙ long)))

pub loop-i-init : goal.loop-i-init
loop-i-init g c =
    let b = c.begun-running.ensures in
    (b.1, rw b.0 (batches.begun g.S.Sample.W _ _ (g.S.Sample.numbers c.args.state.now) _ c.requires.full))

pub next-running-requires : goal.next-running-requires
next-running-requires g c =
    let met = g.met.S.Sample in
    let few = room.sample_few g.S.Sample.WIDTH met.width_is met.size_is in
    (room.running_room (layout g.row.S) (layout g.row.S-Wide) few met.wide_size, (room.six_room (layout g.row.S-Wide) met.wide_size, c.loop-i.invariant.0))

pub loop-i-preserved : goal.loop-i-preserved
loop-i-preserved g c =
    let are = g.met.S.Sample.numbers_are in
    let number = g.S.Sample.number in
    let numbers_of = g.S.Sample.numbers in
    let wide = g.S.Sample.wide in
    let l = c.loop-i in
    let r = l.invariant.0 in
    let within : l.i < length l.residuals = omega (arith, l.auto.residuals, c.loop-i-test.true) in
    let inside : l.i < length (numbers_of l.residuals) = omega (arith, within, numbers.numbers-length are l.residuals) in
    let residual = numbers.numbers-at are l.residuals l.i 0 within c.index-residuals-i.is in
    let sum = running.sum_is wide c.args.six.weights l.running.sums r 0 (lit< tt) c.index-running-0.result in
    let known = l.running.samples in
    let oldest : get_or (numbers_of known) 0 0 ≡ number (get_or known 0 c.index-running-0-in-loop-i.result) =
    rw are (get_or-map number known 0 c.index-running-0-in-loop-i.result 0 (omega (arith, r.samples, numbers.numbers-length are known))) in (
      c.next-running.ensures.1,
      rw (numbers.numbers-set are, ← oldest) (
          law.turn c.args.six.shift r (numbers_of c.args.state.now)
          (map (toggled g.S.Sample.W) (numbers_of c.toggle_center_in_place.new.numbers)) (numbers_of l.residuals) l.i c.requires.full l.invariant.1
          inside (sym sum) c.settle-prediction.ensures
          (c.wrapping_add-sample.ensures ∙ ap (λ (x : ℕ). (x + number c.settle-prediction.result) % 2 ^ g.S.Sample.W) (sym residual))
          c.next-running.ensures.0
          ),
    )

pub returns : goal.returns
returns g c =
    let are = g.met.S.Sample.numbers_are in
    let l = c.loop-i in
    let past : length (g.S.Sample.numbers l.residuals) ≤ l.i = omega (arith, numbers.numbers-length are l.residuals, l.auto.residuals, c.loop-i-test.false) in
    let whole = turning.mixed_all g.S.Sample.W l.i (g.S.Sample.numbers l.residuals) past in
    let e =
    batches.ended g.S.Sample.W _ _ (g.S.Sample.numbers c.args.state.now) _ c.requires.full l.invariant.1
    (omega (arith, turning.mixed_long g.S.Sample.W l.i (g.S.Sample.numbers l.residuals), past)) in
    let coded = c.toggle_center_in_place.ensures in
    let known = l.running.samples in
    let long : length known ≡ 6 = sym (numbers.numbers-length are known) ∙ l.invariant.0.samples in
    decodes_twice (record { outputs_are = rw coded at (sym whole ∙ e.0); next_is = ap g.S.Sample.numbers (c.copy_from_slice.ensures.after ∙ running.all_six known long _ _ _ _ _ _) ∙ (rw coded at e.1) })
