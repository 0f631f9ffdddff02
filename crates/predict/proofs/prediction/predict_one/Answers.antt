-- The loop is `Adding`'s: each product and each sum on the way fits the accumulator. What becomes of the whole sum is `settle`'s.
use Rattle.std.proofs.Common.{◌≡◌, ◌∙◌, sym, true, pos, length, map, ◌<◌}
use Rattle.std.proofs.lemmas.List.{length-map}
use Rattle.rule.specs.Prediction.{prediction, admitted}
use Rattle.rule.proofs.Sums as sums
use Rattle.sample.proofs.Numbers as numbers
use Rattle.predict.proofs.Adding as adding
use Rattle.predict.proofs.prediction.predict_one.Goals as goal

pub add_product-sum-requires : goal.add_product-sum-requires
add_product-sum-requires g c =
    let integer = g.S.Sample.integer in
    let ws = c.weights-weight-items.result.now in
    let known = c.weights-weight-items.ensures in
    let ready = c.requires.1 in
    let ok : admitted g.S.Sample.W (integer c.args.config.now.bias) (map integer ws) ≡ true = rw known ready.admits in
    let weight = numbers.map-at integer ws c.loop-i.i (pos 0) c.loop-i-test.true c.weight-item.is in
    let long : length ws ≡ length c.args.window.now = rw known (sym (length-map _ integer) ∙ ready.weights) ∙ sym c.requires.0 in
    rw (sym weight) (λ x small. sums.sizes_inside (
    adding.fits ok (rw (length-map ws integer) c.loop-i-test.true)
    (rw (numbers.numbers-length g.met.S.Sample.numbers_are c.args.window.now, sym long) c.loop-i-test.true) c.loop-i.invariant x small
    ))

pub loop-i-preserved : goal.loop-i-preserved
loop-i-preserved g c =
    let integer = g.S.Sample.integer in
    let are = g.met.S.Sample.numbers_are in
    let ws = c.weights-weight-items.result.now in
    let known = c.weights-weight-items.ensures in
    let ready = c.requires.1 in
    let ok : admitted g.S.Sample.W (integer c.args.config.now.bias) (map integer ws) ≡ true = rw known ready.admits in
    let weight = numbers.map-at integer ws c.loop-i.i (pos 0) c.loop-i-test.true c.weight-item.is in
    let long : length ws ≡ length c.args.window.now = rw known (sym (length-map _ integer) ∙ ready.weights) ∙ sym c.requires.0 in
    let in_window : c.loop-i.i < length c.args.window.now = rw (sym long) c.loop-i-test.true in
    let sample = numbers.numbers-at are c.args.window.now c.loop-i.i 0 in_window c.index-window-i.is in
    rw (c.add_product-sum.ensures.value, sym weight) (
    adding.turn ok (rw (length-map ws integer) c.loop-i-test.true)
    (rw (numbers.numbers-length are c.args.window.now) in_window) c.loop-i.invariant sample c.add_product-sum.ensures.below
    )

pub returns : goal.returns
unfolding prediction
returns g c =
    let integer = g.S.Sample.integer in
    let ws = c.weights-weight-items.result.now in
    let sum = adding.done c.loop-i.invariant (rw (length-map ws integer) c.loop-i-test.false) in
    c.settle.ensures ∙ rw (c.widened.ensures, sum, c.weights-weight-items.ensures)
