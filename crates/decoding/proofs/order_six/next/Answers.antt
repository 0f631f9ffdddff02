-- The sums are those of `Running`, and so each term fits, whatever the new sample is.
use Rattle.std.proofs.Common.{◌≡◌, ◌∙◌, sym, ap, length}
use lib.Dec.{lit<, lit≤}
use Rattle.rule.proofs.Sums as sums
use Rattle.sample.proofs.Numbers as numbers
use Rattle.decoding.proofs.Running as law
use Rattle.decoding.proofs.order_six.next.Goals as goal

pub add_wide_product-requires : goal.add_wide_product-requires
add_wide_product-requires g c = λ y small. sums.sizes_inside (law.asked_at g.S.Sample.wide _ _ c.requires 1 (lit≤ tt) (lit< tt) (law.sum_at_lem c.requires 1) _ _ y small)

pub add_wide_product-requires-2 : goal.add_wide_product-requires-2
add_wide_product-requires-2 g c = λ y small. sums.sizes_inside (law.asked_at g.S.Sample.wide _ _ c.requires 2 (lit≤ tt) (lit< tt) (law.sum_at_lem c.requires 2) _ _ y small)

pub add_wide_product-requires-3 : goal.add_wide_product-requires-3
add_wide_product-requires-3 g c = λ y small. sums.sizes_inside (law.asked_at g.S.Sample.wide _ _ c.requires 3 (lit≤ tt) (lit< tt) (law.sum_at_lem c.requires 3) _ _ y small)

pub add_wide_product-requires-4 : goal.add_wide_product-requires-4
add_wide_product-requires-4 g c = λ y small. sums.sizes_inside (law.asked_at g.S.Sample.wide _ _ c.requires 4 (lit≤ tt) (lit< tt) (law.sum_at_lem c.requires 4) _ _ y small)

pub add_wide_product-requires-5 : goal.add_wide_product-requires-5
add_wide_product-requires-5 g c = λ y small. sums.sizes_inside (law.asked_at g.S.Sample.wide _ _ c.requires 5 (lit≤ tt) (lit< tt) (law.sum_at_lem c.requires 5) _ _ y small)

pub add_wide_product-requires-6 : goal.add_wide_product-requires-6
add_wide_product-requires-6 g c = λ y small. sums.sizes_inside (law.asked_first g.S.Sample.wide _ _ c.requires _ y small)

pub returns : goal.returns
returns g c =
    let are = g.met.S.Sample.numbers_are in
    let wide = g.S.Sample.wide in
    let r = c.requires in
    let known = c.args.running.samples in
    let y = g.S.Sample.number c.args.sample in
    let ws = c.args.six.weights in
    let ns = c.args.running.sums in
    let long : length known ≡ 6 = sym (numbers.numbers-length are known) ∙ r.samples in
    let slid = ap g.S.Sample.numbers (law.shifted_are known long _ _ _ _ _ c.args.sample) ∙ law.numbers_shifted are known c.args.sample in
    let sums =
    law.next_runs r y c.add_wide_product.ensures.below
    (law.made_at wide ws ns r 1 (lit≤ tt) (lit< tt) _ _ y c.add_wide_product.ensures.value)
    (law.made_at wide ws ns r 2 (lit≤ tt) (lit< tt) _ _ y c.add_wide_product-2.ensures.value)
    (law.made_at wide ws ns r 3 (lit≤ tt) (lit< tt) _ _ y c.add_wide_product-3.ensures.value)
    (law.made_at wide ws ns r 4 (lit≤ tt) (lit< tt) _ _ y c.add_wide_product-4.ensures.value)
    (law.made_at wide ws ns r 5 (lit≤ tt) (lit< tt) _ _ y c.add_wide_product-5.ensures.value)
    (law.made_first wide ws ns r _ y c.add_wide_product-6.ensures.value) in
    (slid, rw slid sums)
