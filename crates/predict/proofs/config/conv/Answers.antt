-- The weights so far stand in front of the zeros; each fits the accumulator, since the configuration is admitted.
use Rattle.std.proofs.Common.{◌≡◌, ◌∙◌, ℕ, ◌≤◌, sym, ◌++◌, ◌-◌, ℤ, List, pos, length, get_or, map, replicate, arith, rules, SFits, w32, w64, to_z, of_z, to_z-of_z}
use Rattle.std.proofs.lemmas.List.{map-set, take-map}
use Rattle.std.proofs.Math.Seq.{take-length}
use Rattle.rule.specs.Configuration.{config}
use Rattle.rule.proofs.Filling as filling
use Rattle.rule.proofs.Sums as sums
use Rattle.predict.proofs.Converting.{weights_held}
use Rattle.predict.proofs.config.conv.Goals as goal

-- a weight, through 32 bits and 64
weight_is : {z w : ℤ} → SFits w64 z → SFits w32 w → z ≡ to_z w32 (of_z w32 w) → to_z w64 (of_z w64 z) ≡ w
weight_is wide narrow e = to_z-of_z wide ∙ e ∙ to_z-of_z narrow

pub conv-requires : goal.conv-requires
conv-requires g c =
    rw (weight_is {w = get_or c.args.config.weights.now c.loop-i.i (pos 0)} (record { sfits = c.from.type_inv }) (search rules) c.from.ensures) (sums.size_inside (sums.weight_inside g.S.Sample.W c.args.config.bias c.args.config.weights.now c.requires.admits g.met.S.Sample.some_bits c.loop-i.i))

pub loop-i-preserved : goal.loop-i-preserved
loop-i-preserved g c =
    rw map-set (filling.fill_turn (pos 0) (omega arith) (c.conv.ensures ∙ weight_is {w = get_or c.args.config.weights.now c.loop-i.i (pos 0)} (record { sfits = c.from.type_inv }) (search rules) c.from.ensures) c.loop-i.invariant)

pub conv-requires-2 : goal.conv-requires-2
conv-requires-2 g c = rw (to_z-of_z {w = w64} {z = c.args.config.bias} (search rules)) (sums.size_inside (sums.bias_inside g.S.Sample.W c.args.config.bias c.args.config.weights.now c.requires.admits))

all_held : {A : Type 0} (f : A → ℤ) (ws : List ℤ) (array : List A) {i : ℕ} → length ws ≤ i → i ≤ length ws
    → filling.Filled (λ (j : ℕ). get_or ws j (pos 0)) (replicate 32 (pos 0)) (map f array) i
    → map f array ≡ ws ++ replicate (32 - length ws) (pos 0)
all_held f ws array {i} low high filled =
    let same : i ≡ length ws = omega arith in
    filling.fill_copied ws (pos 0) high filled ∙ rw (same, take-length, filling.drop-replicate)

pub returns-clause-result_value : goal.returns-clause-result_value
returns-clause-result_value g c =
    let back = sym (take-map g.S.Sample.integer c.args.config.order.0 c.loop-i.weights)
    ∙ weights_held c.requires (all_held g.S.Sample.integer c.args.config.weights.now c.loop-i.weights c.loop-i-test.false c.loop-i.auto.i-end c.loop-i.invariant) in
    (λ i. config c.args.config.order c.args.config.shift ((c.conv-2.ensures ∙ to_z-of_z {w = w64} {z = c.args.config.bias} (search rules)) i) (back i))

pub returns-clause-weights_value : goal.returns-clause-weights_value
returns-clause-weights_value g c = all_held g.S.Sample.integer c.args.config.weights.now c.loop-i.weights c.loop-i-test.false c.loop-i.auto.i-end c.loop-i.invariant
