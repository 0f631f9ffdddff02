-- The wrapping sum is the definition.
use Rattle.std.proofs.Common.{rules}
use Rattle.rule.specs.Coding.{toggled}
use Rattle.predict.proofs.centre.toggle_center.Goals as goal

pub returns : goal.returns
unfolding toggled
returns g c = let mid = g.met.S.Sample.mid_is in search rules
