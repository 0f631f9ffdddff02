-- The wrapping difference, toggled, is the residual.
use Rattle.std.proofs.Common.{rules}
use Rattle.rule.specs.Coding.{toggled, residual}
use Rattle.predict.proofs.centre.residual_of.Goals as goal

pub returns : goal.returns
unfolding toggled residual
returns g c = search rules
