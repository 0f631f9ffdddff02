-- The library's test is the logic's.
use Rattle.std.proofs.Common.{sym, ◌∙◌}
use Rattle.floats.proofs.Patterns.{yes, finite_is}
use Rattle.floats.proofs.rounding.finite_parts.Goals as goal

pub unpack-requires : goal.unpack-requires
unpack-requires c = yes (sym (finite_is c.args.x) ∙ sym c.is_finite.ensures.value ∙ c.if-is_finite.true)

pub returns-else-is_finite : goal.returns-else-is_finite
returns-else-is_finite c = sym (finite_is c.args.x) ∙ sym c.is_finite.ensures.value ∙ c.if-is_finite.false
