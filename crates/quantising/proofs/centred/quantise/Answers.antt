-- What refuses the lent floats refuses the call.
use Rattle.std.proofs.Common.{rules}
use Rattle.quantising.proofs.Early.{refused_call}
use Rattle.quantising.proofs.centred.quantise.Goals as goal

pub returns-in_err-fitted_answer : goal.returns-in_err-fitted_answer
returns-in_err-fitted_answer g c = search (rules, refused_call)
