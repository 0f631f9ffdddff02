-- what the bits' reader found, as a result
use Rattle.record_reading.proofs.Fields.{there, missing}
use Rattle.record_reading.proofs.read_field.Goals as goal

pub returns-clause-there : goal.returns-clause-there
returns-clause-there c = rw (c.ok_or.ensures.value, c.read_uint.ensures) (there c.args.bytes.now c.args.at c.args.width c.requires)

pub returns-clause-missing : goal.returns-clause-missing
returns-clause-missing c = rw (c.ok_or.ensures.value, c.read_uint.ensures) (missing c.args.bytes.now c.args.at c.args.width c.requires)
