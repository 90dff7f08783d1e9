use Rattle.records.proofs.Unsigned16.{raised-fits, raised-unsigned, raised-stored}
use Rattle.records.proofs.unsigned.Goals as goal

pub overflow_add-result : goal.overflow_add-result
overflow_add-result c = raised-fits c.args.v c.requires

pub overflow_cast-result : goal.overflow_cast-result
overflow_cast-result c = raised-unsigned c.args.v c.requires

pub returns : goal.returns
returns c = raised-stored c.args.v c.requires
