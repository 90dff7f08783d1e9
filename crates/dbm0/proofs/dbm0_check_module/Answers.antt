use Rattle.refusal.proofs.Outcomes.{head-numbers}
use Rattle.dbm0.proofs.dbm0_check_module.Goals as goal

pub returns : goal.returns
returns c = head-numbers _ _ _ c.from.ensures c.check.ensures.0
