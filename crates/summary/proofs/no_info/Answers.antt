use Rattle.summary.proofs.no_info.Goals as goal

pub returns : goal.returns
returns c = rw c.from.ensures
