use Rattle.summary.proofs.no_name.Goals as goal

pub returns : goal.returns
returns c = rw c.from.ensures
