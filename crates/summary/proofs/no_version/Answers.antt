use Rattle.summary.proofs.no_version.Goals as goal

pub returns : goal.returns
returns c = rw c.from.ensures
