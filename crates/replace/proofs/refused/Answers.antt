use Rattle.replace.proofs.refused.Goals as goal

pub returns : goal.returns
returns c = rw c.from.ensures
