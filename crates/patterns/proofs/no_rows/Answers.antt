use Rattle.patterns.proofs.no_rows.Goals as goal

pub returns : goal.returns
returns c = rw c.from.ensures
