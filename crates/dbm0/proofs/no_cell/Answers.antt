use Rattle.dbm0.proofs.no_cell.Goals as goal

pub returns : goal.returns
returns c = rw c.from.ensures
