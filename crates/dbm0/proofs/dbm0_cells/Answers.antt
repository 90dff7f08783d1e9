use Rattle.dbm0.proofs.dbm0_cells.Goals as goal

pub returns : goal.returns
returns c = c.unpack.ensures
