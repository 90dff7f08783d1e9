use Rattle.dbm0.proofs.dbm0_entry.Goals as goal

pub returns : goal.returns
returns c = c.entry.ensures
