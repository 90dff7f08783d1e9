use Rattle.dbm0.proofs.dbm0_records.Goals as goal

pub returns : goal.returns
returns c = c.all.ensures
