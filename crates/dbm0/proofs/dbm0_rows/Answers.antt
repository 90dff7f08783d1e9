use Rattle.dbm0.proofs.dbm0_rows.Goals as goal

pub returns : goal.returns
returns c = c.rows.ensures
