use Rattle.dbm0.proofs.dbm0_replace_sample.Goals as goal

pub returns : goal.returns
returns c = c.replace.ensures
