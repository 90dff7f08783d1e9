use Rattle.dbm0.proofs.dbm0_instrument.Goals as goal

pub returns : goal.returns
returns c = c.instrument.ensures
