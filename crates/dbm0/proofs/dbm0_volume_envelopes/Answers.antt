use Rattle.dbm0.proofs.dbm0_volume_envelopes.Goals as goal

pub returns : goal.returns
returns c = c.count.ensures
