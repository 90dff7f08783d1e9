use Rattle.dbm0.proofs.dbm0_volume_envelope.Goals as goal

pub returns : goal.returns
returns c = c.envelope.ensures
