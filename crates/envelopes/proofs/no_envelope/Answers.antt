use Rattle.envelopes.proofs.no_envelope.Goals as goal

pub returns : goal.returns
returns c = rw c.from.ensures
