use Rattle.instruments.proofs.no_instrument.Goals as goal

pub returns : goal.returns
returns c = rw c.from.ensures
