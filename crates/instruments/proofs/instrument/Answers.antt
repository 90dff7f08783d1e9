use Rattle.instruments.proofs.instrument.Goals as goal

pub returns-in-Ok : goal.returns-in-Ok
returns-in-Ok c = simp (← c.find.ensures.0.0, c.in-Ok.is, c.instrument_at.ensures)

pub returns-in-Err : goal.returns-in-Err
returns-in-Err c = simp (← c.find.ensures.0.0, c.in-Err.is, c.no_instrument.ensures)
