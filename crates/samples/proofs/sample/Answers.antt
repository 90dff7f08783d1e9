use Rattle.samples.proofs.sample.Goals as goal

pub returns-in-Ok : goal.returns-in-Ok
returns-in-Ok c = simp (← c.find.ensures.0.0, c.in-Ok.is, c.sample_at.ensures)

pub returns-in-Err : goal.returns-in-Err
returns-in-Err c = simp (← c.find.ensures.0.0, c.in-Err.is, c.no_sample.ensures)
