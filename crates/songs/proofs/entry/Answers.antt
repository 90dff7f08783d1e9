use Rattle.songs.proofs.entry.Goals as goal

pub returns-in-Ok : goal.returns-in-Ok
returns-in-Ok c = simp (← c.find.ensures.0.0, c.in-Ok.is, c.entry_in.ensures)

pub returns-in-Err : goal.returns-in-Err
returns-in-Err c = simp (← c.find.ensures.0.0, c.in-Err.is, c.no_entry.ensures)
