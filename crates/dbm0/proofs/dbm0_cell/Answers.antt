use Rattle.dbm0.proofs.dbm0_cell.Goals as goal

pub returns-in-Ok : goal.returns-in-Ok
returns-in-Ok c = simp (← c.cell.ensures.0, c.in-Ok.is, c.shown_cell.ensures)

pub returns-in-Err : goal.returns-in-Err
returns-in-Err c = simp (← c.cell.ensures.0, c.in-Err.is, c.no_cell.ensures)
