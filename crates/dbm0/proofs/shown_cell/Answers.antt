use Rattle.dbm0.proofs.shown_cell.Goals as goal

pub returns : goal.returns
returns c = rw (c.from-note.ensures, c.from.ensures)
