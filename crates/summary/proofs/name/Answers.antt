use Rattle.summary.proofs.name.Goals as goal

pub returns-in-Ok : goal.returns-in-Ok
returns-in-Ok c =
    let «open» = c.open in
    simp (← «open».ensures.0, c.in-Ok.is, c.from.ensures, c.name_of.ensures)

pub returns-in-Err : goal.returns-in-Err
returns-in-Err c = simp (← c.open.ensures.0, c.in-Err.is, c.no_name.ensures)
