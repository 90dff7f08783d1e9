use Rattle.patterns.proofs.rows.Goals as goal

pub returns-in-Ok : goal.returns-in-Ok
returns-in-Ok c =
    let find = c.find in
    simp (← find.ensures.0.0, c.in-Ok.is, c.from.ensures, c.pattern_rows.ensures)

pub returns-in-Err : goal.returns-in-Err
returns-in-Err c = simp (← c.find.ensures.0.0, c.in-Err.is, c.no_rows.ensures)
