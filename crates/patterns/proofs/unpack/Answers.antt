use Rattle.patterns.proofs.unpack.Goals as goal

pub returns-in-Ok : goal.returns-in-Ok
returns-in-Ok c =
    let find = c.find in
    let unpack-in = c.unpack_in in (
      simp (← find.ensures.0.0, c.in-Ok.is, unpack-in.ensures.0),
      simp (← find.ensures.0.0, c.in-Ok.is, unpack-in.ensures.1),
    )

pub returns-in-Err : goal.returns-in-Err
returns-in-Err c =
    let find = c.find in
    (simp (← find.ensures.0.0, c.in-Err.is, c.from.ensures), simp (← find.ensures.0.0, c.in-Err.is))
