use Rattle.envelopes.proofs.envelope.Goals as goal

pub returns-in-Ok : goal.returns-in-Ok
returns-in-Ok c =
    let record-kind = c.from in
    let find = c.find in
    simp (← record-kind.ensures, ← find.ensures.0.0, c.in-Ok.is, c.envelope_at.ensures)

pub returns-in-Err : goal.returns-in-Err
returns-in-Err c =
    let record-kind = c.from in
    let find = c.find in
    simp (← record-kind.ensures, ← find.ensures.0.0, c.in-Err.is, c.no_envelope.ensures)
