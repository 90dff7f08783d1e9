use Rattle.envelopes.proofs.count.Goals as goal

pub returns-in-Ok : goal.returns-in-Ok
returns-in-Ok c =
    simp (
      ← c.open.ensures.0,
      c.in-Ok.is,
      c.from.ensures,
      c.envelope_count.ensures,
      c.chunk_of.ensures,
      c.from-in-Ok.ensures,
    )

pub returns-in-Err : goal.returns-in-Err
returns-in-Err c = simp (← c.open.ensures.0, c.in-Err.is, c.no_count.ensures)
