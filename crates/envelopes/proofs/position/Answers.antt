use Rattle.envelopes.proofs.position.Goals as goal

pub returns-then-in_use : goal.returns-then-in_use
returns-then-in_use c = simp (← c.in_use.ensures, c.if-in_use.true, c.envelope_position.ensures)

pub returns : goal.returns
returns c = simp (← c.in_use.ensures, c.if-in_use.false)
