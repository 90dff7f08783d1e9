use Rattle.conformance_text.proofs.answers.cell_values.Goals as goal

pub returns : goal.returns
returns c = rw c.from-n.ensures
