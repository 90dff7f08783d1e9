use Rattle.patterns.proofs.cell_in.Goals as goal

pub returns : goal.returns
returns c = rw (c.cell.ensures.0, c.packed_bytes.ensures.0, c.pattern_rows-rows.ensures)
