use Rattle.packed_rows.proofs.CarryingRows.{loaded}
use Rattle.packed_rows.proofs.reader.load_row.Goals as goal

pub returns : goal.returns
returns c = loaded _ _ _ _ _ _ (c.fill.ensures.after (λ y e. e)) c.carry_row.ensures
