use borrow.Author.Rules.{rules}
use Rattle.packed_rows.proofs.cell_there.Goals as goal

pub returns : goal.returns
returns c = search rules
