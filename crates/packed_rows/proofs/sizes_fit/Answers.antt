use borrow.Author.Rules.{rules}
use Rattle.packed_rows.proofs.sizes_fit.Goals as goal

pub returns : goal.returns
returns c = search rules
