use Rattle.compare.proofs.list_number.Goals as goal

pub returns : goal.returns
returns c = rw c.whole_difference.ensures at c.list.ensures
