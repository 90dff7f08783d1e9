use Rattle.compare.proofs.count_all.Goals as goal

pub list_all-requires : goal.list_all-requires
list_all-requires c = c.requires

pub returns : goal.returns
returns c = (c.list_all.ensures.0, c.list_all.ensures.1)
