use Rattle.compare.proofs.list_whole.Goals as goal

pub returns : goal.returns
returns c =
    let kind-of = c.kind_of in
    let whole-difference = c.whole_difference in
    rw (← kind-of.ensures, ← whole-difference.ensures) c.list.ensures
