use Rattle.compare.proofs.list_name.Goals as goal

pub returns : goal.returns
returns c =
    let name_of = c.name_of-a in
    let name-of2 = c.name_of-b in
    let equal = c.equal in
    let whole-difference = c.whole_difference in
    rw (equal.ensures, whole-difference.ensures, name_of.ensures, name-of2.ensures) at c.list.ensures
