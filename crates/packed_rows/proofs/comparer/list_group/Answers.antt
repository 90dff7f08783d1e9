use Rattle.packed_rows.proofs.ListingGroups.{unmarked}
use Rattle.packed_rows.proofs.comparer.list_group.Goals as goal

pub returns-then-marks-start-eq0 : goal.returns-then-marks-start-eq0
returns-then-marks-start-eq0 c =
    let zeros = c.requires.6 c.if-marks-start-eq0.true in
    unmarked c.args.pattern c.args.row c.args.start c.args.end c.args.n
    c.args.a.now c.args.b.now c.args.marks.now c.args.out.now c.requires.0
    c.requires.2 c.requires.3 c.if-marks-start-eq0.true zeros.0 zeros.1
