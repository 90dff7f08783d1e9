use Rattle.packed_rows.proofs.ListingRows.{ListingRows}
use Rattle.packed_rows.proofs.comparer.list_rows.Given as goal

abbrev pub invariant-loop-row : goal.invariant-loop-row
invariant-loop-row l =
    ListingRows l.a l.b l.rows l.tracks l.pattern l.initial.out l.first l.second l.out l.marks l.at l.to l.row l.count
