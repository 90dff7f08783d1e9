use Rattle.packed_rows.proofs.ListingCells.{ListingCell}
use Rattle.packed_rows.proofs.comparer.list_cell.Given as goal

abbrev pub invariant-loop-field : goal.invariant-loop-field
invariant-loop-field l = ListingCell l.pattern l.row l.track l.a l.b l.at l.n l.initial.out l.out l.count l.field
