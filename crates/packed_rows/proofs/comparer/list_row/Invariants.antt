use Prim.Native.Nat.{◌*◌, min}
use Rattle.packed_rows.proofs.ListingGroups.{ListingGroups}
use Rattle.packed_rows.proofs.comparer.list_row.Given as goal

abbrev pub invariant-loop-group : goal.invariant-loop-group
invariant-loop-group l =
    ListingGroups l.initial.a l.initial.b l.initial.marks l.tracks l.pattern l.row l.n l.initial.out l.a l.b l.marks l.out l.count
    (min (l.group * 8) l.tracks)
