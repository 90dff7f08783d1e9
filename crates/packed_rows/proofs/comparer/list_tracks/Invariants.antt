use Rattle.packed_rows.proofs.ListingCells.{ListingTracks}
use Rattle.packed_rows.proofs.comparer.list_tracks.Given as goal

abbrev pub invariant-loop-track : goal.invariant-loop-track
invariant-loop-track l = ListingTracks l.pattern l.row l.a l.b l.start l.end l.n l.initial.out l.out l.count l.track
