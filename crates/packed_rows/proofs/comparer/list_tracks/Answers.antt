use native.Mathlib.Omega.{arith}
use Rattle.packed_rows.proofs.ListingCells.{tracks-count, tracks-turn, tracks-last}
use Rattle.packed_rows.proofs.comparer.list_tracks.Goals as goal

pub overflow_add-n : goal.overflow_add-n
overflow_add-n c = omega (arith, tracks-count c.loop-track.invariant)

pub list_cell-count-requires : goal.list_cell-count-requires
list_cell-count-requires c = let bound = tracks-count c.loop-track.invariant in (omega arith, omega arith, omega arith)

pub overflow_add-count : goal.overflow_add-count
overflow_add-count c = omega (arith, tracks-count c.loop-track.invariant)

pub loop-track-preserved : goal.loop-track-preserved
loop-track-preserved c =
    let cell = c.list_cell-count in
    tracks-turn c.loop-track.invariant (omega arith) _ cell.result cell.ensures.0 cell.ensures.2

pub returns : goal.returns
returns c = tracks-last c.loop-track.invariant (omega arith)
