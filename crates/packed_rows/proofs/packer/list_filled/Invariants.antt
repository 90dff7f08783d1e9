use Prim.Native.Nat.{◌≤◌}
use lib.ListN.{drop}
use Rattle.cells.specs.Cells.{row_of}
use Rattle.packed_rows.specs.Steps.{filled_tracks}
use Rattle.packed_rows.proofs.Writing.{Writing}
use Rattle.packed_rows.proofs.packer.list_filled.Given as goal

abbrev pub invariant-loop-track : goal.invariant-loop-track
invariant-loop-track l =
    (l.n ≤ l.track)
    × Writing l.initial.list 0 (filled_tracks 0 (row_of l.tracks l.row)) l.list l.n (filled_tracks l.track (drop l.track (row_of l.tracks l.row)))
