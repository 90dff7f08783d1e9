use Prim.Native.Nat.{◌*◌, ◌-◌}
use mathlib.Core.Path.{◌≡◌}
use lib.ListN.{length, drop}
use Rattle.cells.specs.Cells.{rows_of}
use Rattle.packed_rows.specs.Packer.{packed_stream}
use Rattle.packed_rows.proofs.Writing.{Writing}
use Rattle.packed_rows.proofs.packer.write_rows.Given as goal

abbrev pub invariant-loop-row : goal.invariant-loop-row
invariant-loop-row l =
    (length l.list ≡ 256)
    × Writing l.initial.out 0 (packed_stream (rows_of l.rows l.tracks l.cells)) l.out l.at
    (packed_stream (rows_of (l.rows - l.row) l.tracks (drop (l.row * (l.tracks * 6)) l.cells)))
