use Prim.Native.Nat.{◌*◌}
use Rattle.packed_rows.proofs.Counting.{CountingCells}
use Rattle.packed_rows.proofs.packer.filled_cells.Given as goal

abbrev pub invariant-loop-cell : goal.invariant-loop-cell
invariant-loop-cell l = CountingCells l.cells l.n l.count (l.cell * 6)
