use Prim.Native.Nat.{◌+◌, ◌≤◌}
use mathlib.Core.Path.{◌≡◌}
use lib.ListN.{length, drop}
use Rattle.cells.specs.Cells.{non_zeros}
use Rattle.packed_rows.proofs.packer.count_few.Given as goal

abbrev pub invariant-loop-b : goal.invariant-loop-b
invariant-loop-b l = (l.count ≤ l.b-index) × (l.count + length (non_zeros (drop l.b-index l.bytes)) ≡ length (non_zeros l.bytes))
