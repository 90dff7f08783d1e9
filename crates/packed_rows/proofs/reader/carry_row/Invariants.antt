use Prim.Native.Nat.{◌-◌}
use mathlib.Core.Path.{◌≡◌}
use lib.ListN.{length}
use Rattle.packed_rows.specs.Steps.{RowAhead}
use Rattle.packed_rows.proofs.Carrying.{Carrying}
use Rattle.packed_rows.proofs.reader.carry_row.Given as goal

abbrev pub invariant-loop-at : goal.invariant-loop-at
invariant-loop-at l =
    (length l.row ≡ length l.initial.row)
    × ((ahead : RowAhead l.s l.start (length l.initial.row)) → Carrying l.s l.start l.initial.row ahead l.row l.at)

abbrev pub decreases-loop-at : goal.decreases-loop-at
decreases-loop-at l = length l.s - l.at
