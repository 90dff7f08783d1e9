use Prim.Native.Nat.{ℕ, ◌-◌}
use lib.ListN.{length}
use Rattle.packed_rows.specs.Steps.{RowAhead}
use Rattle.packed_rows.proofs.Carrying.{Skipping}
use Rattle.packed_rows.proofs.reader.skip_row.Given as goal

abbrev pub invariant-loop-at : goal.invariant-loop-at
invariant-loop-at l = (size : ℕ) (ahead : RowAhead l.s l.start size) → Skipping l.s l.start size ahead l.at

abbrev pub decreases-loop-at : goal.decreases-loop-at
decreases-loop-at l = length l.s - l.at
