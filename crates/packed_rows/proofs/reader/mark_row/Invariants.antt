use Prim.Native.Nat.{ℕ, ◌-◌}
use mathlib.Core.Path.{◌≡◌}
use lib.ListN.{length}
use Rattle.packed_rows.specs.Steps.{RowAhead}
use Rattle.packed_rows.proofs.MarkingRows.{Marking}
use Rattle.packed_rows.proofs.reader.mark_row.Given as goal

abbrev pub invariant-loop-at : goal.invariant-loop-at
invariant-loop-at l =
    (length l.marks ≡ length l.initial.marks) × ((size : ℕ) (ahead : RowAhead l.s l.start size) → Marking l.s l.start size ahead l.initial.marks l.marks l.at)

abbrev pub decreases-loop-at : goal.decreases-loop-at
decreases-loop-at l = length l.s - l.at
