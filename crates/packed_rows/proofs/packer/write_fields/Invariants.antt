use lib.ListN.{drop}
use Rattle.cells.specs.Cells.{non_zeros}
use Rattle.packed_rows.specs.Steps.{cell_at}
use Rattle.packed_rows.proofs.Writing.{Writing}
use Rattle.packed_rows.proofs.packer.write_fields.Given as goal

abbrev pub invariant-loop-field : goal.invariant-loop-field
invariant-loop-field l =
    Writing l.initial.out l.to (non_zeros (cell_at l.cells l.from)) l.out l.at (non_zeros (drop l.field (cell_at l.cells l.from)))
