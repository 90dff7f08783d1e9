use mathlib.Core.Path.{◌∙◌, ap, sym}
use Rattle.cells.specs.Shown.{shown_cell}
use Rattle.packed_rows.proofs.Counting.{cell-fields}
use Rattle.packed_rows.proofs.shown_at.Goals as goal

pub returns : goal.returns
returns c =
    c.from.ensures ∙ ap shown_cell (sym (cell-fields c.args.row.now c.args.at c.requires))
