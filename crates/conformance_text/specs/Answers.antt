-- The line for the answer to a query for a cell.
use Rattle.std.specs.Prelude.{ℕ, List, [], ◌∷◌, Result}
use Rattle.refusal.specs.declared.Refusal.{Refusal}
use Rattle.cells.specs.declared.Cell.{Cell}
use Rattle.packed_rows.specs.Answers.{cell_numbers}
use Rattle.conformance_text.specs.Text.{numbers_line}

-- The word `cell`, and the answer's numbers.
abbrev pub cell_line : Result Cell Refusal → List ℕ
cell_line answer = numbers_line (99 ∷ 101 ∷ 108 ∷ 108 ∷ []) (cell_numbers answer)
