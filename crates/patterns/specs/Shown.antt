-- FORMAT.md, B4 and Q10 (document 01, "Layout"): a pattern as it is shown, by its rows and cells. The definitions of `packed_rows` say what
-- a stream holds.
use Rattle.std.specs.Prelude.{ℕ, List, Result, Ok, Err}
use Rattle.cells.specs.declared.Cell.{Cell}
use Rattle.refusal.specs.Numbers.{no_refusal, refused_outcome}
use Rattle.refusal.specs.declared.Refusal.{Refusal}
use Rattle.refusal.specs.Lengths.{refused_length, length_answer}
use Rattle.refusal.specs.declared.LengthAnswer.{LengthAnswer}
use Rattle.packed_rows.specs.Answers.{cell_of, unpack_answer as stream_answer, unpack_output as stream_output}
use Rattle.blocks.specs.declared.RecordKind.TheVariants.{Pattern}
use Rattle.blocks.specs.StoredFields.{pattern_rows, packed_bytes}
use Rattle.queries.specs.Finding.{found}
use Rattle.queries.specs.declared.Block.{Block}
use Rattle.patterns.specs.declared.RowsAnswer.{RowsAnswer}

abbrev pub no_rows : Refusal → RowsAnswer
no_rows r = record { outcome = refused_outcome r; rows = 0 }

-- B4: the rows are the first field of the block.
abbrev pub rows_if : List ℕ → Result Block Refusal → RowsAnswer
rows_if m (Ok b) = record { outcome = no_refusal; rows = pattern_rows m b.at }
rows_if m (Err r) = no_rows r

-- Q1: the module's own refusal, then 18, else the rows.
abbrev pub rows_answer : List ℕ → ℕ → RowsAnswer
rows_answer m pattern = rows_if m (found m Pattern pattern)

-- Q10: a cell of the pattern's packed bytes, with its rows and the module's tracks.
abbrev pub cell_in : List ℕ → Block → ℕ → ℕ → Result Cell Refusal
cell_in m b row track = cell_of (packed_bytes m b.at) (pattern_rows m b.at) b.tracks row track

abbrev pub cell_if : List ℕ → ℕ → ℕ → Result Block Refusal → Result Cell Refusal
cell_if m row track (Ok b) = cell_in m b row track
cell_if m row track (Err r) = Err r

abbrev pub cell_answer : List ℕ → ℕ → ℕ → ℕ → Result Cell Refusal
cell_answer m pattern row track = cell_if m row track (found m Pattern pattern)

-- Q10: the pattern's packed bytes, unpacked with its rows and the module's tracks.
abbrev pub cells_in : List ℕ → Block → ℕ → LengthAnswer
cells_in m b room = length_answer (stream_answer (packed_bytes m b.at) (pattern_rows m b.at) b.tracks room)

abbrev pub cells_output_in : List ℕ → Block → List ℕ → List ℕ
cells_output_in m b out = stream_output (packed_bytes m b.at) (pattern_rows m b.at) b.tracks out

abbrev pub cells_if : List ℕ → ℕ → Result Block Refusal → LengthAnswer
cells_if m room (Ok b) = cells_in m b room
cells_if m room (Err r) = refused_length r

-- Q1: the module's own refusal, then 18, then 17.
abbrev pub cells_answer : List ℕ → ℕ → ℕ → LengthAnswer
cells_answer m pattern room = cells_if m room (found m Pattern pattern)

abbrev pub cells_output_if : List ℕ → List ℕ → Result Block Refusal → List ℕ
cells_output_if m out (Ok b) = cells_output_in m b out
cells_output_if m out (Err r) = out

abbrev pub cells_output : List ℕ → ℕ → List ℕ → List ℕ
cells_output m pattern out = cells_output_if m out (found m Pattern pattern)
