-- FORMAT.md, "Cells and patterns" (document 01, "Packed rows"). A pattern is a list of rows, a row a list of cells with the
-- tracks ascending, a cell the list of its six fields: note, instrument, command 1, parameter 1, command 2, parameter 2.
use Rattle.std.specs.Prelude.{ℕ, zero, suc, ◌*◌, ◌%◌, List, [], ◌∷◌, map, Bool, cond, ◌&&◌, length, take, drop, replicate, eqb, leb, ltb}
use Rattle.vocabulary.specs.Lists.{joined}

-- C2: a "cell", a row, and both empty, with zeros in all fields.
abbrev pub Cell : Type 0
Cell = List ℕ

abbrev pub Row : Type 0
Row = List Cell

abbrev pub empty_cell : Cell
empty_cell = replicate 6 0

abbrev pub empty_row : ℕ → Row
empty_row tracks = replicate tracks empty_cell

-- C1: whether a pattern may have these rows and tracks: at most 65,535 rows, and an even number of tracks from 4 to 254.
abbrev pub sizes_fit : ℕ → ℕ → Bool
sizes_fit rows tracks = leb rows 65535 && (leb 4 tracks && (leb tracks 254 && eqb (tracks % 2) 0))

-- C3: the number of bytes of a pattern's cells.
abbrev pub cell_bytes : ℕ → ℕ → ℕ
cell_bytes rows tracks = rows * (tracks * 6)

-- The first n blocks of one size.
abbrev pub groups_of : ℕ → ℕ → List ℕ → List (List ℕ)
groups_of zero size bytes = []
groups_of (suc n) size bytes = take size bytes ∷ groups_of n size (drop size bytes)

-- C3: the row that some bytes hold, the rows that they hold, and the bytes of rows.
abbrev pub row_of : ℕ → List ℕ → Row
row_of tracks bytes = groups_of tracks 6 bytes

abbrev pub rows_of : ℕ → ℕ → List ℕ → List Row
rows_of rows tracks bytes = map (row_of tracks) (groups_of rows (tracks * 6) bytes)

abbrev pub bytes_of : List Row → List ℕ
bytes_of rows = joined (map joined rows)

-- The numbers of a list that are not 0, in order.
abbrev pub non_zeros : List ℕ → List ℕ
non_zeros [] = []
non_zeros (f ∷ fs) = cond (eqb f 0) (non_zeros fs) (f ∷ non_zeros fs)

-- C4, document 01's "non-empty": at least one field of the cell is not 0.
abbrev pub non_empty : Cell → Bool
non_empty cell = ltb 0 (length (non_zeros cell))

-- The number of non-empty cells in a list.
abbrev pub non_empty_cells : List Cell → ℕ
non_empty_cells [] = 0
non_empty_cells (cell ∷ cells) = cond (non_empty cell) (suc (non_empty_cells cells)) (non_empty_cells cells)
