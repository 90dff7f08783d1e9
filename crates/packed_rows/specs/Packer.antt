-- FORMAT.md, W1 to W4 (document 01, "Packed rows"): the packer's stream and its length.
use Rattle.std.specs.Prelude.{ℕ, suc, ◌+◌, ◌*◌, List, [], ◌∷◌, map, Bool, cond, not, length, eqb}
use Rattle.vocabulary.specs.Lists.{joined}
use Rattle.cells.specs.Cells.{Cell, Row, bytes_of, non_zeros, non_empty, non_empty_cells}
use Rattle.packed_rows.specs.Entries.{Entry, stream_of}

-- The number with the given bits, the lowest first.
abbrev pub of_bits : List Bool → ℕ
of_bits [] = 0
of_bits (b ∷ bs) = cond b 1 0 + 2 * of_bits bs

-- W3: whether a field is not 0, and the packer's entry for a cell: its mask names exactly the fields that are not 0.
abbrev pub non_zero : ℕ → Bool
non_zero f = not (eqb f 0)

abbrev pub packed_entry : ℕ → Cell → Entry
packed_entry track cell = record { track = track; mask = of_bits (map non_zero cell); fields = non_zeros cell }

-- W2: tracks ascending, one entry for each non-empty cell.
abbrev pub entries_from : ℕ → Row → List Entry
entries_from track [] = []
entries_from track (cell ∷ cells) =
    cond (non_empty cell) (packed_entry track cell ∷ entries_from (suc track) cells) (entries_from (suc track) cells)

abbrev pub packed_entries : Row → List Entry
packed_entries row = entries_from 1 row

-- W1: the stream that document 01's "packer" writes for a pattern.
abbrev pub packed_stream : List Row → List ℕ
packed_stream rows = stream_of (map packed_entries rows)

-- W4, document 01's "packed length": 1 for each row, 2 for each non-empty cell and 1 for each field that is not 0.
abbrev pub packed_length : List Row → ℕ
packed_length rows = length rows + (2 * non_empty_cells (joined rows) + length (non_zeros (bytes_of rows)))
