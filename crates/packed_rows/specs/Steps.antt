-- Definitions that follow the steps of a loop, for the contracts of private functions. No public contract uses them. The proofs reduce each
-- to the definitions that public contracts use.
use Rattle.std.specs.Prelude.{ℕ, zero, suc, ◌+◌, ◌-◌, ◌*◌, ◌≤◌, ◌<◌, ◌≡◌, List, [], ◌∷◌, ◌++◌, Bool, cond, length, get_or, take, drop, eqb}
use Rattle.vocabulary.specs.Lists.{joined}
use Rattle.cells.specs.Cells.{Cell, Row, row_of, non_empty, empty_cell}
use Rattle.packed_rows.specs.Entries.{Entry, fields_named, named, entry_bytes, store, carry_all, row_from, rows_from}
use Rattle.packed_rows.specs.Packer.{non_zero, packed_entry}
use Rattle.packed_rows.specs.Stream.{Front, nothing, row_end, entry, fault, reading, whole, read_stream, entries_read}

-- The length of an entry with this mask.
abbrev pub entry_length : ℕ → ℕ
entry_length mask = 2 + fields_named mask

-- The lengths for the masks from the given one on, in order.
abbrev pub lengths_from : ℕ → ℕ → List ℕ
lengths_from zero mask = []
lengths_from (suc n) mask = entry_length mask ∷ lengths_from n (suc mask)

-- The lengths for the masks without bits 6 and 7.
abbrev pub entry_lengths : List ℕ
entry_lengths = lengths_from 64 0

abbrev pub piece_length : ℕ → ℕ → ℕ
piece_length track mask = cond (eqb track 0) 1 (entry_length mask)

-- The length of the front: that of a row end or a sound entry, else 0.
abbrev pub front_length : Front → ℕ
front_length nothing = 0
front_length (row_end s) = 1
front_length (entry e s) = length (entry_bytes e)
front_length fault = 0

-- A list with the named fields stored from a place on, one place for each name.
abbrev pub stored_from : List Bool → List ℕ → List ℕ → ℕ → List ℕ
stored_from names values out to = take to out ++ (store names values (take (length names) (drop to out)) ++ drop (to + length names) out)

-- A row's bytes with the named fields of a mask stored in the cell at a place.
abbrev pub stored_at : List ℕ → ℕ → ℕ → List ℕ → ℕ → List ℕ
stored_at s from mask out to = take to out ++ (store (named mask) (drop from s) (take 6 (drop to out)) ++ drop (to + 6) out)

-- At a place of an accepted stream there is a row of sound entries with its row end. The row's cells take the given number of bytes.
pub record RowAhead (s : List ℕ) (at size : ℕ) : Type 0 where
  pub tracks : ℕ
  pub left : ℕ
  pub entries : List Entry
  pub later : List (List Entry)
  pub reads : reading tracks (suc left) at (drop at s) ≡ whole (entries ∷ later)
  pub fits : size ≡ tracks * 6

-- The result of carrying out that row: the later rows follow it, and the row holds what its entries give.
abbrev pub Carried : List ℕ → ℕ → List ℕ → ℕ → List ℕ → Type 0
Carried s at row after row_after =
    (ahead : RowAhead s at (length row)) →
    (reading ahead.tracks ahead.left after (drop after s) ≡ whole ahead.later)
    × (row_after ≡ joined (carry_all ahead.entries (row_of ahead.tracks row)))
    × (after ≤ length s)

-- The same on zeros: the row holds what its entries give from empty cells.
abbrev pub Loaded : List ℕ → ℕ → ℕ → ℕ → List ℕ → Type 0
Loaded s at size after row_after =
    (ahead : RowAhead s at size) →
    (reading ahead.tracks ahead.left after (drop after s) ≡ whole ahead.later)
    × (row_after ≡ joined (row_from ahead.tracks ahead.entries))
    × (after ≤ length s)

-- A skipped row: the later rows follow it.
abbrev pub Skipped : List ℕ → ℕ → ℕ → Type 0
Skipped s at after =
    (size : ℕ) (ahead : RowAhead s at size) → reading ahead.tracks ahead.left after (drop after s) ≡ whole ahead.later

-- A stream of more than n rows was read whole.
pub record MoreRows (s : List ℕ) (n : ℕ) : Type 0 where
  pub rows : ℕ
  pub tracks : ℕ
  pub entries : List (List Entry)
  pub reads : read_stream rows tracks s ≡ whole entries
  pub more : n < rows

-- After n rows of it the other rows follow.
abbrev pub AfterRows : List ℕ → ℕ → ℕ → Type 0
AfterRows s n after =
    (all : MoreRows s n) → reading all.tracks (all.rows - n) after (drop after s) ≡ whole (drop n all.entries)

-- The rows that a stream holds.
abbrev pub rows_read : List ℕ → ℕ → ℕ → List Row
rows_read s rows tracks = rows_from tracks (entries_read (read_stream rows tracks s))

-- A cell that a stream holds: rows are counted from 0, tracks from 1.
abbrev pub cell_read : List ℕ → ℕ → ℕ → ℕ → ℕ → Cell
cell_read s rows tracks row track = get_or (get_or (rows_read s rows tracks) row []) (track - 1) empty_cell

-- 1 for a number that is not 0, else 0.
abbrev pub one_if : ℕ → ℕ
one_if b = cond (non_zero b) 1 0

-- The cell at a place of a row's bytes.
abbrev pub cell_at : List ℕ → ℕ → Cell
cell_at bytes at = take 6 (drop at bytes)

-- The tracks of the non-empty cells, counted from the given number.
abbrev pub filled_tracks : ℕ → Row → List ℕ
filled_tracks track [] = []
filled_tracks track (cell ∷ cells) = cond (non_empty cell) (track ∷ filled_tracks (suc track) cells) (filled_tracks (suc track) cells)

-- Each listed track, counted from 0, has its cell in the row.
abbrev pub TracksInside : List ℕ → List ℕ → Type 0
TracksInside row [] = Unit {0}
TracksInside row (track ∷ tracks) = (track * 6 + 6 ≤ length row) × TracksInside row tracks

-- The bytes of the packer's entries for the listed tracks of a row.
abbrev pub entries_at : List ℕ → List ℕ → List ℕ
entries_at row [] = []
entries_at row (track ∷ tracks) = entry_bytes (packed_entry (track + 1) (cell_at row (track * 6))) ++ entries_at row tracks
