-- FORMAT.md, R1 to R8 and F2 (document 01, "Packed rows"): reading a packed stream from the front.
use Rattle.std.specs.Prelude.{ℕ, zero, suc, ◌+◌, ◌≡◌, List, [], ◌∷◌, cond, ◌&&◌, length, take, drop, eqb, leb}
use Rattle.cells.specs.Cells.{bytes_of}
use Rattle.packed_rows.specs.Entries.{Entry, fields_named, entry_bytes, rows_from}

-- The front of the rest of a stream: no byte, a row end, a sound entry, or a fault; and the bytes after it.
pub data Front : Type 0 where
  nothing : Front
  row_end : List ℕ → Front
  entry : Entry → List ℕ → Front
  fault : Front

-- R2 to R4: the front if it begins with a track that is not 0, by the track and the bytes after it.
abbrev pub front_entry : ℕ → ℕ → List ℕ → Front
front_entry tracks track [] = fault
front_entry tracks track (mask ∷ s) =
    cond (leb track tracks && leb (fields_named mask) (length s))
    (entry (record { track = track; mask = mask; fields = take (fields_named mask) s }) (drop (fields_named mask) s))
    fault

-- R1, document 01's "row end": the byte 0 ends a row.
abbrev pub front : ℕ → List ℕ → Front
front tracks [] = nothing
front tracks (b ∷ s) = cond (eqb b 0) (row_end s) (front_entry tracks b s)

-- The result of reading a stream: its rows of entries, or the place where it is broken.
pub data Reading : Type 0 where
  broken_at : ℕ → Reading
  whole : List (List Entry) → Reading

-- The reading with a row end before it: a row without entries, and then the rows that follow.
abbrev pub new_row : Reading → Reading
new_row (broken_at p) = broken_at p
new_row (whole rows) = whole ([] ∷ rows)

-- The reading with an entry before it: the entry is the first of the row that follows.
abbrev pub add_entry : Entry → Reading → Reading
add_entry e (broken_at p) = broken_at p
add_entry e (whole []) = whole []
add_entry e (whole (es ∷ rows)) = whole ((e ∷ es) ∷ rows)

-- The rest of a reading, by the front.
abbrev pub read_on : Front → ℕ → (List ℕ → Reading) → (Entry → List ℕ → Reading) → Reading
read_on nothing at after_row_end after_entry = broken_at at
read_on (row_end s) at after_row_end after_entry = after_row_end s
read_on (entry e s) at after_row_end after_entry = after_entry e s
read_on fault at after_row_end after_entry = broken_at at

-- Reading from a place, with the given number of rows left. The first number bounds the steps: each takes at least one byte.
unfoldable pub read_from : ℕ → ℕ → ℕ → ℕ → List ℕ → Reading
read_from zero tracks rows at s = broken_at at
read_from (suc steps) tracks zero at [] = whole []
read_from (suc steps) tracks zero at (b ∷ s) = broken_at at
read_from (suc steps) tracks (suc rows) at s =
    read_on (front tracks s) at
    (λ rest. new_row (read_from steps tracks rows (at + 1) rest))
    (λ e rest. add_entry e (read_from steps tracks (suc rows) (at + length (entry_bytes e)) rest))

-- Reading from a place: R7 if no row is left, else by the front; F2 for the place of a fault.
unfoldable pub reading : ℕ → ℕ → ℕ → List ℕ → Reading
unfolding read_from
reading tracks rows at s = read_from (suc (length s)) tracks rows at s

-- Reading the stream of a pattern with these rows and tracks, from its first byte.
abbrev pub read_stream : ℕ → ℕ → List ℕ → Reading
read_stream rows tracks s = reading tracks rows 0 s

-- The entries of a reading, row by row; none for a broken stream.
abbrev pub entries_read : Reading → List (List Entry)
entries_read (broken_at p) = []
entries_read (whole rows) = rows

-- The cells that a stream holds, as bytes (C3).
abbrev pub cells_read : ℕ → ℕ → List ℕ → List ℕ
cells_read rows tracks s = bytes_of (rows_from tracks (entries_read (read_stream rows tracks s)))

-- R8, document 01's "accepts a stream as a pattern": the stream rules hold, and carrying out the entries from the front gives the cells.
pub record AcceptedAs (rows tracks : ℕ) (stream cells : List ℕ) : Type 0 where
  pub entries : List (List Entry)
  pub read : read_stream rows tracks stream ≡ whole entries
  pub gives : bytes_of (rows_from tracks entries) ≡ cells
