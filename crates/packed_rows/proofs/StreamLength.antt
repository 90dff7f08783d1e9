-- The length of the packer's stream (W4, W5).
use Prim.Native.Nat.{ℕ, suc, ◌+◌, ◌*◌, ◌≤◌}
use native.Mathlib.Nat.{suc-mul}
use native.Mathlib.Omega.{arith}
use mathlib.Core.Path.{◌≡◌, refl}
use mathlib.Core.List.{List, [], ◌∷◌, ◌++◌, map}
use mathlib.Core.Bool.{Bool, true, false, cond}
use borrow.Author.Tests.{ltb-false}
use lib.ListN.{length, length-append}
use Rattle.vocabulary.specs.Lists.{joined}
use Rattle.cells.specs.Cells.{Cell, Row, cell_bytes, groups_of, rows_of, non_zeros, non_empty, non_empty_cells}
use Rattle.packed_rows.specs.Entries.{Entry, entry_bytes, row_stream}
use Rattle.packed_rows.specs.Packer.{packed_entries, packed_stream, packed_length}
use Rattle.packed_rows.proofs.Shapes.{none, one, Blocks, Shaped, each-count, bytes-joined, joined-rows, bytes-rows, rows-shaped}
use Rattle.packed_rows.proofs.PackedRow.{Packs, done, written, passed, packs}
use Rattle.packed_rows.proofs.Storing.{non-zeros-append, non-zeros-most}

-- The length of the packer's entry for a cell, and of its entries for a row.
abbrev pub cell_length : Cell → ℕ
cell_length cell = cond (non_empty cell) 2 0 + length (non_zeros cell)

abbrev pub row_length : Row → ℕ
row_length row = 2 * non_empty_cells row + length (non_zeros (joined row))

pub cell-length-filled : (cell : Cell) → non_empty cell ≡ true → cell_length cell ≡ 2 + length (non_zeros cell)
cell-length-filled cell q = rw q

pub cell-length-empty : (cell : Cell) → non_empty cell ≡ false → cell_length cell ≡ 0
cell-length-empty cell q = rw q (omega (arith, ltb-false 0 (length (non_zeros cell)) q))

pub cell-length-most : (cell : Cell) → cell_length cell ≤ 2 + length (non_zeros cell)
cell-length-most cell = go (non_empty cell)
  where
    go : (b : Bool) → cond b 2 0 + length (non_zeros cell) ≤ 2 + length (non_zeros cell)
    go true = omega arith
    go false = omega arith

pub row-length-cons : (cell : Cell) (row : Row) → row_length (cell ∷ row) ≡ cell_length cell + row_length row
row-length-cons cell row = rw (non-zeros-append cell (joined row), length-append (non_zeros cell) (non_zeros (joined row))) (go (non_empty cell))
  where
    go : (b : Bool) → 2 * cond b (suc (non_empty_cells row)) (non_empty_cells row) + (length (non_zeros cell) + length (non_zeros (joined row)))
        ≡ cond b 2 0 + length (non_zeros cell) + row_length row
    go true = omega arith
    go false = omega arith

pub row-length-append : (xs ys : Row) → row_length (xs ++ ys) ≡ row_length xs + row_length ys
row-length-append [] ys = omega arith
row-length-append (x ∷ xs) ys = omega (arith, row-length-cons x (xs ++ ys), row-length-cons x xs, row-length-append xs ys)

-- The length of the entries' bytes is that length.
pub entries-length : {track : ℕ} {row : Row} {es : List Entry} → Packs track row es → length (joined (map entry_bytes es)) ≡ row_length row
entries-length done = refl
entries-length (written {cell = cell} {row = row} {es = es} q p) =
    omega (arith, row-length-cons cell row, cell-length-filled cell q, length-append (non_zeros cell) (joined (map entry_bytes es)), entries-length p)
entries-length (passed {cell = cell} {row = row} q p) = omega (arith, row-length-cons cell row, cell-length-empty cell q, entries-length p)

-- The packed length, by the cells of the whole pattern, and row by row.
pub packed-length-joined : (rows : List Row) → packed_length rows ≡ length rows + row_length (joined rows)
packed-length-joined rows = rw (bytes-joined rows)

pub packed-length-cons : (row : Row) (rows : List Row) → packed_length (row ∷ rows) ≡ suc (row_length row) + packed_length rows
packed-length-cons row rows = omega (arith, packed-length-joined (row ∷ rows), packed-length-joined rows, row-length-append row (joined rows))

pub row-stream-length : (entries : List Entry) (stream : List ℕ)
    → length (row_stream entries ++ stream) ≡ suc (length (joined (map entry_bytes entries))) + length stream
row-stream-length entries stream =
    rw (length-append (row_stream entries) stream, length-append (joined (map entry_bytes entries)) (0 ∷ [])) (omega arith)

pub packed-length : (rows : List Row) → length (packed_stream rows) ≡ packed_length rows
packed-length [] = refl
packed-length (row ∷ rows) =
    omega (arith, row-stream-length (packed_entries row) (packed_stream rows), entries-length (packs 1 row), packed-length rows, packed-length-cons row rows)

pub packed-length-cells : (rows tracks : ℕ) (cells : List ℕ) → length cells ≡ cell_bytes rows tracks
    → packed_length (rows_of rows tracks cells) ≡ rows + (2 * non_empty_cells (groups_of (rows * tracks) 6 cells) + length (non_zeros cells))
packed-length-cells rows tracks cells e =
    rw (each-count (rows-shaped rows tracks cells e), bytes-rows rows tracks cells e, joined-rows rows tracks cells e)

-- At most one byte for each row and eight for each cell.
row-length-most : {tracks : ℕ} {row : Row} → Blocks tracks 6 row → row_length row ≤ 8 * tracks
row-length-most none = omega arith
row-length-most (one {x = cell} {xs = row} p e) = omega (arith, row-length-cons cell row, cell-length-most cell, non-zeros-most cell, row-length-most e)

pub packed-length-most : {tracks rows : ℕ} {pattern : List Row} → Shaped rows tracks pattern → packed_length pattern ≤ rows * (1 + 8 * tracks)
packed-length-most none = omega arith
packed-length-most {tracks = tracks} (one {n = n} {x = row} {xs = rows} b s) =
    omega (arith, packed-length-cons row rows, row-length-most b, packed-length-most s, suc-mul n (1 + 8 * tracks))

pub packed-length-at-most : (rows tracks : ℕ) (cells : List ℕ) → length cells ≡ cell_bytes rows tracks
    → packed_length (rows_of rows tracks cells) ≤ rows * (1 + 8 * tracks)
packed-length-at-most rows tracks cells e = packed-length-most (rows-shaped rows tracks cells e)
