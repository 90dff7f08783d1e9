-- An accepted stream: its entries are sound, and the rows that they give are the rows of its cells, with the right shape and length; and
-- what the entries of a row leave in each field of its cells.
use Prim.Native.Nat.{ℕ, ◌+◌, ◌*◌, ◌<◌}
use mathlib.Core.Path.{◌≡◌, ap, ◌∙◌}
use mathlib.Core.List.{List, []}
use lib.ListN.{length, get_or, get_or-map}
use Rattle.cells.specs.Cells.{Row, empty_cell, cell_bytes, rows_of}
use Rattle.packed_rows.specs.Entries.{row_from, rows_from}
use Rattle.packed_rows.specs.Stream.{AcceptedAs}
use Rattle.packed_rows.specs.Theorems.{SoundStream}
use Rattle.packed_rows.proofs.Shapes.{Shaped, rows-from-shaped, rows-bytes, length-bytes, get_or-bytes}
use Rattle.packed_rows.proofs.Grammar.{reads-exactly}

module _ {rows tracks : ℕ} {stream cells : List ℕ} (accepted : AcceptedAs rows tracks stream cells) where
  pub accepted-stream : SoundStream rows tracks stream accepted.entries
  accepted-stream = (reads-exactly rows tracks stream accepted.entries).0 accepted.read

  pub accepted-shaped : Shaped rows tracks (rows_from tracks accepted.entries)
  accepted-shaped = rw (← accepted-stream.count) (rows-from-shaped tracks accepted.entries)

  pub accepted-rows : rows_of rows tracks cells ≡ rows_from tracks accepted.entries
  accepted-rows = rw (← accepted.gives) (rows-bytes accepted-shaped)

  pub accepted-length : length cells ≡ cell_bytes rows tracks
  accepted-length = rw (← accepted.gives) (length-bytes accepted-shaped)

  pub accepted-field : (row track field : ℕ) → row < rows → track < tracks → field < 6
      → get_or cells (row * (tracks * 6) + (track * 6 + field)) 0 ≡ get_or (get_or (row_from tracks (get_or accepted.entries row [])) track empty_cell) field 0
  accepted-field row track field h k l =
      rw (← accepted.gives)
      (get_or-bytes accepted-shaped row track field h k l
      ∙ ap (λ (r : Row). get_or (get_or r track empty_cell) field 0) (get_or-map (row_from tracks) accepted.entries row []))
