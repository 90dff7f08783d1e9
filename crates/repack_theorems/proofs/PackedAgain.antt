-- The packer's stream of the pattern in an accepted stream is accepted too, and has the same rows.
use Prim.Native.Nat.{ℕ}
use Rattle.std.specs.Prelude.{Ok}
use mathlib.Core.Path.{◌≡◌, sym, ap, subst, ◌∙◌}
use mathlib.Core.List.{List}
use Rattle.cells.specs.Cells.{Row, rows_of}
use Rattle.packed_rows.specs.Entries.{rows_from}
use Rattle.packed_rows.specs.Stream.{Reading, read_stream, entries_read, cells_read, AcceptedAs}
use Rattle.packed_rows.specs.Packer.{packed_stream}
use Rattle.packed_rows.specs.Answers.{check_answer}
use Rattle.packed_rows.proofs.Accepted.{accepted-stream, accepted-rows, accepted-length}
use Rattle.packed_rows.proofs.Theorems.{round_trip, accepts-exactly}
use Rattle.acceptance.proofs.BlockStreams.{accepted-sizes, holds}

-- The rows of cells of a stream.
abbrev pub rows_held : ℕ → ℕ → List ℕ → List Row
rows_held rows tracks stream = rows_from tracks (entries_read (read_stream rows tracks stream))

-- If the stream is accepted as these cells, its rows are the rows of these cells.
held_rows : {rows tracks : ℕ} {stream cells : List ℕ} → AcceptedAs rows tracks stream cells → rows_held rows tracks stream ≡ rows_of rows tracks cells
held_rows {tracks = tracks} a = ap (λ (r : Reading). rows_from tracks (entries_read r)) a.read ∙ sym (accepted-rows a)

module _ (rows tracks : ℕ) (stream : List ℕ) (accepted : check_answer stream rows tracks ≡ Ok tt) where
  first : AcceptedAs rows tracks stream (cells_read rows tracks stream)
  first = holds stream rows tracks accepted

  again : AcceptedAs rows tracks (packed_stream (rows_held rows tracks stream)) (cells_read rows tracks stream)
  again =
      subst (λ (pattern : List Row). AcceptedAs rows tracks (packed_stream pattern) (cells_read rows tracks stream))
      (sym (held_rows first)) (round_trip rows tracks (cells_read rows tracks stream) (accepted-length first))

  pub packed-accepted : check_answer (packed_stream (rows_held rows tracks stream)) rows tracks ≡ Ok tt
  packed-accepted =
      (accepts-exactly rows tracks (packed_stream (rows_held rows tracks stream)) (accepted-sizes stream rows tracks accepted)).1
      (again.entries, accepted-stream again)

  pub packed-rows : rows_held rows tracks (packed_stream (rows_held rows tracks stream)) ≡ rows_held rows tracks stream
  packed-rows = held_rows again ∙ sym (held_rows first)
