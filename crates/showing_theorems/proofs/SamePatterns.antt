-- Patterns: what a query shows of an accepted stream depends only on the stream's rows of cells.
use Prim.Native.Nat.{ℕ}
use mathlib.Core.Path.{◌≡◌, refl}
use mathlib.Core.List.{List}
use Rattle.numbers.specs.Numbers.{number16}
use Rattle.packed_rows.specs.Entries.{Entry, rows_from}
use Rattle.packed_rows.specs.Stream.{read_stream, whole}
use Rattle.packed_rows.specs.Answers.{cell_of, unpack_answer as stream_answer, unpack_output as stream_output}
use Rattle.blocks.specs.StoredFields.{packed_bytes}
use Rattle.blocks.specs.declared.RecordKind.TheVariants.{Pattern}
use Rattle.acceptance.proofs.BlockStreams.{holds}
use Rattle.patterns.specs.Shown.{rows_if, rows_answer, cell_if, cell_answer, cells_if, cells_answer, cells_output_if, cells_output}
use Rattle.showing_theorems.proofs.Alike.{SamePattern, Alike}
use Rattle.showing_theorems.proofs.AlikeAnswers.{by-finding}

-- Two accepted streams with the same rows and tracks and the same cells.
pub record SameCells (rows tracks : ℕ) (stream other : List ℕ) : Type 0 where
  pub entries : List (List Entry)
  pub other_entries : List (List Entry)
  pub reads : read_stream rows tracks stream ≡ whole entries
  pub other_reads : read_stream rows tracks other ≡ whole other_entries
  pub cells : rows_from tracks other_entries ≡ rows_from tracks entries

module _ {rows tracks : ℕ} {stream other : List ℕ} (s : SameCells rows tracks stream other) where
  cell_same : (row track : ℕ) → cell_of other rows tracks row track ≡ cell_of stream rows tracks row track
  cell_same row track = simp (s.reads, s.other_reads, s.cells)

  answer-same : (room : ℕ) → stream_answer other rows tracks room ≡ stream_answer stream rows tracks room
  answer-same room = simp (s.reads, s.other_reads)

  output-same : (out : List ℕ) → stream_output other rows tracks out ≡ stream_output stream rows tracks out
  output-same out = simp (s.reads, s.other_reads, s.cells)

same-cells : {tracks : ℕ} {m n : List ℕ} {at to : ℕ} → SamePattern tracks m n at to → SameCells (number16 m at) tracks (packed_bytes m at) (packed_bytes n to)
same-cells {tracks} {m} {n} {at} {to} s =
    let here = holds (packed_bytes m at) (number16 m at) tracks s.here in
    let there = holds (packed_bytes n to) (number16 m at) tracks (rw s.rows at s.there) in
    record {
      entries = here.entries;
      other_entries = there.entries;
      reads = here.read;
      other_reads = there.read;
      cells = simp (s.rows, here.read, there.read) at s.cells;
    }

module _ {m n : List ℕ} (a : Alike m n) (pattern : ℕ) where
  pub same-rows : rows_answer n pattern ≡ rows_answer m pattern
  same-rows = by-finding a Pattern pattern (rows_if m) (rows_if n) (λ r. refl) (λ b c e v t s. rw s.rows)

  pub same-cell : (row track : ℕ) → cell_answer n pattern row track ≡ cell_answer m pattern row track
  same-cell row track =
      by-finding a Pattern pattern (cell_if m row track) (cell_if n row track) (λ r. refl) (λ b c e v t s. rw (t, s.rows) (cell_same (same-cells s) row track))

  pub same-unpacking : (room : ℕ) → cells_answer n pattern room ≡ cells_answer m pattern room
  same-unpacking room =
      by-finding a Pattern pattern (cells_if m room) (cells_if n room) (λ r. refl) (λ b c e v t s. rw (t, s.rows, answer-same (same-cells s) room))

  pub same-unpacking-output : (out : List ℕ) → cells_output n pattern out ≡ cells_output m pattern out
  same-unpacking-output out =
      by-finding a Pattern pattern (cells_output_if m out) (cells_output_if n out) (λ r. refl) (λ b c e v t s. rw (t, s.rows) (output-same (same-cells s) out))
