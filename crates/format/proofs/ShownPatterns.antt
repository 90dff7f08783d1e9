-- Patterns: the packed stream in the encoding of a pattern in the module is read as the pattern's entries, by theorem 6 of `packed_rows`.
-- So what the queries show of it is the pattern, by its rows and its cells.
use Prim.Native.Nat.{ℕ, ◌+◌, ◌-◌, ◌%◌}
use Rattle.std.specs.Prelude.{Result, Ok, Err}
use Rattle.refusal.specs.declared.Refusal.{Refusal}
use Rattle.cells.specs.declared.Cell.{Cell}
use mathlib.Core.Path.{◌≡◌, refl, sym, ap, ◌∙◌}
use mathlib.Core.List.{List, [], ◌++◌}
use mathlib.Core.Bool.{Bool, true, false, cond, not}
use native.Mathlib.Omega.{arith}
use lib.ListN.{length, get_or, drop}
use lib.Dec.{ltb}
use borrow.Author.Tests.{le-leb, eq-eqb}
use Rattle.refusal.specs.Numbers.{refusal}
use Rattle.refusal.specs.declared.Reason.TheVariants.{Room}
use Rattle.refusal.specs.Lengths.{refused_length, written_length, length_if, output_if, length_answer, output_written}
use Rattle.cells.specs.Cells.{sizes_fit, cell_bytes, bytes_of, empty_cell}
use Rattle.cells.specs.Shown.{shown_cell}
use Rattle.numbers.specs.Numbers.{number16, bytes16, bytes32}
use Rattle.packed_rows.specs.Entries.{Entry, rows_from, stream_of}
use Rattle.packed_rows.specs.Stream.{read_stream, whole}
use Rattle.packed_rows.specs.Answers.{cell_there, cell_of, unpack_answer as stream_answer, unpack_output as stream_output}
use Rattle.packed_rows.proofs.Shapes.{rows-from-shaped, length-bytes}
use Rattle.packed_rows.proofs.Theorems.{reads-exactly}
use Rattle.blocks.specs.StoredFields.{packed_bytes}
use Rattle.blocks.specs.Sizes.{size_of}
use Rattle.blocks.specs.declared.BlockKind.TheVariants.{Pattern as PatternBlock}
use Rattle.acceptance.proofs.Locating.{PartAt, number16-start}
use Rattle.acceptance.proofs.Cutting.{Sized}
use Rattle.acceptance.proofs.BlockStreams.{TracksFit, stream-same}
use Rattle.format.specs.Description.{Pattern}
use Rattle.format.specs.Encoding.{pattern_bytes}
use Rattle.format.specs.WellFormed.{PatternFits}
use Rattle.format.specs.Shown.{not_there, described_cell, cells_length, cells_written}
use Rattle.format.proofs.ReadingBlocks.{pattern-size, pattern-rows, pattern-packed}

-- The answers for a stream that is read whole.
module _ (rows tracks : ℕ) (stream : List ℕ) (entries : List (List Entry)) (fits : sizes_fit rows tracks ≡ true)
    (reads : read_stream rows tracks stream ≡ whole entries) where
  cell-read : (row track : ℕ)
      → cell_of stream rows tracks row track
      ≡ cond (cell_there rows tracks row track)
      (Ok (shown_cell (get_or (get_or (rows_from tracks entries) row []) (track - 1) empty_cell))) (Err not_there)
  cell-read row track = simp (fits, reads) (go (cell_there rows tracks row track) _ _)
    where
      go : (there : Bool) (shown refused : Result Cell Refusal) → cond (not there) refused shown ≡ cond there shown refused
      go true shown refused = refl
      go false shown refused = refl

  length-read : (room : ℕ) → length_answer (stream_answer stream rows tracks room) ≡ length_if (cell_bytes rows tracks) room
  length-read room = simp (fits, reads) (go (ltb room (cell_bytes rows tracks)))
    where
      go : (lacks : Bool)
          → length_answer (cond lacks (Err (refusal Room (cell_bytes rows tracks))) (Ok (cell_bytes rows tracks)))
          ≡ cond lacks (refused_length (refusal Room (cell_bytes rows tracks))) (written_length (cell_bytes rows tracks))
      go true = refl
      go false = refl

  output-read : length (bytes_of (rows_from tracks entries)) ≡ cell_bytes rows tracks → (out : List ℕ)
      → stream_output stream rows tracks out ≡ output_if (length_if (cell_bytes rows tracks) (length out)) (bytes_of (rows_from tracks entries)) out
  output-read size out = simp (fits, reads) (go (ltb (length out) (cell_bytes rows tracks)))
    where
      cells : List ℕ
      cells = bytes_of (rows_from tracks entries)

      go : (lacks : Bool)
          → output_written (cond lacks (Err (refusal Room (cell_bytes rows tracks))) (Ok (cell_bytes rows tracks))) cells out
          ≡ output_if (cond lacks (refused_length (refusal Room (cell_bytes rows tracks))) (written_length (cell_bytes rows tracks))) cells out
      go true = refl
      go false = ap (λ (n : ℕ). cells ++ drop n out) (sym size)

module _ {tracks : ℕ} (p : Pattern) (f : PatternFits tracks p) where
  pub pattern-sized : Sized PatternBlock (pattern_bytes p)
  unfolding size_of
  pattern-sized = rw (pattern-packed p) (pattern-size p ∙ ap (λ (n : ℕ). 6 + length (stream_of p.rows) + n) f.filler.0)

  module _ {m : List ℕ} {at : ℕ} (part : PartAt m at (pattern_bytes p)) where
    long : 6 + length (stream_of p.rows) + length p.filler ≡ length (pattern_bytes p)
    long = sym (pattern-size p)

    pub rows-shown : number16 m at ≡ length p.rows
    rows-shown = number16-start part (omega (arith, long)) ∙ pattern-rows p

    packed : packed_bytes m at ≡ stream_of p.rows
    packed =
        stream-same part (omega (arith, long)) (stream_of p.rows)
        (record { before = bytes16 (length p.rows) ++ bytes32 (length (stream_of p.rows)); after = p.filler; bytes = refl; starts = refl })
        (pattern-packed p)

    reads : read_stream (length p.rows) tracks (packed_bytes m at) ≡ whole p.rows
    reads = rw packed ((reads-exactly (length p.rows) tracks (stream_of p.rows) p.rows).1 (record { count = refl; sound = f.sound; bytes = refl }))

    module _ (t : TracksFit tracks) where
      fits : sizes_fit (length p.rows) tracks ≡ true
      fits = rw (le-leb (length p.rows) 65535 (omega (arith, f.many)), le-leb 4 tracks t.0, le-leb tracks 254 t.1, eq-eqb (tracks % 2) 0 t.2)

      pub cell-shown : (row track : ℕ) → cell_of (packed_bytes m at) (number16 m at) tracks row track ≡ described_cell tracks row track p
      cell-shown row track = rw rows-shown (cell-read (length p.rows) tracks (packed_bytes m at) p.rows fits reads row track)

      pub cells-shown : (room : ℕ) → length_answer (stream_answer (packed_bytes m at) (number16 m at) tracks room) ≡ cells_length tracks room p
      cells-shown room = rw rows-shown (length-read (length p.rows) tracks (packed_bytes m at) p.rows fits reads room)

      pub cells-written : (out : List ℕ) → stream_output (packed_bytes m at) (number16 m at) tracks out ≡ cells_written tracks out p
      cells-written out =
          rw rows-shown
          (output-read (length p.rows) tracks (packed_bytes m at) p.rows fits reads (length-bytes (rows-from-shaped tracks p.rows)) out)
