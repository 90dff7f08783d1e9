-- The answer of each call, and what its lent output then holds: FORMAT.md, F1 to F9 (document 01, "Refusal numbers and their order"). Each
-- definition checks the refusals in the order in which they are given.
use Rattle.std.specs.Prelude.{ℕ, ◌-◌, List, [], Bool, cond, not, ◌&&◌, length, get_or, eqb, leb, ltb, ⊤, Result, Ok, Err}
use Rattle.refusal.specs.declared.Refusal.{Refusal}
use Rattle.refusal.specs.Lengths.{needed_if, output_written}
use Rattle.cells.specs.declared.Cell.{Cell}
use Rattle.refusal.specs.Numbers.{refusal, accepted_numbers, refused_numbers}
use Rattle.refusal.specs.declared.Reason.TheVariants.{Stream, Sizes, Room, NotThere}
use Rattle.cells.specs.Cells.{sizes_fit, cell_bytes, rows_of, empty_cell}
use Rattle.cells.specs.Shown.{shown_cell, cell_values}
use Rattle.packed_rows.specs.Entries.{rows_from}
use Rattle.packed_rows.specs.Stream.{Reading, broken_at, whole, read_stream, entries_read, cells_read}
use Rattle.packed_rows.specs.Packer.{packed_stream, packed_length}

-- The verdict of a reading: refusal 15 if the stream is broken; F2 for its place.
abbrev pub verdict_of_reading : Reading → Result ⊤ Refusal
verdict_of_reading (broken_at p) = Err (refusal Stream p)
verdict_of_reading (whole rows) = Ok tt

-- F3: the check of a stream: 16, 15.
abbrev pub check_answer : List ℕ → ℕ → ℕ → Result ⊤ Refusal
check_answer stream rows tracks =
    cond (not (sizes_fit rows tracks)) (Err (refusal Sizes 0))
    (verdict_of_reading (read_stream rows tracks stream))

-- The refusal of a verdict, or the length written if it has none.
abbrev pub unpacked_if : Result ⊤ Refusal → ℕ → Result ℕ Refusal
unpacked_if (Ok _) n = Ok n
unpacked_if (Err r) n = Err r

-- F4: unpacking into the given room: 16, 17, 15.
abbrev pub unpack_answer : List ℕ → ℕ → ℕ → ℕ → Result ℕ Refusal
unpack_answer stream rows tracks room =
    cond (not (sizes_fit rows tracks)) (Err (refusal Sizes 0))
    (cond (ltb room (cell_bytes rows tracks)) (Err (refusal Room (cell_bytes rows tracks)))
    (unpacked_if (verdict_of_reading (read_stream rows tracks stream)) (cell_bytes rows tracks)))

abbrev pub unpack_output : List ℕ → ℕ → ℕ → List ℕ → List ℕ
unpack_output stream rows tracks out =
    output_written (unpack_answer stream rows tracks (length out)) (cells_read rows tracks stream) out

-- F5: packing into the given room: 16, 17.
abbrev pub pack_answer : List ℕ → ℕ → ℕ → ℕ → Result ℕ Refusal
pack_answer cells rows tracks room =
    cond (not (sizes_fit rows tracks && eqb (length cells) (cell_bytes rows tracks))) (Err (refusal Sizes 0))
    (needed_if (packed_length (rows_of rows tracks cells)) room)

abbrev pub pack_output : List ℕ → ℕ → ℕ → List ℕ → List ℕ
pack_output cells rows tracks out =
    output_written (pack_answer cells rows tracks (length out)) (packed_stream (rows_of rows tracks cells)) out

-- The answer of repacking a reading into the given room: 15, 17.
abbrev pub repack_of_reading : Reading → ℕ → ℕ → Result ℕ Refusal
repack_of_reading (broken_at p) tracks room = Err (refusal Stream p)
repack_of_reading (whole rows) tracks room = needed_if (packed_length (rows_from tracks rows)) room

-- F6: repacking a stream: 16, 15, 17.
abbrev pub repack_stream_answer : List ℕ → ℕ → ℕ → ℕ → Result ℕ Refusal
repack_stream_answer stream rows tracks room =
    cond (not (sizes_fit rows tracks)) (Err (refusal Sizes 0))
    (repack_of_reading (read_stream rows tracks stream) tracks room)

abbrev pub repack_stream_output : List ℕ → ℕ → ℕ → List ℕ → List ℕ
repack_stream_output stream rows tracks out =
    output_written (repack_stream_answer stream rows tracks (length out))
    (packed_stream (rows_from tracks (entries_read (read_stream rows tracks stream)))) out

-- Whether a pattern has this row, counted from 0, and this track, counted from 1.
abbrev pub cell_there : ℕ → ℕ → ℕ → ℕ → Bool
cell_there rows tracks row track = ltb row rows && (leb 1 track && leb track tracks)

-- The cell of a reading at a row and a track, or refusal 15.
abbrev pub cell_of_reading : Reading → ℕ → ℕ → ℕ → Result Cell Refusal
cell_of_reading (broken_at p) tracks row track = Err (refusal Stream p)
cell_of_reading (whole rows) tracks row track = Ok (shown_cell (get_or (get_or (rows_from tracks rows) row []) (track - 1) empty_cell))

-- F7: one cell of a stream: 16, 18, 15.
abbrev pub cell_of : List ℕ → ℕ → ℕ → ℕ → ℕ → Result Cell Refusal
cell_of stream rows tracks row track =
    cond (not (sizes_fit rows tracks)) (Err (refusal Sizes 0))
    (cond (not (cell_there rows tracks row track)) (Err (refusal NotThere 0))
    (cell_of_reading (read_stream rows tracks stream) tracks row track))

-- F1, N1 to N4: the answer to a query for a cell in numbers: the values are the note's four numbers, the instrument and the two commands
-- with their parameters.
abbrev pub cell_numbers : Result Cell Refusal → List ℕ
cell_numbers (Ok c) = accepted_numbers (cell_values c)
cell_numbers (Err r) = refused_numbers r 9
