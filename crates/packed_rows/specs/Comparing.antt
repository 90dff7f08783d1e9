-- FORMAT.md, G5 and G6 (document 02, K2, "Compare two modules"): the differences of two patterns that have the same rows and tracks, field
-- by field, and the answer of comparing two streams. A pattern is a list of rows; rows are counted from 0, tracks and fields from 1.
use Rattle.std.specs.Prelude.{ℕ, ◌-◌, List, [], cond, not, length, get_or, eqb, Result, Ok, Err}
use Rattle.refusal.specs.declared.Refusal.{Refusal}
use Rattle.vocabulary.specs.Lists.{joined}
use Rattle.refusal.specs.Numbers.{refusal}
use Rattle.refusal.specs.declared.Reason.TheVariants.{Stream, Sizes}
use Rattle.cells.specs.Cells.{Cell, Row, sizes_fit, empty_cell}
use Rattle.numbers.specs.Numbers.{each_from}
use Rattle.differences.specs.Differences.{difference_if, entries_listed}
use Rattle.differences.specs.declared.Difference.{Difference}
use Rattle.packed_rows.specs.Entries.{rows_from}
use Rattle.packed_rows.specs.Stream.{Reading, broken_at, whole, read_stream, entries_read}

-- G5: "a differing cell field (1 to 6)", in a pattern, a row and a track. The kind of a pattern is 8.
abbrev pub field_difference : ℕ → ℕ → ℕ → Cell → Cell → ℕ → List Difference
field_difference pattern row track a b field =
    difference_if (not (eqb (get_or a (field - 1) 0) (get_or b (field - 1) 0)))
    (record { kind = 8; number = pattern; row = row; track = track; field = field })

-- G5: the differences of two cells, of two rows and of two patterns, ascending.
abbrev pub cell_differences : ℕ → ℕ → ℕ → Cell → Cell → List Difference
cell_differences pattern row track a b = joined (each_from (field_difference pattern row track a b) 1 6)

abbrev pub row_differences : ℕ → ℕ → ℕ → Row → Row → List Difference
row_differences pattern tracks row a b =
    joined (each_from (λ (track : ℕ). cell_differences pattern row track (get_or a (track - 1) empty_cell) (get_or b (track - 1) empty_cell)) 1 tracks)

abbrev pub pattern_differences : ℕ → ℕ → ℕ → List Row → List Row → List Difference
pattern_differences pattern rows tracks a b =
    joined (each_from (λ (row : ℕ). row_differences pattern tracks row (get_or a row []) (get_or b row [])) 0 rows)

-- The differences of the patterns that two streams hold.
abbrev pub stream_differences : List ℕ → List ℕ → ℕ → ℕ → ℕ → List Difference
stream_differences a b rows tracks pattern =
    pattern_differences pattern rows tracks (rows_from tracks (entries_read (read_stream rows tracks a)))
    (rows_from tracks (entries_read (read_stream rows tracks b)))

-- The first stream's refusal, then the second's, else the number of entries.
abbrev pub comparison_of : Reading → Reading → ℕ → Result ℕ Refusal
comparison_of (broken_at p) other entries = Err (refusal Stream p)
comparison_of (whole rows) (broken_at p) entries = Err (refusal Stream p)
comparison_of (whole rows) (whole others) entries = Ok entries

-- G6: comparing two streams: 16, the first stream's 15, the second stream's 15.
abbrev pub compare_streams_answer : List ℕ → List ℕ → ℕ → ℕ → ℕ → Result ℕ Refusal
compare_streams_answer a b rows tracks pattern =
    cond (not (sizes_fit rows tracks)) (Err (refusal Sizes 0))
    (comparison_of (read_stream rows tracks a) (read_stream rows tracks b) (length (stream_differences a b rows tracks pattern)))

-- The output afterwards: on success the entries for which there is room, on a refusal what was there before.
abbrev pub output_compared : Result ℕ Refusal → List Difference → List ℕ → List ℕ
output_compared (Ok n) entries out = entries_listed entries 0 out
output_compared (Err r) entries out = out

abbrev pub compare_streams_output : List ℕ → List ℕ → ℕ → ℕ → ℕ → List ℕ → List ℕ
compare_streams_output a b rows tracks pattern out =
    output_compared (compare_streams_answer a b rows tracks pattern) (stream_differences a b rows tracks pattern) out
