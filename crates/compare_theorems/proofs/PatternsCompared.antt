-- The entries for the cells of two patterns with the same sizes: one for each field of which the query for all cells does not show the same.
use Prim.Native.Nat.{ℕ, ◌+◌, ◌-◌, ◌*◌, ◌≤◌, ◌<◌}
use Rattle.std.specs.Prelude.{Ok}
use mathlib.Core.Path.{◌≡◌, refl, sym, ap, ◌∙◌}
use mathlib.Core.Logic.{◌↔◌}
use mathlib.Core.List.{List, [], ◌++◌, append-nil}
use mathlib.Core.Bool.{true}
use native.Mathlib.Omega.{arith}
use lib.ListN.{length, get_or, replicate, drop_of_length-le, length-replicate}
use lib.Dec.{eqb}
use Rattle.vocabulary.proofs.Splits.{Within}
use Rattle.cells.specs.Cells.{Row, empty_cell, cell_bytes}
use Rattle.differences.specs.declared.Difference.{Difference}
use Rattle.packed_rows.specs.Entries.{row_from}
use Rattle.packed_rows.specs.Stream.{cells_read, AcceptedAs}
use Rattle.packed_rows.specs.Answers.{check_answer, unpack_output}
use Rattle.packed_rows.specs.Steps.{rows_read}
use Rattle.packed_rows.specs.Comparing.{field_difference, cell_differences, row_differences, pattern_differences}
use Rattle.packed_rows.proofs.Shapes.{get_or-mapped}
use Rattle.packed_rows.proofs.Accepted.{accepted-stream, accepted-field}
use Rattle.packed_rows.proofs.Unpacks.{unpacked-output}
use Rattle.acceptance.proofs.Holding.{eqb-says}
use Rattle.acceptance.proofs.BlockStreams.{accepted-sizes, holds}
use Rattle.compare_theorems.proofs.InList.{in-joined, in-unless}

-- A field of a pattern: rows are counted from 0, tracks and fields from 1.
abbrev pub field_of : List Row → ℕ → ℕ → ℕ → ℕ
field_of rows row track field = get_or (get_or (get_or rows row []) (track - 1) empty_cell) (field - 1) 0

-- There is an entry for a field in which two patterns differ.
pub record FieldDiffers (pattern rows tracks : ℕ) (a b : List Row) (d : Difference) : Type 0 where
  pub row : ℕ
  pub track : ℕ
  pub field : ℕ
  pub row_most : row < rows
  pub track_least : 1 ≤ track
  pub track_most : track ≤ tracks
  pub field_least : 1 ≤ field
  pub field_most : field ≤ 6
  pub differs : field_of a row track field ≡ field_of b row track field → ⊥
  pub entry : d ≡ record { kind = 8; number = pattern; row = row; track = track; field = field }

module _ (pattern rows tracks : ℕ) (a b : List Row) (d : Difference) where
  abbrev in_row : ℕ → List Difference
  in_row row = row_differences pattern tracks row (get_or a row []) (get_or b row [])

  abbrev in_cell : ℕ → ℕ → List Difference
  in_cell row track = cell_differences pattern row track (get_or (get_or a row []) (track - 1) empty_cell) (get_or (get_or b row []) (track - 1) empty_cell)

  abbrev in_field : ℕ → ℕ → ℕ → List Difference
  in_field row track = field_difference pattern row track (get_or (get_or a row []) (track - 1) empty_cell) (get_or (get_or b row []) (track - 1) empty_cell)

  same : (row track field : ℕ)
      → (eqb (field_of a row track field) (field_of b row track field) ≡ true)
      ↔ (field_of a row track field ≡ field_of b row track field)
  same row track field = eqb-says (field_of a row track field) (field_of b row track field)

  pub pattern-exact : Within (pattern_differences pattern rows tracks a b) d ↔ FieldDiffers pattern rows tracks a b d
  pattern-exact = (
    λ w.
        let r = (in-joined in_row 0 rows).0 w in
        let t = (in-joined (in_cell r.number) 1 tracks).0 r.within in
        let f = (in-joined (in_field r.number t.number) 1 6).0 t.within in
        let u = (in-unless _ _ d (same r.number t.number f.number)).0 f.within in
        record {
          row = r.number;
          track = t.number;
          field = f.number;
          row_most = omega (arith, r.most);
          track_least = t.least;
          track_most = omega (arith, t.most);
          field_least = f.least;
          field_most = omega (arith, f.most);
          differs = u.0;
          entry = u.1;
        },
    λ h.
        let u = (in-unless _ _ d (same h.row h.track h.field)).1 (h.differs, h.entry) in
        let f = (in-joined (in_field h.row h.track) 1 6).1
        (record { number = h.field; least = h.field_least; most = omega (arith, h.field_most); within = u }) in
        let t = (in-joined (in_cell h.row) 1 tracks).1
        (record { number = h.track; least = h.track_least; most = omega (arith, h.track_most); within = f }) in
        (in-joined in_row 0 rows).1 (record { number = h.row; least = omega arith; most = omega (arith, h.row_most); within = t }),
  )

-- A field as the query for all cells writes it.
module _ (stream : List ℕ) (rows tracks : ℕ) (accepted : check_answer stream rows tracks ≡ Ok tt) where
  abbrev zeros : List ℕ
  zeros = replicate (cell_bytes rows tracks) 0

  all-cells : unpack_output stream rows tracks zeros ≡ cells_read rows tracks stream
  all-cells =
      let size : length zeros ≡ cell_bytes rows tracks = length-replicate {A = ℕ} (cell_bytes rows tracks) 0 in
      unpacked-output rows tracks stream zeros (accepted-sizes stream rows tracks accepted) (omega (arith, size))
      (cells_read rows tracks stream) (holds stream rows tracks accepted)
      ∙ ap (cells_read rows tracks stream ++◌) (drop_of_length-le zeros {i = cell_bytes rows tracks} (omega (arith, size)))
      ∙ append-nil (cells_read rows tracks stream)

  pub stream-field : (row track field : ℕ) → row < rows → 1 ≤ track → track ≤ tracks → 1 ≤ field → field ≤ 6
      → get_or (unpack_output stream rows tracks zeros) (row * (tracks * 6) + ((track - 1) * 6 + (field - 1))) 0
      ≡ field_of (rows_read stream rows tracks) row track field
  stream-field row track field r t u f g =
      let a : AcceptedAs rows tracks stream (cells_read rows tracks stream) = holds stream rows tracks accepted in
      ap (λ (cells : List ℕ). get_or cells (row * (tracks * 6) + ((track - 1) * 6 + (field - 1))) 0) all-cells
      ∙ accepted-field a row (track - 1) (field - 1) r (omega (arith, t, u)) (omega (arith, f, g))
      ∙ ap (λ (cells : Row). get_or (get_or cells (track - 1) empty_cell) (field - 1) 0)
      (sym (get_or-mapped (row_from tracks) a.entries row [] [] (omega (arith, r, (accepted-stream a).count))))
      ∙ rw a.read refl
