-- The cells of a pattern that both modules have with the same sizes: the entries of the list are those of the fields that the queries show
-- and that differ.
use Prim.Native.Nat.{ℕ, ◌+◌, ◌-◌, ◌*◌, ◌≤◌, ◌<◌}
use Rattle.std.specs.Prelude.{Result, Ok}
use Rattle.refusal.specs.declared.Refusal.{Refusal}
use Rattle.queries.specs.declared.Block.{Block}
use mathlib.Core.Path.{◌≡◌, refl, sym, ap, ◌∙◌}
use mathlib.Core.Logic.{◌↔◌}
use mathlib.Core.List.{List}
use native.Mathlib.Omega.{arith}
use lib.ListN.{get_or, replicate}
use Rattle.vocabulary.proofs.Splits.{Within}
use Rattle.cells.specs.Cells.{Row, cell_bytes}
use Rattle.differences.specs.declared.Difference.{Difference}
use Rattle.packed_rows.specs.Steps.{rows_read}
use Rattle.packed_rows.specs.Comparing.{stream_differences}
use Rattle.layout.specs.declared.Layout.{Layout}
use Rattle.blocks.specs.StoredFields.{pattern_rows, packed_bytes}
use Rattle.blocks.specs.declared.RecordKind.TheVariants.{Pattern}
use Rattle.module.specs.Verdicts.{opened}
use Rattle.queries.specs.Finding.{block_of, found}
use Rattle.patterns.specs.Shown.{rows_if, rows_answer, cells_output_if}
use Rattle.summary.specs.Shown.{info_answer}
use Rattle.query_theorems.proofs.FoundPatterns.{stream-accepted}
use Rattle.compare_theorems.specs.Differs.{shown_field, FieldThere}
use Rattle.compare_theorems.proofs.SameShown.{tracks-here}
use Rattle.compare_theorems.proofs.PatternsCompared.{field_of, pattern-exact, stream-field}

-- A pattern that a module has.
module _ (m : List ℕ) (l : Layout) (o : opened m ≡ Ok l) (number : ℕ) (e : found m Pattern number ≡ Ok (block_of m l Pattern number)) where
  abbrev at : ℕ
  at = (block_of m l Pattern number).at

  -- The rows of cells that its stream holds.
  abbrev pub stored_rows : List Row
  stored_rows = rows_read (packed_bytes m at) (pattern_rows m at) l.tracks

  pub rows-shown : (rows_answer m number).rows ≡ pattern_rows m at
  rows-shown = ap (λ (f : Result Block Refusal). (rows_if m f).rows) e

  module _ (row track field : ℕ) where
    pub field-there : row < pattern_rows m at → 1 ≤ track → track ≤ l.tracks → 1 ≤ field → field ≤ 6 → FieldThere m number row track field
    field-there r t u f g = record {
      found = ap (λ (f : Result Block Refusal). (rows_if m f).outcome.number) e;
      row_most = omega (arith, r, rows-shown);
      track_least = t;
      track_most = omega (arith, u, tracks-here m l o);
      field_least = f;
      field_most = g;
    }

    pub field-shown : FieldThere m number row track field → shown_field m number row track field ≡ field_of stored_rows row track field
    field-shown h =
        ap (λ (f : Result Block Refusal). get_or (cells_output_if m (replicate (cell_bytes (rows_if m f).rows (info_answer m).tracks) 0) f)
        (row * ((info_answer m).tracks * 6) + ((track - 1) * 6 + (field - 1))) 0) e
        ∙ ap (λ (t : ℕ). get_or (cells_output_if m (replicate (cell_bytes (pattern_rows m at) t) 0) (Ok (block_of m l Pattern number)))
        (row * (t * 6) + ((track - 1) * 6 + (field - 1))) 0) (tracks-here m l o)
        ∙ stream-field (packed_bytes m at) (pattern_rows m at) l.tracks (stream-accepted m number (block_of m l Pattern number) e) row track field
        (omega (arith, h.row_most, rows-shown)) h.track_least (omega (arith, h.track_most, tracks-here m l o)) h.field_least h.field_most

-- There is an entry for a field that the queries show and that differs.
pub record CellDiffers (m k : List ℕ) (number : ℕ) (d : Difference) : Type 0 where
  pub row : ℕ
  pub track : ℕ
  pub field : ℕ
  pub there : FieldThere m number row track field
  pub differs : shown_field m number row track field ≡ shown_field k number row track field → ⊥
  pub entry : d ≡ record { kind = 8; number = number; row = row; track = track; field = field }

-- A pattern that both modules have, with the same sizes.
module _ (m k : List ℕ) (l j : Layout) (o : opened m ≡ Ok l) (p : opened k ≡ Ok j) (number : ℕ)
    (e : found m Pattern number ≡ Ok (block_of m l Pattern number)) (f : found k Pattern number ≡ Ok (block_of k j Pattern number))
    (rows : pattern_rows m (block_of m l Pattern number).at ≡ pattern_rows k (block_of k j Pattern number).at) (tracks : l.tracks ≡ j.tracks) where
  abbrev here : ℕ
  here = (block_of m l Pattern number).at

  abbrev there : ℕ
  there = (block_of k j Pattern number).at

  -- The rows of cells of the second, by the sizes of the first.
  abbrev pub other_rows : List Row
  other_rows = rows_read (packed_bytes k there) (pattern_rows m here) l.tracks

  pub other-rows : stored_rows k j p number f ≡ other_rows
  other-rows = rw (rows, tracks) refl

  module _ (row track field : ℕ) (h : FieldThere m number row track field) where
    same-there : FieldThere k number row track field
    same-there =
        field-there k j p number f row track field
        (omega (arith, h.row_most, rows-shown m l o number e, rows)) h.track_least
        (omega (arith, h.track_most, tracks-here m l o, tracks)) h.field_least h.field_most

    pub fields-shown : (shown_field m number row track field ≡ shown_field k number row track field)
        ↔ (field_of (stored_rows m l o number e) row track field ≡ field_of other_rows row track field)
    fields-shown =
        let first : shown_field m number row track field ≡ field_of (stored_rows m l o number e) row track field =
        field-shown m l o number e row track field h in
        let second : shown_field k number row track field ≡ field_of other_rows row track field =
        field-shown k j p number f row track field same-there ∙ ap (λ (r : List Row). field_of r row track field) other-rows in
        (λ s. sym first ∙ s ∙ second, λ s. first ∙ s ∙ sym second)

  pub cells-exact : (d : Difference)
      → Within (stream_differences (packed_bytes m here) (packed_bytes k there) (pattern_rows m here) l.tracks number) d ↔ CellDiffers m k number d
  cells-exact d =
      let exact = pattern-exact number (pattern_rows m here) l.tracks (stored_rows m l o number e) other_rows d in (
        λ w.
            let h = exact.0 w in
            let t = field-there m l o number e h.row h.track h.field h.row_most h.track_least h.track_most h.field_least h.field_most in
            record {
              row = h.row;
              track = h.track;
              field = h.field;
              there = t;
              differs = λ s. h.differs ((fields-shown h.row h.track h.field t).0 s);
              entry = h.entry;
            },
        λ h.
            exact.1 (record {
              row = h.row;
              track = h.track;
              field = h.field;
              row_most = omega (arith, h.there.row_most, rows-shown m l o number e);
              track_least = h.there.track_least;
              track_most = omega (arith, h.there.track_most, tracks-here m l o);
              field_least = h.there.field_least;
              field_most = h.there.field_most;
              differs = λ s. h.differs ((fields-shown h.row h.track h.field h.there).1 s);
              entry = h.entry;
            }),
      )
