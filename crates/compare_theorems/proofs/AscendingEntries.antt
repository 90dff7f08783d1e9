-- G2: the list of differences is ascending: by kind, by number, and in a pattern by row, track and field.
use Prim.Native.Nat.{ℕ, ◌-◌, ◌<◌, max}
use mathlib.Core.Path.{refl, sym, ◌∙◌}
use mathlib.Core.List.{List, [], ◌∷◌}
use mathlib.Core.Bool.{Bool, true, false, cond, not, ◌&&◌}
use lib.ListN.{get_or}
use lib.Dec.{eqb}
use Rattle.cells.specs.Cells.{Cell, Row, empty_cell}
use Rattle.differences.specs.Differences.{whole_difference, difference_if, equal_bytes}
use Rattle.differences.specs.declared.Difference.{Difference}
use Rattle.packed_rows.specs.Entries.{rows_from}
use Rattle.packed_rows.specs.Stream.{read_stream, entries_read}
use Rattle.packed_rows.specs.Comparing.{field_difference, cell_differences, row_differences, pattern_differences, stream_differences}
use Rattle.layout.specs.declared.Layout.{Layout}
use Rattle.blocks.specs.StoredFields.{pattern_rows, packed_bytes}
use Rattle.blocks.specs.RecordKinds.{count_of}
use Rattle.blocks.specs.declared.RecordKind.{RecordKind}
use Rattle.blocks.specs.declared.RecordKind.TheVariants.{Song, Instrument, Pattern, Sample, VolumeEnvelope, PanningEnvelope}
use Rattle.queries.specs.Finding.{first_of, there, block_of}
use Rattle.summary.specs.Shown.{name_of}
use Rattle.compare.specs.Compared.{kind_of, name_differences, number_differences, info_differences, compared_record, record_differences, sizes_same}
use Rattle.compare.specs.Compared.{block_differences, numbered_differences, kind_differences, differences, module_differences}
use Rattle.compare_theorems.specs.Differs.{Before, Ascending}
use Rattle.compare_theorems.proofs.BothOpen.{by-layouts}
use Rattle.compare_theorems.proofs.AscendingLists.{difference-ascending, difference-every, Having}
use Rattle.compare_theorems.proofs.AscendingLists.{Section, Rising, rising-last, rising-more, rising-each, rising-every}

-- The five numbers of an entry.
abbrev kind-of : Difference → ℕ
kind-of d = d.kind

abbrev number_of : Difference → ℕ
number_of d = d.number

abbrev row_of : Difference → ℕ
row_of d = d.row

abbrev track-of : Difference → ℕ
track-of d = d.track

abbrev field_of : Difference → ℕ
field_of d = d.field

-- Entries that agree in the first numbers: in none, in the kind, in kind and number, and so on.
abbrev Any : Difference → Type 0
Any d = Unit {0}

abbrev OfKind : ℕ → Difference → Type 0
OfKind kind = Having Any kind-of kind

abbrev Numbered : ℕ → ℕ → Difference → Type 0
Numbered kind number = Having (OfKind kind) number_of number

abbrev InRow : ℕ → ℕ → ℕ → Difference → Type 0
InRow kind number row = Having (Numbered kind number) row_of row

abbrev InCell : ℕ → ℕ → ℕ → ℕ → Difference → Type 0
InCell kind number row track = Having (InRow kind number row) track-of track

-- The next number then decides.
by_kind : (d e : Difference) → Any d → Any e → d.kind < e.kind → Before d e
by_kind d e p q less = Before.kind less

by_number : (kind : ℕ) (d e : Difference) → OfKind kind d → OfKind kind e → d.number < e.number → Before d e
by_number kind d e p q less = Before.number (p.1 ∙ sym q.1) less

by_row : (kind number : ℕ) (d e : Difference) → Numbered kind number d → Numbered kind number e → d.row < e.row → Before d e
by_row kind number d e p q less = Before.row (p.0.1 ∙ sym q.0.1) (p.1 ∙ sym q.1) less

by-track : (kind number row : ℕ) (d e : Difference) → InRow kind number row d → InRow kind number row e → d.track < e.track → Before d e
by-track kind number row d e p q less =
    Before.track (p.0.0.1 ∙ sym q.0.0.1) (p.0.1 ∙ sym q.0.1) (p.1 ∙ sym q.1) less

by_field : (kind number row track : ℕ) (d e : Difference) → InCell kind number row track d → InCell kind number row track e → d.field < e.field
    → Before d e
by_field kind number row track d e p q less =
    Before.field (p.0.0.0.1 ∙ sym q.0.0.0.1) (p.0.0.1 ∙ sym q.0.0.1) (p.0.1 ∙ sym q.0.1) (p.1 ∙ sym q.1) less

-- G5: a cell, a row and a pattern.
module _ (pattern : ℕ) where
  cell-rising : (row track : ℕ) (a b : Cell)
      → Rising (InCell 8 pattern row track) field_of (by_field 8 pattern row track) 1 (cell_differences pattern row track a b)
  cell-rising row track a b = rising-each _ _ _ (field_difference pattern row track a b) one 6 1
    where
      one : (field : ℕ) → Section (InCell 8 pattern row track) field_of (by_field 8 pattern row track) field (field_difference pattern row track a b field)
      one field = record {
        ascending = difference-ascending (not (eqb (get_or a (field - 1) 0) (get_or b (field - 1) 0))) _;
        every = difference-every (not (eqb (get_or a (field - 1) 0) (get_or b (field - 1) 0))) _ (((((tt, refl), refl), refl), refl), refl);
      }

  row-rising : (tracks row : ℕ) (a b : Row)
      → Rising (InRow 8 pattern row) track-of (by-track 8 pattern row) 1 (row_differences pattern tracks row a b)
  row-rising tracks row a b = rising-each _ _ _ _ one tracks 1
    where
      one : (track : ℕ) → Section (InRow 8 pattern row) track-of (by-track 8 pattern row) track
          (cell_differences pattern row track (get_or a (track - 1) empty_cell) (get_or b (track - 1) empty_cell))
      one track =
          let cell = cell-rising row track (get_or a (track - 1) empty_cell) (get_or b (track - 1) empty_cell) in
          record { ascending = cell.ascending; every = rising-every _ _ _ cell }

  pattern-rising : (rows tracks : ℕ) (a b : List Row)
      → Rising (Numbered 8 pattern) row_of (by_row 8 pattern) 0 (pattern_differences pattern rows tracks a b)
  pattern-rising rows tracks a b = rising-each _ _ _ _ one rows 0
    where
      one : (row : ℕ) → Section (Numbered 8 pattern) row_of (by_row 8 pattern) row
          (row_differences pattern tracks row (get_or a row []) (get_or b row []))
      one row =
          let cells = row-rising tracks row (get_or a row []) (get_or b row []) in
          record { ascending = cells.ascending; every = rising-every _ _ _ cells }

-- G4, G5: what has one number, in one kind.
abbrev NumberedSection : ℕ → ℕ → List Difference → Type 0
NumberedSection kind = Section (OfKind kind) number_of (by_number kind)

one-difference : (kind number : ℕ) (b : Bool) → NumberedSection kind number (difference_if b (whole_difference kind number))
one-difference kind number b = record {
  ascending = difference-ascending b (whole_difference kind number);
  every = difference-every b (whole_difference kind number) ((tt, refl), refl);
}

field-section : (a b field : ℕ) → NumberedSection 2 field (number_differences a b field)
field-section a b field = one-difference 2 field (not (eqb a b))

stream-section : (a b : List ℕ) (rows tracks number : ℕ) → NumberedSection 8 number (stream_differences a b rows tracks number)
stream-section a b rows tracks number =
    let first : List Row = rows_from tracks (entries_read (read_stream rows tracks a)) in
    let second : List Row = rows_from tracks (entries_read (read_stream rows tracks b)) in
    let cells = pattern-rising number rows tracks first second in
    record { ascending = cells.ascending; every = rising-every _ _ _ cells }

module _ (m : List ℕ) (l : Layout) (k : List ℕ) (j : Layout) where
  patterns-section : (number at to : ℕ) (same : Bool)
      → NumberedSection 8 number
      (cond same (stream_differences (packed_bytes m at) (packed_bytes k to) (pattern_rows m at) l.tracks number) (whole_difference 8 number ∷ []))
  patterns-section number at to true = stream-section (packed_bytes m at) (packed_bytes k to) (pattern_rows m at) l.tracks number
  patterns-section number at to false = one-difference 8 number true

  record-section : (kind : RecordKind) (number at to : ℕ) → NumberedSection (kind_of kind) number (record_differences m l k j kind number at to)
  record-section kind number at to =
      one-difference (kind_of kind) number (not (equal_bytes (compared_record m l.version kind at) (compared_record k j.version kind to)))

  block-section : (kind : RecordKind) (number at to : ℕ) → NumberedSection (kind_of kind) number (block_differences m l k j kind number at to)
  block-section Song number at to = record-section Song number at to
  block-section Instrument number at to = record-section Instrument number at to
  block-section VolumeEnvelope number at to = record-section VolumeEnvelope number at to
  block-section PanningEnvelope number at to = record-section PanningEnvelope number at to
  block-section Sample number at to = record-section Sample number at to
  block-section Pattern number at to = patterns-section number at to (sizes_same m l k j at to)

  numbered-section : (kind : RecordKind) (number : ℕ) → NumberedSection (kind_of kind) number (numbered_differences m l k j kind number)
  numbered-section kind number = go (there m l kind number && there k j kind number)
    where
      go : (both : Bool) → NumberedSection (kind_of kind) number
          (cond both (block_differences m l k j kind number (block_of m l kind number).at (block_of k j kind number).at)
          (whole_difference (kind_of kind) number ∷ []))
      go true = block-section kind number (block_of m l kind number).at (block_of k j kind number).at
      go false = one-difference (kind_of kind) number true

  -- G2: the entries of one kind, and all of them.
  abbrev KindSection : ℕ → List Difference → Type 0
  KindSection = Section Any kind-of by_kind

  numbers-section : {kind : ℕ} {n : ℕ} {ds : List Difference} → Rising (OfKind kind) number_of (by_number kind) n ds → KindSection kind ds
  numbers-section r = record { ascending = r.ascending; every = rising-every _ _ _ r }

  kind-section : (kind : RecordKind) → KindSection (kind_of kind) (kind_differences m l k j kind)
  kind-section kind =
      numbers-section (rising-each _ _ _ _ (numbered-section kind) (max (count_of m l kind) (count_of k j kind)) (first_of kind))

  name-section : KindSection 1 (name_differences m l k j)
  name-section = numbers-section (rising-last _ _ _ (one-difference 1 0 (not (equal_bytes (name_of m l) (name_of k j)))))

  info-section : KindSection 2 (info_differences l j)
  info-section =
      numbers-section (rising-more _ _ _ (field-section l.instruments j.instruments 0)
      (rising-more _ _ _ (field-section l.samples j.samples 1)
      (rising-more _ _ _ (field-section l.songs j.songs 2)
      (rising-more _ _ _ (field-section l.patterns j.patterns 3)
      (rising-last _ _ _ (field-section l.tracks j.tracks 4))))))

  pub list-ascending : Ascending (differences m l k j)
  list-ascending =
      (rising-more _ _ _ name-section
      (rising-more _ _ _ info-section
      (rising-more _ _ _ (kind-section Song)
      (rising-more _ _ _ (kind-section Instrument)
      (rising-more _ _ _ (kind-section VolumeEnvelope)
      (rising-more _ _ _ (kind-section PanningEnvelope)
      (rising-more _ _ _ (kind-section Sample)
      (rising-last _ _ _ (kind-section Pattern))))))))).ascending

-- For all lists of numbers; the list is empty if a module is refused.
pub differences-ascending : (m k : List ℕ) → Ascending (module_differences m k)
differences-ascending m k = by-layouts m k Ascending Ascending.no_entries (λ l j o p. list-ascending m l k j)
