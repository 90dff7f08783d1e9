-- Two modules in the other order have the same differences.
use Prim.Native.Nat.{ℕ, ◌-◌, max}
use Rattle.std.specs.Prelude.{Result, Ok, Err}
use Rattle.refusal.specs.declared.Refusal.{Refusal}
use mathlib.Core.Path.{◌≡◌, refl, sym, ap, ◌∙◌}
use mathlib.Core.List.{List, [], ◌∷◌, ◌++◌}
use mathlib.Core.Bool.{Bool, true, false, cond, not, ◌&&◌}
use native.Mathlib.Omega.{arith}
use lib.ListN.{get_or}
use lib.Dec.{eqb}
use borrow.Author.Tests.{eq-eqb, eqb-true}
use Rattle.vocabulary.specs.Lists.{joined}
use Rattle.cells.specs.Cells.{Cell, Row, empty_cell}
use Rattle.numbers.specs.Numbers.{each_from}
use Rattle.differences.specs.Differences.{whole_difference, difference_if}
use Rattle.differences.specs.declared.Difference.{Difference}
use Rattle.differences.proofs.EqualBytes.{equal-turned}
use Rattle.packed_rows.specs.Entries.{rows_from}
use Rattle.packed_rows.specs.Stream.{read_stream, entries_read}
use Rattle.packed_rows.specs.Comparing.{field_difference, cell_differences, row_differences, pattern_differences, stream_differences}
use Rattle.layout.specs.declared.Layout.{Layout}
use Rattle.blocks.specs.StoredFields.{pattern_rows, packed_bytes}
use Rattle.blocks.specs.RecordKinds.{count_of}
use Rattle.blocks.specs.declared.RecordKind.{RecordKind}
use Rattle.blocks.specs.declared.RecordKind.TheVariants.{Song, Instrument, Pattern, Sample, VolumeEnvelope, PanningEnvelope}
use Rattle.module.specs.Verdicts.{opened}
use Rattle.acceptance.proofs.Holding.{and-says}
use Rattle.queries.specs.Finding.{first_of, there, block_of}
use Rattle.summary.specs.Shown.{name_of}
use Rattle.compare.specs.Compared.{kind_of, number_differences, compared_record, record_differences, sizes_same}
use Rattle.compare.specs.Compared.{patterns_differences, block_differences, numbered_differences, kind_differences, differences, module_differences}
use Rattle.compare_theorems.proofs.EachNumber.{same_numbers}
use Rattle.compare_theorems.proofs.BothOpen.{both_found, first-refused, second-refused}

-- The tests: of two numbers, and of two things that must both hold.
numbers-swapped : (a b : ℕ) → eqb a b ≡ eqb b a
numbers-swapped a b = go (eqb a b) (eqb b a) refl refl
  where
    go : (p q : Bool) → eqb a b ≡ p → eqb b a ≡ q → p ≡ q
    go true true e f = refl
    go true false e f = sym (eq-eqb b a (sym (eqb-true a b e))) ∙ f
    go false true e f = sym e ∙ eq-eqb a b (sym (eqb-true b a f))
    go false false e f = refl

both-swapped : (p q : Bool) → (p && q) ≡ (q && p)
both-swapped true true = refl
both-swapped true false = refl
both-swapped false true = refl
both-swapped false false = refl

-- G5: patterns.
module _ (pattern : ℕ) where
  cell-swapped : (row track : ℕ) (a b : Cell) → cell_differences pattern row track a b ≡ cell_differences pattern row track b a
  cell-swapped row track a b =
      same_numbers (field_difference pattern row track a b) (field_difference pattern row track b a) 6 1
      (λ field. ap (λ (same : Bool). difference_if (not same) (record { kind = 8; number = pattern; row = row; track = track; field = field }))
      (numbers-swapped (get_or a (field - 1) 0) (get_or b (field - 1) 0)))

  row-swapped : (tracks row : ℕ) (a b : Row) → row_differences pattern tracks row a b ≡ row_differences pattern tracks row b a
  row-swapped tracks row a b =
      same_numbers _ _ tracks 1 (λ track. cell-swapped row track (get_or a (track - 1) empty_cell) (get_or b (track - 1) empty_cell))

  pattern-swapped : (rows tracks : ℕ) (a b : List Row) → pattern_differences pattern rows tracks a b ≡ pattern_differences pattern rows tracks b a
  pattern-swapped rows tracks a b = same_numbers _ _ rows 0 (λ row. row-swapped tracks row (get_or a row []) (get_or b row []))

  stream-swapped : (a b : List ℕ) (rows tracks : ℕ) → stream_differences a b rows tracks pattern ≡ stream_differences b a rows tracks pattern
  stream-swapped a b rows tracks =
      let first : List Row = rows_from tracks (entries_read (read_stream rows tracks a)) in
      let second : List Row = rows_from tracks (entries_read (read_stream rows tracks b)) in
      pattern-swapped rows tracks first second

field-swapped : (a b field : ℕ) → number_differences a b field ≡ number_differences b a field
field-swapped a b field = ap (λ (same : Bool). difference_if (not same) (whole_difference 2 field)) (numbers-swapped a b)

append-same : {a b c d : List Difference} → a ≡ b → c ≡ d → a ++ c ≡ b ++ d
append-same {b = b} {c = c} e f = ap (◌++ c) e ∙ ap (b ++◌) f

module _ (m : List ℕ) (l : Layout) (k : List ℕ) (j : Layout) where
  record-swapped : (kind : RecordKind) (number at to : ℕ)
      → record_differences m l k j kind number at to ≡ record_differences k j m l kind number to at
  record-swapped kind number at to =
      ap (λ (same : Bool). difference_if (not same) (whole_difference (kind_of kind) number))
      (equal-turned (compared_record m l.version kind at) (compared_record k j.version kind to))

  sizes-swapped : (at to : ℕ) → sizes_same m l k j at to ≡ sizes_same k j m l to at
  sizes-swapped at to =
      ap (◌&& eqb (pattern_rows m at) (pattern_rows k to)) (numbers-swapped l.tracks j.tracks)
      ∙ ap (eqb j.tracks l.tracks &&◌) (numbers-swapped (pattern_rows m at) (pattern_rows k to))

  patterns-swapped : (number at to : ℕ) → patterns_differences m l k j number at to ≡ patterns_differences k j m l number to at
  patterns-swapped number at to =
      go (sizes_same m l k j at to) refl ∙ ap (λ (b : Bool). cond b theirs whole) (sizes-swapped at to)
    where
      whole : List Difference
      whole = whole_difference 8 number ∷ []

      ours : List Difference
      ours = stream_differences (packed_bytes m at) (packed_bytes k to) (pattern_rows m at) l.tracks number

      theirs : List Difference
      theirs = stream_differences (packed_bytes k to) (packed_bytes m at) (pattern_rows k to) j.tracks number

      go : (b : Bool) → sizes_same m l k j at to ≡ b → cond (sizes_same m l k j at to) ours whole ≡ cond (sizes_same m l k j at to) theirs whole
      go true e =
          let says = (and-says (eqb l.tracks j.tracks) (eqb (pattern_rows m at) (pattern_rows k to))).0 e in
          let tracks : l.tracks ≡ j.tracks = eqb-true l.tracks j.tracks says.0 in
          let rows : pattern_rows m at ≡ pattern_rows k to = eqb-true (pattern_rows m at) (pattern_rows k to) says.1 in
          ap (λ (ds : List Difference). cond (sizes_same m l k j at to) ds whole)
          (stream-swapped number (packed_bytes m at) (packed_bytes k to) (pattern_rows m at) l.tracks
          ∙ ap (λ (n : ℕ). stream_differences (packed_bytes k to) (packed_bytes m at) n l.tracks number) rows
          ∙ ap (λ (n : ℕ). stream_differences (packed_bytes k to) (packed_bytes m at) (pattern_rows k to) n number) tracks)
      go false e = ap (λ (b : Bool). cond b ours whole) e ∙ ap (λ (b : Bool). cond b theirs whole) (sym e)

  block-swapped : (kind : RecordKind) (number at to : ℕ) → block_differences m l k j kind number at to ≡ block_differences k j m l kind number to at
  block-swapped Song number at to = record-swapped Song number at to
  block-swapped Instrument number at to = record-swapped Instrument number at to
  block-swapped Pattern number at to = patterns-swapped number at to
  block-swapped Sample number at to = record-swapped Sample number at to
  block-swapped VolumeEnvelope number at to = record-swapped VolumeEnvelope number at to
  block-swapped PanningEnvelope number at to = record-swapped PanningEnvelope number at to

  numbered-swapped : (kind : RecordKind) (number : ℕ) → numbered_differences m l k j kind number ≡ numbered_differences k j m l kind number
  numbered-swapped kind number =
      let at : ℕ = (block_of m l kind number).at in
      let to : ℕ = (block_of k j kind number).at in
      let whole : List Difference = whole_difference (kind_of kind) number ∷ [] in
      ap (λ (b : Bool). cond b (block_differences m l k j kind number at to) whole) (both-swapped (there m l kind number) (there k j kind number))
      ∙ ap (λ (ds : List Difference). cond (there k j kind number && there m l kind number) ds whole) (block-swapped kind number at to)

  kind-swapped : (kind : RecordKind) → kind_differences m l k j kind ≡ kind_differences k j m l kind
  kind-swapped kind =
      let many : max (count_of m l kind) (count_of k j kind) ≡ max (count_of k j kind) (count_of m l kind) = omega arith in
      same_numbers (numbered_differences m l k j kind) (numbered_differences k j m l kind) (max (count_of m l kind) (count_of k j kind)) (first_of kind)
      (numbered-swapped kind)
      ∙ ap (λ (n : ℕ). joined (each_from (numbered_differences k j m l kind) (first_of kind) n)) many

  list-swapped : differences m l k j ≡ differences k j m l
  list-swapped =
      append-same
      (ap (λ (same : Bool). difference_if (not same) (whole_difference 1 0)) (equal-turned (name_of m l) (name_of k j)))
      (append-same
      (append-same (field-swapped l.instruments j.instruments 0)
      (append-same (field-swapped l.samples j.samples 1)
      (append-same (field-swapped l.songs j.songs 2)
      (append-same (field-swapped l.patterns j.patterns 3) (field-swapped l.tracks j.tracks 4)))))
      (append-same (kind-swapped Song)
      (append-same (kind-swapped Instrument)
      (append-same (kind-swapped VolumeEnvelope)
      (append-same (kind-swapped PanningEnvelope)
      (append-same (kind-swapped Sample) (kind-swapped Pattern)))))))

-- For all lists of numbers; both lists are empty if a module is refused.
pub differences-swapped : (m k : List ℕ) → module_differences m k ≡ module_differences k m
differences-swapped m k = go (opened m) (opened k) refl refl
  where
    go : (o p : Result Layout Refusal) → opened m ≡ o → opened k ≡ p → module_differences m k ≡ module_differences k m
    go (Ok l) (Ok j) o p = both_found m k o p ∙ list-swapped m l k j ∙ sym (both_found k m p o)
    go (Ok l) (Err r) o p = second-refused m k p ∙ sym (first-refused k m p)
    go (Err r) (Ok j) o p = first-refused m k o ∙ sym (second-refused k m o)
    go (Err r) (Err s) o p = first-refused m k o ∙ sym (first-refused k m p)
