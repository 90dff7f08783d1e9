-- A module does not differ from itself.
use Prim.Native.Nat.{ℕ, ◌+◌, ◌-◌, ◌≤◌, ◌<◌, max}
use Rattle.std.specs.Prelude.{Result, Ok, Err}
use Rattle.refusal.specs.declared.Refusal.{Refusal}
use mathlib.Core.Path.{◌≡◌, refl, ap, ◌∙◌}
use mathlib.Core.List.{List, [], ◌∷◌, ◌++◌}
use mathlib.Core.Bool.{Bool, true, cond, not, ◌&&◌}
use native.Mathlib.Omega.{arith}
use borrow.Author.Tests.{eq-eqb, le-leb, lt-ltb}
use Rattle.cells.specs.Cells.{Row}
use Rattle.differences.specs.Differences.{whole_difference, difference_if}
use Rattle.differences.specs.declared.Difference.{Difference}
use Rattle.differences.proofs.EqualBytes.{same-equal}
use Rattle.packed_rows.specs.Entries.{rows_from}
use Rattle.packed_rows.specs.Stream.{read_stream, entries_read}
use Rattle.packed_rows.specs.Comparing.{stream_differences}
use Rattle.layout.specs.declared.Layout.{Layout}
use Rattle.blocks.specs.StoredFields.{pattern_rows, packed_bytes}
use Rattle.blocks.specs.RecordKinds.{count_of}
use Rattle.blocks.specs.declared.RecordKind.{RecordKind}
use Rattle.blocks.specs.declared.RecordKind.TheVariants.{Song, Instrument, Pattern, Sample, VolumeEnvelope, PanningEnvelope}
use Rattle.module.specs.Verdicts.{opened}
use Rattle.queries.specs.Finding.{first_of, there, block_of}
use Rattle.summary.specs.Shown.{name_of}
use Rattle.compare.specs.Compared.{kind_of, number_differences, compared_record, record_differences, sizes_same}
use Rattle.compare.specs.Compared.{patterns_differences, block_differences, numbered_differences, kind_differences, differences, module_differences}
use Rattle.packed_rows.proofs.EachFrom.{joined-empty}
use Rattle.packed_rows.proofs.EqualPatterns.{pattern-itself}
use Rattle.compare_theorems.proofs.BothOpen.{both_found, first-refused}

-- A test that finds two things equal gives no entry.
no_difference : {same : Bool} (d : Difference) → same ≡ true → difference_if (not same) d ≡ []
no_difference d e = ap (λ (same : Bool). difference_if (not same) d) e

-- Two lists that are both empty, one after the other.
nothing-more : {xs ys : List Difference} → xs ≡ [] → ys ≡ [] → xs ++ ys ≡ []
nothing-more {ys = ys} e f = ap (◌++ ys) e ∙ f

number-itself : (a field : ℕ) → number_differences a a field ≡ []
number-itself a field = no_difference (whole_difference 2 field) (eq-eqb a a refl)

module _ (m : List ℕ) (l : Layout) where
  record-itself : (kind : RecordKind) (number at : ℕ) → record_differences m l m l kind number at at ≡ []
  record-itself kind number at =
      no_difference (whole_difference (kind_of kind) number) (same-equal (compared_record m l.version kind at))

  patterns-itself : (number at : ℕ) → patterns_differences m l m l number at at ≡ []
  patterns-itself number at =
      let whole : List Difference = whole_difference 8 number ∷ [] in
      let rows : List Row = rows_from l.tracks (entries_read (read_stream (pattern_rows m at) l.tracks (packed_bytes m at))) in
      let same : sizes_same m l m l at at ≡ true = simp (eq-eqb l.tracks l.tracks refl, eq-eqb (pattern_rows m at) (pattern_rows m at) refl) in
      ap (λ (b : Bool). cond b (stream_differences (packed_bytes m at) (packed_bytes m at) (pattern_rows m at) l.tracks number) whole) same
      ∙ pattern-itself number l.tracks (pattern_rows m at) rows

  block-itself : (kind : RecordKind) (number at : ℕ) → block_differences m l m l kind number at at ≡ []
  block-itself Song number at = record-itself Song number at
  block-itself Instrument number at = record-itself Instrument number at
  block-itself Pattern number at = patterns-itself number at
  block-itself Sample number at = record-itself Sample number at
  block-itself VolumeEnvelope number at = record-itself VolumeEnvelope number at
  block-itself PanningEnvelope number at = record-itself PanningEnvelope number at

  numbered-itself : (kind : RecordKind) (number : ℕ) → first_of kind ≤ number → number < first_of kind + count_of m l kind
      → numbered_differences m l m l kind number ≡ []
  numbered-itself kind number low high =
      let at : ℕ = (block_of m l kind number).at in
      let whole : List Difference = whole_difference (kind_of kind) number ∷ [] in
      let counted : number - first_of kind < count_of m l kind = omega (arith, low, high) in
      let both : (there m l kind number && there m l kind number) ≡ true =
      simp (le-leb (first_of kind) number low, lt-ltb (number - first_of kind) (count_of m l kind) counted) in
      ap (λ (b : Bool). cond b (block_differences m l m l kind number at at) whole) both
      ∙ block-itself kind number at

  kind-itself : (kind : RecordKind) → kind_differences m l m l kind ≡ []
  kind-itself kind =
      joined-empty (numbered_differences m l m l kind) (max (count_of m l kind) (count_of m l kind)) (first_of kind)
      (λ number low high. numbered-itself kind number low (omega (arith, high)))

  list-itself : differences m l m l ≡ []
  list-itself =
      nothing-more (no_difference (whole_difference 1 0) (same-equal (name_of m l)))
      (nothing-more
      (nothing-more (number-itself l.instruments 0)
      (nothing-more (number-itself l.samples 1)
      (nothing-more (number-itself l.songs 2)
      (nothing-more (number-itself l.patterns 3) (number-itself l.tracks 4)))))
      (nothing-more (kind-itself Song)
      (nothing-more (kind-itself Instrument)
      (nothing-more (kind-itself VolumeEnvelope)
      (nothing-more (kind-itself PanningEnvelope)
      (nothing-more (kind-itself Sample) (kind-itself Pattern)))))))

pub differences-itself : (m : List ℕ) → module_differences m m ≡ []
differences-itself m = go (opened m) refl
  where
    go : (o : Result Layout Refusal) → opened m ≡ o → module_differences m m ≡ []
    go (Ok l) o = both_found m m o o ∙ list-itself m l
    go (Err r) o = first-refused m m o
