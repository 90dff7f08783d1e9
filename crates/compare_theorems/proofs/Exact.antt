-- Theorem 21: an entry is in the list of differences of two accepted modules exactly if it says something that differs in the answers of the
-- queries.
use Prim.Native.Nat.{ℕ, ◌<◌}
use Rattle.std.specs.Prelude.{Result, Ok}
use Rattle.refusal.specs.declared.Refusal.{Refusal}
use Rattle.queries.specs.declared.Block.{Block}
use mathlib.Core.Path.{◌≡◌, refl, sym, ap, subst, ◌∙◌}
use mathlib.Core.Logic.Iff
use mathlib.Core.Logic.{◌↔◌, ◌⊎◌, inl, inr}
use mathlib.Core.List.{List, ◌++◌, append-nil}
use mathlib.Core.Bool.{true}
use native.Mathlib.Omega.{arith}
use lib.ListN.{get_or}
use lib.Dec.{eqb}
use Rattle.vocabulary.specs.Lists.{joined}
use Rattle.vocabulary.proofs.Splits.{Within}
use Rattle.numbers.specs.Numbers.{Bytes, each_from}
use Rattle.differences.specs.Differences.{whole_difference, equal_bytes}
use Rattle.differences.specs.declared.Difference.{Difference}
use Rattle.layout.specs.declared.Layout.{Layout}
use Rattle.blocks.specs.StoredFields.{pattern_rows}
use Rattle.blocks.specs.declared.RecordKind.{RecordKind}
use Rattle.blocks.specs.declared.RecordKind.TheVariants.{Song, Instrument, Pattern, Sample, VolumeEnvelope, PanningEnvelope}
use Rattle.module.specs.Verdicts.{opened, module_verdict}
use Rattle.queries.specs.Finding.{block_of, found}
use Rattle.acceptance.proofs.Holding.{eqb-says}
use Rattle.acceptance.proofs.OpenModules.{accepted-opens}
use Rattle.patterns.specs.Shown.{rows_if, rows_answer}
use Rattle.patterns.specs.declared.RowsAnswer.{RowsAnswer}
use Rattle.summary.specs.Shown.{name_of, name_if, name_answer, shown_info, info_if, info_answer}
use Rattle.summary.specs.declared.NameAnswer.{NameAnswer}
use Rattle.compare.specs.Compared.{kind_of, name_differences, number_differences, info_differences, kind_differences, differences}
use Rattle.compare.specs.Compared.{module_differences}
use Rattle.compare_theorems.specs.Differs.{info_numbers, SameSizes, FieldThere, shown_field, Differs}
use Rattle.compare_theorems.specs.Differs.{name_differs as name, info_differs as info, song_differs as song, instrument_differs as instrument}
use Rattle.compare_theorems.specs.Differs.{volume_envelope_differs as volume_envelope, panning_envelope_differs as panning_envelope}
use Rattle.compare_theorems.specs.Differs.{sample_differs as sample, pattern_differs as pattern, cell_differs as cell}
use Rattle.compare_theorems.proofs.BothOpen.{both_found}
use Rattle.compare_theorems.proofs.InList.{in-none, in-front, in-back, in_either, in-joined, in-unless}
use Rattle.compare_theorems.proofs.SameShown.{Same, equal-exact, first-only, tracks-shown}
use Rattle.compare_theorems.proofs.NumbersCompared.{WhichHave, both, first, second, neither, which-have, cell_entries}
use Rattle.compare_theorems.proofs.NumbersCompared.{KindDiffers, whole, cells, kind-exact}
use Rattle.compare_theorems.proofs.CellsShown.{CellDiffers, cells-exact}

-- A number of INFO.
abbrev pub info_field : Layout → ℕ → ℕ
info_field x field = get_or (info_numbers (shown_info x)) field 0

module _ (m k : List ℕ) (bytes : Bytes m) (others : Bytes k) (l j : Layout) (o : opened m ≡ Ok l) (p : opened k ≡ Ok j) where
  -- The name.
  name-same : (name_of m l ≡ name_of k j) ↔ (name_answer m ≡ name_answer k)
  name-same =
      let here : name_answer m ≡ name_if m (Ok l) = ap (name_if m) o in
      let there : name_answer k ≡ name_if k (Ok j) = ap (name_if k) p in
      (λ e. here ∙ rw e refl ∙ sym there, λ e. ap (λ (a : NameAnswer). a.name) (sym here ∙ e ∙ there))

  pub name-tested : (equal_bytes (name_of m l) (name_of k j) ≡ true) ↔ (name_answer m ≡ name_answer k)
  name-tested = Iff.trans (equal-exact (name_of m l) (name_of k j)) name-same

  name-exact : (d : Difference) → Within (name_differences m l k j) d ↔ ((name_answer m ≡ name_answer k → ⊥) × (d ≡ whole_difference 1 0))
  name-exact d = in-unless (equal_bytes (name_of m l) (name_of k j)) (whole_difference 1 0) d name-tested

  -- INFO's numbers.
  abbrev info_entries : ℕ → List Difference
  info_entries field = number_differences (info_field l field) (info_field j field) field

  info-list : info_differences l j ≡ joined (each_from info_entries 0 5)
  info-list =
      ap (λ (rest : List Difference). info_entries 0 ++ (info_entries 1 ++ (info_entries 2 ++ (info_entries 3 ++ rest)))) (sym (append-nil (info_entries 4)))

  pub info-same : (field : ℕ)
      → (info_field l field ≡ info_field j field) ↔ (get_or (info_numbers (info_answer m)) field 0 ≡ get_or (info_numbers (info_answer k)) field 0)
  info-same field =
      let here : get_or (info_numbers (info_answer m)) field 0 ≡ info_field l field =
      ap (λ (x : Result Layout Refusal). get_or (info_numbers (info_if x)) field 0) o in
      let there : get_or (info_numbers (info_answer k)) field 0 ≡ info_field j field =
      ap (λ (x : Result Layout Refusal). get_or (info_numbers (info_if x)) field 0) p in
      (λ e. here ∙ e ∙ sym there, λ e. sym here ∙ e ∙ there)

  info-tested : (field : ℕ)
      → (eqb (info_field l field) (info_field j field) ≡ true)
      ↔ (get_or (info_numbers (info_answer m)) field 0 ≡ get_or (info_numbers (info_answer k)) field 0)
  info-tested field = Iff.trans (eqb-says (info_field l field) (info_field j field)) (info-same field)

  info-exact : (field : ℕ) (d : Difference) → Within (info_entries field) d
      ↔ ((get_or (info_numbers (info_answer m)) field 0 ≡ get_or (info_numbers (info_answer k)) field 0 → ⊥) × (d ≡ whole_difference 2 field))
  info-exact field d =
      in-unless (eqb (info_field l field) (info_field j field)) (whole_difference 2 field) d (info-tested field)

  -- The records: what is shown of them is what the queries answer.
  pub record-differs : (kind : RecordKind) (number : ℕ) → (Same m k kind number → ⊥) → Differs m k (whole_difference (kind_of kind) number)
  record-differs Song number h = song number (λ s. h (s.song, s.entry))
  record-differs Instrument number h = instrument number h
  record-differs Pattern number h = pattern number (λ s. h (s.rows, s.tracks))
  record-differs Sample number h = sample number (λ s. h (s.sample, (cc)))
  record-differs VolumeEnvelope number h = volume_envelope number h
  record-differs PanningEnvelope number h = panning_envelope number h

  -- The sizes of a pattern that both modules have, as they are stored.
  module _ (number : ℕ) (e : found m Pattern number ≡ Ok (block_of m l Pattern number)) (f : found k Pattern number ≡ Ok (block_of k j Pattern number)) where
    pub stored-rows : rows_answer m number ≡ rows_answer k number
        → pattern_rows m (block_of m l Pattern number).at ≡ pattern_rows k (block_of k j Pattern number).at
    stored-rows s = ap (λ (a : RowsAnswer). a.rows) (sym (ap (rows_if m) e) ∙ s ∙ ap (rows_if k) f)

    pub stored-tracks : Same m k Pattern number → l.tracks ≡ j.tracks
    stored-tracks s = (tracks-shown m k l j o p).0 (s.1 (ap (λ (x : Result Block Refusal). (rows_if m x).outcome.number) e))

    pattern_cells : Same m k Pattern number → (d : Difference)
        → Within (cell_entries m l k j Pattern number (block_of m l Pattern number).at (block_of k j Pattern number).at) d ↔ CellDiffers m k number d
    pattern_cells s = cells-exact m k l j o p number e f (stored-rows s.0) (stored-tracks s)

  cells-differ : (kind : RecordKind) (number : ℕ) (d : Difference) → found m kind number ≡ Ok (block_of m l kind number)
      → found k kind number ≡ Ok (block_of k j kind number) → Same m k kind number
      → Within (cell_entries m l k j kind number (block_of m l kind number).at (block_of k j kind number).at) d
      → Differs m k d
  cells-differ Song number d e f s w = absurd (in-none w)
  cells-differ Instrument number d e f s w = absurd (in-none w)
  cells-differ Pattern number d e f s w =
      let c = (pattern_cells number e f s d).0 w in
      subst (Differs m k) (sym c.entry)
      (cell number c.row c.track c.field (record { rows = s.0; tracks = s.1 }) c.there c.differs)
  cells-differ Sample number d e f s w = absurd (in-none w)
  cells-differ VolumeEnvelope number d e f s w = absurd (in-none w)
  cells-differ PanningEnvelope number d e f s w = absurd (in-none w)

  entry-differs : (kind : RecordKind) (d : Difference) → KindDiffers m k l j kind d → Differs m k d
  entry-differs kind d (whole number h e) = subst (Differs m k) (sym e) (record-differs kind number h)
  entry-differs kind d (cells number e f s w) = cells-differ kind number d e f s w

  -- From the list to the answers.
  module _ (d : Difference) where
    from-name : Within (name_differences m l k j) d → Differs m k d
    from-name w = let n = (name-exact d).0 w in subst (Differs m k) (sym n.1) (name n.0)

    from-info : Within (info_differences l j) d → Differs m k d
    from-info w =
        let a = (in-joined info_entries 0 5).0 (subst (λ (ds : List Difference). Within ds d) info-list w) in
        let n = (info-exact a.number d).0 a.within in
        subst (Differs m k) (sym n.1) (info a.number (omega (arith, a.most)) n.0)

    from-kind : (kind : RecordKind) → Within (kind_differences m l k j kind) d → Differs m k d
    from-kind kind w = entry-differs kind d ((kind-exact m k bytes others l j o p kind d).0 w)

    either : {xs ys : List Difference} → (Within xs d → Differs m k d) → (Within ys d → Differs m k d) → Within (xs ++ ys) d → Differs m k d
    either {xs} {ys} f g w = go (in_either xs ys w)
      where
        go : Within xs d ⊎ Within ys d → Differs m k d
        go (inl v) = f v
        go (inr v) = g v

    in-list-differs : Within (differences m l k j) d → Differs m k d
    in-list-differs =
        either from-name
        (either from-info
        (either (from-kind Song)
        (either (from-kind Instrument)
        (either (from-kind VolumeEnvelope)
        (either (from-kind PanningEnvelope)
        (either (from-kind Sample) (from-kind Pattern)))))))

    -- From the answers to the list.
    after-info : Within (kind_differences m l k j Song
        ++ (kind_differences m l k j Instrument
        ++ (kind_differences m l k j VolumeEnvelope
        ++ (kind_differences m l k j PanningEnvelope
        ++ (kind_differences m l k j Sample
        ++ kind_differences m l k j Pattern))))) d → Within (differences m l k j) d
    after-info w = in-back (name_differences m l k j) _ (in-back (info_differences l j) _ w)

    kind-in : (kind : RecordKind) → KindDiffers m k l j kind d → Within (differences m l k j) d
    kind-in kind entry = go kind ((kind-exact m k bytes others l j o p kind d).1 entry)
      where
        go : (kind : RecordKind) → Within (kind_differences m l k j kind) d → Within (differences m l k j) d
        go Song w = after-info (in-front (kind_differences m l k j Song) _ w)
        go Instrument w = after-info (in-back (kind_differences m l k j Song) _ (in-front (kind_differences m l k j Instrument) _ w))
        go VolumeEnvelope w =
            after-info (in-back (kind_differences m l k j Song) _ (in-back (kind_differences m l k j Instrument) _
            (in-front (kind_differences m l k j VolumeEnvelope) _ w)))
        go PanningEnvelope w =
            after-info (in-back (kind_differences m l k j Song) _ (in-back (kind_differences m l k j Instrument) _
            (in-back (kind_differences m l k j VolumeEnvelope) _ (in-front (kind_differences m l k j PanningEnvelope) _ w))))
        go Sample w =
            after-info (in-back (kind_differences m l k j Song) _ (in-back (kind_differences m l k j Instrument) _
            (in-back (kind_differences m l k j VolumeEnvelope) _ (in-back (kind_differences m l k j PanningEnvelope) _
            (in-front (kind_differences m l k j Sample) _ w)))))
        go Pattern w =
            after-info (in-back (kind_differences m l k j Song) _ (in-back (kind_differences m l k j Instrument) _
            (in-back (kind_differences m l k j VolumeEnvelope) _ (in-back (kind_differences m l k j PanningEnvelope) _
            (in-back (kind_differences m l k j Sample) _ w)))))

  info-in : (field : ℕ) → field < 5 → (get_or (info_numbers (info_answer m)) field 0 ≡ get_or (info_numbers (info_answer k)) field 0 → ⊥)
      → Within (info_differences l j) (whole_difference 2 field)
  info-in field less h =
      subst (λ (ds : List Difference). Within ds (whole_difference 2 field)) (sym info-list)
      ((in-joined info_entries 0 5).1
      (record { number = field; least = omega arith; most = omega (arith, less); within = (info-exact field (whole_difference 2 field)).1 (h, refl) }))

  -- A pattern with a field that is there and with the same sizes is in both modules.
  cell_in : (number row track field : ℕ) → SameSizes m k number → FieldThere m number row track field
      → (shown_field m number row track field ≡ shown_field k number row track field → ⊥)
      → KindDiffers m k l j Pattern (record { kind = 8; number = number; row = row; track = track; field = field })
  cell_in number row track field s there h = go refl refl (which-have m k l j o p Pattern number)
    where
      go : {f g : Result Block Refusal} → found m Pattern number ≡ f → found k Pattern number ≡ g → WhichHave m k l j Pattern number f g
          → KindDiffers m k l j Pattern (record { kind = 8; number = number; row = row; track = track; field = field })
      go e f (both t u) =
          cells number e f (s.rows, s.tracks) ((pattern_cells number e f (s.rows, s.tracks) _).1
          (record { row = row; track = track; field = field; there = there; differs = h; entry = refl }))
      go e f (first t u) = absurd (first-only m k (block_of m l Pattern number) Pattern (rw (e, f) at s.rows, rw e at s.tracks))
      go e f (second t u) = absurd (omega (arith, sym (ap (λ (x : Result Block Refusal). (rows_if m x).outcome.number) e) ∙ there.found))
      go e f (neither t u) = absurd (omega (arith, sym (ap (λ (x : Result Block Refusal). (rows_if m x).outcome.number) e) ∙ there.found))

  differs-in-list : (d : Difference) → Differs m k d → Within (differences m l k j) d
  differs-in-list d (name h) = in-front (name_differences m l k j) _ ((name-exact (whole_difference 1 0)).1 (h, refl))
  differs-in-list d (info field less h) = in-back (name_differences m l k j) _ (in-front (info_differences l j) _ (info-in field less h))
  differs-in-list d (song number h) = kind-in _ Song (whole number (λ s. h (record { song = s.0; entry = s.1 })) refl)
  differs-in-list d (instrument number h) = kind-in _ Instrument (whole number h refl)
  differs-in-list d (volume_envelope number h) = kind-in _ VolumeEnvelope (whole number h refl)
  differs-in-list d (panning_envelope number h) = kind-in _ PanningEnvelope (whole number h refl)
  differs-in-list d (sample number h) = kind-in _ Sample (whole number (λ s. h (record { sample = s.0; frames = (cc) })) refl)
  differs-in-list d (pattern number h) = kind-in _ Pattern (whole number (λ s. h (record { rows = s.0; tracks = s.1 })) refl)
  differs-in-list d (cell number row track field s there h) = kind-in _ Pattern (cell_in number row track field s there h)

-- Theorem 21, both directions.
pub differences-exact : (m k : List ℕ) → Bytes m → Bytes k → module_verdict m ≡ Ok tt → module_verdict k ≡ Ok tt
    → (d : Difference) → Within (module_differences m k) d ↔ Differs m k d
differences-exact m k bytes others a b d =
    let (l, o) = accepted-opens m a in
    let (j, p) = accepted-opens k b in
    let list = both_found m k o p in (
      λ w. in-list-differs m k bytes others l j o p d (subst (λ (ds : List Difference). Within ds d) list w),
      λ h. subst (λ (ds : List Difference). Within ds d) (sym list) (differs-in-list m k bytes others l j o p d h),
    )
