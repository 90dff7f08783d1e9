-- Theorem 21: the list of differences of two accepted modules is empty exactly if the answers of the queries agree.
use Prim.Native.Nat.{ℕ, ◌+◌, ◌-◌, ◌*◌, ◌<◌}
use Rattle.std.specs.Prelude.{Result, Ok}
use Rattle.refusal.specs.declared.Refusal.{Refusal}
use Rattle.queries.specs.declared.Block.{Block}
use mathlib.Core.Path.{◌≡◌, refl, sym, ap, ◌∙◌}
use mathlib.Core.Logic.{◌↔◌, ◌⊎◌, inl, inr}
use mathlib.Core.List.{List, []}
use mathlib.Core.Bool.{Bool, true, false}
use native.Mathlib.Omega.{arith}
use lib.ListN.{get_or, replicate}
use lib.Dec.{eqb, ltb}
use borrow.Author.Tests.{ltb-true, ltb-false}
use Rattle.samples.specs.Shown.{frames_part}
use Rattle.refusal.specs.Numbers.{no_refusal}
use Rattle.cells.specs.Cells.{cell_bytes}
use Rattle.numbers.specs.Numbers.{Bytes}
use Rattle.differences.specs.Differences.{equal_bytes}
use Rattle.differences.specs.declared.Difference.{Difference}
use Rattle.packed_rows.specs.Answers.{check_answer, unpack_output}
use Rattle.layout.specs.declared.Layout.{Layout}
use Rattle.blocks.specs.StoredFields.{pattern_rows, packed_bytes}
use Rattle.blocks.specs.RecordKinds.{count_of}
use Rattle.blocks.specs.declared.RecordKind.{RecordKind}
use Rattle.blocks.specs.declared.RecordKind.TheVariants.{Song, Instrument, Pattern, Sample, VolumeEnvelope, PanningEnvelope}
use Rattle.module.specs.Verdicts.{opened, module_verdict}
use Rattle.queries.specs.Finding.{first_of, block_of, found}
use Rattle.acceptance.proofs.Holding.{eqb-says, false-never}
use Rattle.acceptance.proofs.OpenModules.{accepted-opens}
use Rattle.envelopes.specs.Shown.{count_if, count_answer, envelope_answer}
use Rattle.envelopes.specs.declared.EnvelopeKind.{EnvelopeKind}
use Rattle.envelopes.specs.declared.EnvelopeKind.TheVariants.{Volume, Panning}
use Rattle.patterns.specs.Shown.{rows_answer, cells_output_if, cells_output}
use Rattle.patterns.specs.declared.RowsAnswer.{RowsAnswer}
use Rattle.summary.specs.Shown.{name_of, name_answer, info_if, info_answer}
use Rattle.summary.specs.declared.InfoAnswer.{InfoAnswer}
use Rattle.query_theorems.proofs.FoundPatterns.{stream-accepted}
use Rattle.compare.specs.Compared.{module_differences}
use Rattle.compare_theorems.specs.Differs.{info_numbers, SameSizes, shown_field, AnswersAgree, Differs}
use Rattle.compare_theorems.specs.Differs.{name_differs as name, info_differs as info, song_differs as song, instrument_differs as instrument}
use Rattle.compare_theorems.specs.Differs.{volume_envelope_differs as volume_envelope, panning_envelope_differs as panning_envelope}
use Rattle.compare_theorems.specs.Differs.{sample_differs as sample, pattern_differs as pattern, cell_differs as cell}
use Rattle.compare_theorems.proofs.InList.{nothing-in}
use Rattle.compare_theorems.proofs.SameShown.{Same, first-only, second-only}
use Rattle.compare_theorems.proofs.NumbersCompared.{WhichHave, both, first, second, neither, which-have, there-says, same_or_not}
use Rattle.compare_theorems.proofs.PatternsCompared.{field_of}
use Rattle.compare_theorems.proofs.CellsShown.{stored_rows, other_rows, field-there, fields-shown}
use Rattle.compare_theorems.proofs.SameCells.{SameFields, same-output}
use Rattle.compare_theorems.proofs.Exact.{info_field, name-tested, info-same, record-differs, stored-rows, stored-tracks, differences-exact}

-- What a test decides holds if it cannot fail.
decided : {S : Type 0} (test : Bool) → (test ≡ true) ↔ S → ((S → ⊥) → ⊥) → S
decided true says h = says.0 refl
decided false says h = absurd (h (λ s. false-never (says.1 s)))

-- From answers that do not differ to answers that agree.
module _ (m k : List ℕ) (bytes : Bytes m) (others : Bytes k) (l j : Layout) (o : opened m ≡ Ok l) (p : opened k ≡ Ok j)
    (nothing : (d : Difference) → Differs m k d → ⊥) where
  name-agrees : name_answer m ≡ name_answer k
  name-agrees = decided (equal_bytes (name_of m l) (name_of k j)) (name-tested m k bytes others l j o p) (λ h. nothing _ (name h))

  -- INFO's numbers.
  field-agrees : (field : ℕ) → field < 5 → info_field l field ≡ info_field j field
  field-agrees field less =
      decided (eqb (info_field l field) (info_field j field))
      (eqb-says (info_field l field) (info_field j field))
      (λ h. nothing _ (info field less (λ s. h ((info-same m k bytes others l j o p field).1 s))))

  info-agrees : info_answer m ≡ info_answer k
  info-agrees =
      let instruments : l.instruments ≡ j.instruments = field-agrees 0 (omega arith) in
      let samples : l.samples ≡ j.samples = field-agrees 1 (omega arith) in
      let songs : l.songs ≡ j.songs = field-agrees 2 (omega arith) in
      let patterns : l.patterns ≡ j.patterns = field-agrees 3 (omega arith) in
      let tracks : l.tracks ≡ j.tracks = field-agrees 4 (omega arith) in
      ap info_if o ∙ rw (instruments, samples, songs, patterns, tracks) refl ∙ sym (ap info_if p)

  -- Records.
  record-agrees : (kind : RecordKind) (number : ℕ) → Same m k kind number
  record-agrees kind number = go (same_or_not m k bytes others l j o p kind number)
    where
      go : Same m k kind number ⊎ (Same m k kind number → ⊥)
          → Same m k kind number
      go (inl s) = s
      go (inr n) = absurd (nothing _ (record-differs m k bytes others l j o p kind number n))

  -- The number of records of a kind: if one module had more, it would have one that the other lacks.
  module _ (kind : RecordKind) where
    not-fewer : count_of m l kind < count_of k j kind → ⊥
    not-fewer less =
        let number = first_of kind + count_of m l kind in go number refl refl refl (which-have m k l j o p kind number) (record-agrees kind number)
      where
        go : (number : ℕ) → number ≡ first_of kind + count_of m l kind → {f g : Result Block Refusal} → found m kind number ≡ f → found k kind number ≡ g
            → WhichHave m k l j kind number f g → Same m k kind number → ⊥
        go number n e f (both t u) s = omega (arith, n, ((there-says m l kind number).0 t).1)
        go number n e f (first t u) s = omega (arith, n, ((there-says m l kind number).0 t).1)
        go number n e f (second t u) s = second-only m k (block_of k j kind number) kind (rw (e, f) at s)
        go number n e f (neither t u) s = false-never (sym u ∙ (there-says k j kind number).1 (omega (arith, n), omega (arith, n, less)))

    not_more : count_of k j kind < count_of m l kind → ⊥
    not_more less =
        let number = first_of kind + count_of k j kind in go number refl refl refl (which-have m k l j o p kind number) (record-agrees kind number)
      where
        go : (number : ℕ) → number ≡ first_of kind + count_of k j kind → {f g : Result Block Refusal} → found m kind number ≡ f → found k kind number ≡ g
            → WhichHave m k l j kind number f g → Same m k kind number → ⊥
        go number n e f (both t u) s = omega (arith, n, ((there-says k j kind number).0 u).1)
        go number n e f (first t u) s = first-only m k (block_of m l kind number) kind (rw (e, f) at s)
        go number n e f (second t u) s = omega (arith, n, ((there-says k j kind number).0 u).1)
        go number n e f (neither t u) s = false-never (sym t ∙ (there-says m l kind number).1 (omega (arith, n), omega (arith, n, less)))

    count-agrees : count_of m l kind ≡ count_of k j kind
    count-agrees = go (ltb (count_of m l kind) (count_of k j kind)) (ltb (count_of k j kind) (count_of m l kind)) refl refl
      where
        go : (t u : Bool) → ltb (count_of m l kind) (count_of k j kind) ≡ t → ltb (count_of k j kind) (count_of m l kind) ≡ u
            → count_of m l kind ≡ count_of k j kind
        go true u t v = absurd (not-fewer (ltb-true _ _ t))
        go false true t v = absurd (not_more (ltb-true _ _ v))
        go false false t v =
            omega (arith, ltb-false (count_of m l kind) (count_of k j kind) t, ltb-false (count_of k j kind) (count_of m l kind) v)

  counts-agree : (kind : EnvelopeKind) → count_answer m kind ≡ count_answer k kind
  counts-agree Volume =
      ap (count_if m Volume) o ∙ ap (λ (n : ℕ). record { outcome = no_refusal; count = n }) (count-agrees VolumeEnvelope) ∙ sym (ap (count_if k Volume) p)
  counts-agree Panning =
      ap (count_if m Panning) o ∙ ap (λ (n : ℕ). record { outcome = no_refusal; count = n }) (count-agrees PanningEnvelope) ∙ sym (ap (count_if k Panning) p)

  envelope-agrees : (kind : EnvelopeKind) (number : ℕ) → envelope_answer m kind number ≡ envelope_answer k kind number
  envelope-agrees Volume number = record-agrees VolumeEnvelope number
  envelope-agrees Panning number = record-agrees PanningEnvelope number

  -- Patterns.
  module _ (number : ℕ) where
    abbrev sizes : SameSizes m k number
    sizes = record { rows = (record-agrees Pattern number).0; tracks = (record-agrees Pattern number).1 }

    module _ (e : found m Pattern number ≡ Ok (block_of m l Pattern number)) (f : found k Pattern number ≡ Ok (block_of k j Pattern number)) where
      abbrev at : ℕ
      at = (block_of m l Pattern number).at

      abbrev to : ℕ
      to = (block_of k j Pattern number).at

      rows_agree : pattern_rows m at ≡ pattern_rows k to
      rows_agree = stored-rows m k bytes others l j o p number e f sizes.rows

      tracks-agree : l.tracks ≡ j.tracks
      tracks-agree = stored-tracks m k bytes others l j o p number e f (record-agrees Pattern number)

      fields-agree : SameFields (pattern_rows m at) l.tracks (stored_rows m l o number e) (other_rows m k l j o p number e f rows_agree tracks-agree)
      fields-agree row track field r t u f' g =
          let there = field-there m l o number e row track field r t u f' g in
          decided (eqb (field_of (stored_rows m l o number e) row track field)
          (field_of (other_rows m k l j o p number e f rows_agree tracks-agree) row track field))
          (eqb-says _ _)
          (λ h. nothing _ (cell number row track field sizes there
          (λ s. h ((fields-shown m k l j o p number e f rows_agree tracks-agree row track field there).0 s))))

      both-write : (out : List ℕ) → cells_output m number out ≡ cells_output k number out
      both-write out =
          let here = stream-accepted m number (block_of m l Pattern number) e in
          let there : check_answer (packed_bytes k to) (pattern_rows m at) l.tracks ≡ Ok tt =
          rw (rows_agree, tracks-agree) (stream-accepted k number (block_of k j Pattern number) f) in
          ap (cells_output_if m out) e
          ∙ same-output (pattern_rows m at) l.tracks (packed_bytes m at) (packed_bytes k to) here there fields-agree out
          ∙ ap (λ (n : ℕ). unpack_output (packed_bytes k to) n l.tracks out) rows_agree
          ∙ ap (λ (n : ℕ). unpack_output (packed_bytes k to) (pattern_rows k to) n out) tracks-agree
          ∙ sym (ap (cells_output_if k out) f)

    cells_agree : (out : List ℕ) → cells_output m number out ≡ cells_output k number out
    cells_agree out = go refl refl (which-have m k l j o p Pattern number) (record-agrees Pattern number)
      where
        go : {f g : Result Block Refusal} → found m Pattern number ≡ f → found k Pattern number ≡ g → WhichHave m k l j Pattern number f g
            → Same m k Pattern number → cells_output m number out ≡ cells_output k number out
        go e f (both t u) s = both-write e f out
        go e f (first t u) s = absurd (first-only m k (block_of m l Pattern number) Pattern (rw (e, f) at s))
        go e f (second t u) s = absurd (second-only m k (block_of k j Pattern number) Pattern (rw (e, f) at s))
        go e f (neither t u) s = ap (cells_output_if m out) e ∙ sym (ap (cells_output_if k out) f)

  answers_agree : AnswersAgree m k
  answers_agree = record {
    name = name-agrees;
    info = info-agrees;
    song = λ number. record { song = (record-agrees Song number).0; entry = (record-agrees Song number).1 };
    instrument = record-agrees Instrument;
    envelopes = counts-agree;
    envelope = envelope-agrees;
    sample = λ number.
        let parts : frames_part m number ≡ frames_part k number = (record-agrees Sample number).1 in
        record { sample = (record-agrees Sample number).0; frames = (cc) };
    rows = λ number. (record-agrees Pattern number).0;
    cells = cells_agree;
  }

-- If the answers agree, nothing differs.
module _ (m k : List ℕ) (a : AnswersAgree m k) where
  tracks_same : (info_answer m).tracks ≡ (info_answer k).tracks
  tracks_same = ap (λ (x : InfoAnswer). x.tracks) a.info

  field-same : (number row track field : ℕ) → shown_field m number row track field ≡ shown_field k number row track field
  field-same number row track field =
      ap (λ (x : RowsAnswer). get_or (cells_output m number (replicate (cell_bytes x.rows (info_answer m).tracks) 0))
      (row * ((info_answer m).tracks * 6) + ((track - 1) * 6 + (field - 1))) 0) (a.rows number)
      ∙ ap (λ (x : InfoAnswer). get_or (cells_output m number (replicate (cell_bytes (rows_answer k number).rows x.tracks) 0))
      (row * (x.tracks * 6) + ((track - 1) * 6 + (field - 1))) 0) a.info
      ∙ ap (λ (cells : List ℕ). get_or cells (row * ((info_answer k).tracks * 6) + ((track - 1) * 6 + (field - 1))) 0) (a.cells number _)

  nothing-differs : (d : Difference) → Differs m k d → ⊥
  nothing-differs d (name h) = h a.name
  nothing-differs d (info field less h) = h (ap (λ (x : InfoAnswer). get_or (info_numbers x) field 0) a.info)
  nothing-differs d (song number h) = h (a.song number)
  nothing-differs d (instrument number h) = h (a.instrument number)
  nothing-differs d (volume_envelope number h) = h (a.envelope Volume number)
  nothing-differs d (panning_envelope number h) = h (a.envelope Panning number)
  nothing-differs d (sample number h) = h (a.sample number)
  nothing-differs d (pattern number h) = h (record { rows = a.rows number; tracks = λ there. tracks_same })
  nothing-differs d (cell number row track field s there h) = h (field-same number row track field)

-- Theorem 21.
pub differences-none : (m k : List ℕ) → Bytes m → Bytes k → module_verdict m ≡ Ok tt → module_verdict k ≡ Ok tt
    → (module_differences m k ≡ []) ↔ AnswersAgree m k
differences-none m k bytes others a b =
    let exact = differences-exact m k bytes others a b in
    let (l, o) = accepted-opens m a in
    let (j, p) = accepted-opens k b in (
      λ none. answers_agree m k bytes others l j o p (λ d h. (nothing-in (module_differences m k)).0 none d ((exact d).1 h)),
      λ agree. (nothing-in (module_differences m k)).1 (λ d w. nothing-differs m k agree d ((exact d).0 w)),
    )
