-- What two modules show for a number, by what is found for it. If both have the record, what is compared of the two blocks is equal exactly
-- if the same is shown; if one module has it, the answers differ; if none has it, they are the same refusal.
use Prim.Native.Nat.{ℕ, ◌+◌, ◌*◌}
use Rattle.std.specs.Prelude.{Result, Ok, Err}
use mathlib.Core.Path.{◌≡◌, refl, sym, ap, subst, ◌∙◌}
use mathlib.Core.Logic.Iff
use mathlib.Core.Logic.{◌↔◌}
use mathlib.Core.List.{List}
use mathlib.Core.Bool.{Bool, true}
use native.Mathlib.Omega.{arith}
use lib.Dec.{eqb}
use Rattle.refusal.specs.Numbers.{refusal, no_refusal}
use Rattle.refusal.specs.declared.Reason.TheVariants.{NotThere}
use Rattle.refusal.specs.declared.Refusal.{Refusal}
use Rattle.numbers.specs.Numbers.{Bytes, part_of}
use Rattle.differences.specs.Differences.{equal_bytes}
use Rattle.differences.proofs.EqualBytes.{equal-says, same-equal}
use Rattle.layout.specs.declared.Layout.{Layout}
use Rattle.blocks.specs.StoredFields.{pattern_rows, sample_frames}
use Rattle.blocks.specs.declared.RecordKind.{RecordKind}
use Rattle.blocks.specs.declared.RecordKind.TheVariants.{Song, Instrument, Pattern, Sample, VolumeEnvelope, PanningEnvelope}
use Rattle.module.specs.Verdicts.{opened}
use Rattle.queries.specs.Finding.{block_of, found}
use Rattle.queries.specs.declared.Block.{Block}
use Rattle.acceptance.proofs.Holding.{and-says, eqb-says}
use Rattle.samples.specs.Shown.{bytes_per_frame, sample_if, frames_if}
use Rattle.samples.specs.declared.SampleAnswer.{SampleAnswer}
use Rattle.envelopes.specs.Shown.{envelope_if}
use Rattle.envelopes.specs.declared.EnvelopeKind.TheVariants.{Volume, Panning}
use Rattle.envelopes.specs.declared.EnvelopeAnswer.{EnvelopeAnswer}
use Rattle.patterns.specs.Shown.{rows_if}
use Rattle.patterns.specs.declared.RowsAnswer.{RowsAnswer}
use Rattle.songs.specs.Shown.{song_if, entry_if}
use Rattle.songs.specs.declared.SongAnswer.{SongAnswer}
use Rattle.summary.specs.Shown.{info_if, info_answer}
use Rattle.instruments.specs.Shown.{instrument_if}
use Rattle.instruments.specs.declared.InstrumentAnswer.{InstrumentAnswer}
use Rattle.records.specs.Records.{record_at}
use Rattle.compare.specs.Compared.{compared_record, sizes_same}
use Rattle.compare_theorems.proofs.RecordsCompared.{song-exact, instrument-exact, sample-exact}
use Rattle.compare_theorems.proofs.EnvelopesCompared.{envelope-exact, values-small}

-- The same is shown for what was found in the two modules: for a pattern its sizes, for any other kind everything.
abbrev pub SameShown : List ℕ → List ℕ → RecordKind → Result Block Refusal → Result Block Refusal → Type 0
SameShown m k Song f g = (song_if m f ≡ song_if k g) × ((entry : ℕ) → entry_if m entry f ≡ entry_if k entry g)
SameShown m k Instrument f g = instrument_if m f ≡ instrument_if k g
SameShown m k Pattern f g = (rows_if m f ≡ rows_if k g) × ((rows_if m f).outcome.number ≡ 0 → (info_answer m).tracks ≡ (info_answer k).tracks)
SameShown m k Sample f g =
    (sample_if m f ≡ sample_if k g)
    × (part_of m (frames_if m f).offset (frames_if m f).length ≡ part_of k (frames_if k g).offset (frames_if k g).length)
SameShown m k VolumeEnvelope f g = envelope_if m Volume f ≡ envelope_if k Volume g
SameShown m k PanningEnvelope f g = envelope_if m Panning f ≡ envelope_if k Panning g

-- The same is shown for a number.
abbrev pub Same : List ℕ → List ℕ → RecordKind → ℕ → Type 0
Same m k kind number = SameShown m k kind (found m kind number) (found k kind number)

-- The test by which two blocks are compared.
abbrev pub same_test : List ℕ → Layout → List ℕ → Layout → RecordKind → ℕ → ℕ → Bool
same_test m l k j Song at to = equal_bytes (compared_record m l.version Song at) (compared_record k j.version Song to)
same_test m l k j Instrument at to = equal_bytes (compared_record m l.version Instrument at) (compared_record k j.version Instrument to)
same_test m l k j Pattern at to = sizes_same m l k j at to
same_test m l k j Sample at to = equal_bytes (compared_record m l.version Sample at) (compared_record k j.version Sample to)
same_test m l k j VolumeEnvelope at to = equal_bytes (compared_record m l.version VolumeEnvelope at) (compared_record k j.version VolumeEnvelope to)
same_test m l k j PanningEnvelope at to = equal_bytes (compared_record m l.version PanningEnvelope at) (compared_record k j.version PanningEnvelope to)

pub equal-exact : (xs ys : List ℕ) → (equal_bytes xs ys ≡ true) ↔ (xs ≡ ys)
equal-exact xs ys = (equal-says xs ys, λ e. subst (λ (zs : List ℕ). equal_bytes xs zs ≡ true) e (same-equal xs))

-- A record that only one module has.
module _ (m k : List ℕ) (b : Block) where
  abbrev none : Refusal
  none = refusal NotThere 0

  pub first-only : (kind : RecordKind) → SameShown m k kind (Ok b) (Err none) → ⊥
  first-only Song h = let z : ◌≡◌ {A = ℕ} 0 18 = ap (λ (a : SongAnswer). a.outcome.number) h.0 in absurd (omega arith)
  first-only Instrument h = let z : ◌≡◌ {A = ℕ} 0 18 = ap (λ (a : InstrumentAnswer). a.outcome.number) h in absurd (omega arith)
  first-only Pattern h = let z : ◌≡◌ {A = ℕ} 0 18 = ap (λ (a : RowsAnswer). a.outcome.number) h.0 in absurd (omega arith)
  first-only Sample h = let z : ◌≡◌ {A = ℕ} 0 18 = ap (λ (a : SampleAnswer). a.outcome.number) h.0 in absurd (omega arith)
  first-only VolumeEnvelope h = let z : ◌≡◌ {A = ℕ} 0 18 = ap (λ (a : EnvelopeAnswer). a.outcome.number) h in absurd (omega arith)
  first-only PanningEnvelope h = let z : ◌≡◌ {A = ℕ} 0 18 = ap (λ (a : EnvelopeAnswer). a.outcome.number) h in absurd (omega arith)

  pub second-only : (kind : RecordKind) → SameShown m k kind (Err none) (Ok b) → ⊥
  second-only Song h = let z : ◌≡◌ {A = ℕ} 18 0 = ap (λ (a : SongAnswer). a.outcome.number) h.0 in absurd (omega arith)
  second-only Instrument h = let z : ◌≡◌ {A = ℕ} 18 0 = ap (λ (a : InstrumentAnswer). a.outcome.number) h in absurd (omega arith)
  second-only Pattern h = let z : ◌≡◌ {A = ℕ} 18 0 = ap (λ (a : RowsAnswer). a.outcome.number) h.0 in absurd (omega arith)
  second-only Sample h = let z : ◌≡◌ {A = ℕ} 18 0 = ap (λ (a : SampleAnswer). a.outcome.number) h.0 in absurd (omega arith)
  second-only VolumeEnvelope h = let z : ◌≡◌ {A = ℕ} 18 0 = ap (λ (a : EnvelopeAnswer). a.outcome.number) h in absurd (omega arith)
  second-only PanningEnvelope h = let z : ◌≡◌ {A = ℕ} 18 0 = ap (λ (a : EnvelopeAnswer). a.outcome.number) h in absurd (omega arith)

-- A record that none of them has.
pub both-lack : (m k : List ℕ) (kind : RecordKind) → SameShown m k kind (Err (refusal NotThere 0)) (Err (refusal NotThere 0))
both-lack m k Song = (refl, λ entry. refl)
both-lack m k Instrument = refl
both-lack m k Pattern = (refl, λ e. absurd (omega (arith, e)))
both-lack m k Sample = (refl, refl)
both-lack m k VolumeEnvelope = refl
both-lack m k PanningEnvelope = refl

-- INFO's tracks.
pub tracks-here : (m : List ℕ) (l : Layout) → opened m ≡ Ok l → (info_answer m).tracks ≡ l.tracks
tracks-here m l o = ap (λ (x : Result Layout Refusal). (info_if x).tracks) o

module _ (m k : List ℕ) (l j : Layout) (o : opened m ≡ Ok l) (p : opened k ≡ Ok j) where
  pub tracks-shown : ((info_answer m).tracks ≡ (info_answer k).tracks) ↔ (l.tracks ≡ j.tracks)
  tracks-shown =
      let here = tracks-here m l o in
      let there = tracks-here k j p in
      (λ e. sym here ∙ e ∙ there, λ e. here ∙ e ∙ sym there)

-- A record that both have.
module _ (m k : List ℕ) (bytes : Bytes m) (others : Bytes k) (l j : Layout) (o : opened m ≡ Ok l) (p : opened k ≡ Ok j) where
  pub both-compared : (kind : RecordKind) (number : ℕ) → found m kind number ≡ Ok (block_of m l kind number)
      → found k kind number ≡ Ok (block_of k j kind number)
      → (same_test m l k j kind (block_of m l kind number).at (block_of k j kind number).at ≡ true)
      ↔ SameShown m k kind (Ok (block_of m l kind number)) (Ok (block_of k j kind number))
  unfolding record_at
  both-compared Song number e f = Iff.trans (equal-exact _ _) (song-exact m k bytes others (block_of m l Song number).at (block_of k j Song number).at)
  both-compared Instrument number e f =
      Iff.trans (equal-exact _ _) (instrument-exact m k bytes others (block_of m l Instrument number).at (block_of k j Instrument number).at)
  both-compared Pattern number e f =
      let at = (block_of m l Pattern number).at in
      let to = (block_of k j Pattern number).at in
      let tests = and-says (eqb l.tracks j.tracks) (eqb (pattern_rows m at) (pattern_rows k to)) in (
        λ h. (
          ap (λ (n : ℕ). record { outcome = no_refusal; rows = n }) ((eqb-says (pattern_rows m at) (pattern_rows k to)).0 (tests.0 h).1),
          λ there. (tracks-shown m k l j o p).1 ((eqb-says l.tracks j.tracks).0 (tests.0 h).0),
        ),
        λ h. tests.1 (
          (eqb-says l.tracks j.tracks).1 ((tracks-shown m k l j o p).0 (h.1 refl)),
          (eqb-says (pattern_rows m at) (pattern_rows k to)).1 (ap (λ (a : RowsAnswer). a.rows) h.0),
        ),
      )
  both-compared Sample number e f =
      let at = (block_of m l Sample number).at in
      let to = (block_of k j Sample number).at in
      Iff.trans (equal-exact _ _) (sample-exact m k bytes others at to (part_of m (at + 8) (sample_frames m at * bytes_per_frame m at))
      (part_of k (to + 8) (sample_frames k to * bytes_per_frame k to)))
  both-compared VolumeEnvelope number e f =
      let b = block_of m l VolumeEnvelope number in
      let c = block_of k j VolumeEnvelope number in
      Iff.trans (equal-exact _ _) (envelope-exact m k Volume l.version j.version b.at c.at
      (values-small m Volume number b e) (values-small k Volume number c f))
  both-compared PanningEnvelope number e f =
      let b = block_of m l PanningEnvelope number in
      let c = block_of k j PanningEnvelope number in
      Iff.trans (equal-exact _ _) (envelope-exact m k Panning l.version j.version b.at c.at
      (values-small m Panning number b e) (values-small k Panning number c f))
