-- What is shown after a sample is replaced, by the description: name, INFO's numbers, songs, envelopes, patterns and the other samples are
-- shown as before, and an instrument is shown differently exactly if its loop is cleared.
use Prim.Native.Nat.{ℕ, ◌-◌, ◌≤◌, ◌<◌}
use mathlib.Core.Path.{◌≡◌, refl, sym, ap, subst, ◌∙◌}
use mathlib.Core.Logic.{inl, inr}
use mathlib.Core.List.{List, [], map}
use mathlib.Core.Bool.{Bool, true, false, cond, ◌&&◌}
use native.Mathlib.Omega.{arith}
use lib.ListN.{length, get_or, set, replicate, length-map, length-set, get_or-map}
use lib.Seq.{get_or-set_same, get_or-set_other}
use lib.Dec.{leb, ltb}
use borrow.Author.Tests.{le-leb, lt-ltb, leb-true}
use Rattle.vocabulary.specs.Lists.{joined}
use Rattle.vocabulary.proofs.Splits.{mapped-within}
use Rattle.cells.specs.Cells.{cell_bytes}
use Rattle.numbers.specs.Numbers.{bytes16}
use Rattle.samples.specs.Shown.{no_sample, sample_answer, frames_part}
use Rattle.samples.specs.declared.SampleAnswer.{SampleAnswer}
use Rattle.envelopes.specs.Shown.{envelope_answer}
use Rattle.envelopes.specs.declared.EnvelopeKind.{EnvelopeKind}
use Rattle.envelopes.specs.declared.EnvelopeKind.TheVariants.{Volume, Panning}
use Rattle.patterns.specs.Shown.{rows_answer, cells_output}
use Rattle.patterns.specs.declared.RowsAnswer.{RowsAnswer}
use Rattle.summary.specs.Shown.{name_answer, info_answer}
use Rattle.summary.specs.declared.InfoAnswer.{InfoAnswer}
use Rattle.instruments.specs.Shown.{no_instrument, instrument_answer}
use Rattle.instruments.specs.declared.InstrumentAnswer.{InstrumentAnswer}
use Rattle.format.specs.Description.{Instrument, Sample, Envelope, Chunk, NAME, INFO, SONG, INST, PATT, SMPL, VENV, PENV, Other, Description}
use Rattle.format.specs.WellFormed.{empty_sample, In, WellFormed}
use Rattle.format.specs.Shown.{not_there, HasName, empty_instrument, described_instrument, Envelopes, of_sample, described_sample, stored_frames, Shows}
use Rattle.format.proofs.ChunksIn.{in_within, within_in}
use Rattle.format.proofs.ChunkKinds.{ChunkKind, named, volumes, pannings, chunk_kind_of, Holding, holder, held-as}
use Rattle.format.proofs.ChangedDescriptions.{in-changed}
use Rattle.replace_theorems.specs.ReplacedDescription.{sixteen_bit, loop_outside, without_loop, cleared_instrument, replaced_chunk, replaced_description}
use Rattle.replace_theorems.proofs.ReplacedWellFormed.{outside-says}
use Rattle.compare_theorems.specs.Differs.{SameSong, SameSample, SameSizes, shown_cells, shown_field}
use Rattle.compare_theorems.specs.ReplacedDiffers.{ShownOutside}

-- There is always a name, and there are always envelopes of a kind, if only none.
some-name : (chunks : List Chunk) → ((name : List ℕ) → HasName chunks name → ⊥) → ⊥
some-name chunks none = none (replicate 44 0) (inr (refl, λ other i. none other (inl i)))

some-envelopes : (chunks : List Chunk) (kind : EnvelopeKind) → ((es : List Envelope) → Envelopes chunks kind es → ⊥) → ⊥
some-envelopes chunks kind none = none [] (inr (refl, λ others i. none others (inl i)))

module _ (sample : ℕ) (frames : List ℕ) where
  -- Every chunk keeps its kind.
  kind-stays : (c : Chunk) → chunk_kind_of (replaced_chunk sample frames c) ≡ chunk_kind_of c
  kind-stays (NAME name) = refl
  kind-stays (INFO info) = refl
  kind-stays (SONG list) = refl
  kind-stays (INST list) = refl
  kind-stays (PATT list) = refl
  kind-stays (SMPL list) = refl
  kind-stays (VENV list) = refl
  kind-stays (PENV list) = refl
  kind-stays (Other letters bytes) = refl

  module _ {chunks : List Chunk} where
    kind-was : (k : ChunkKind) (c : Chunk) → chunk_kind_of c ≡ k → In (map (replaced_chunk sample frames) chunks) c
        → (h : Holding k) × In chunks (holder k h)
    kind-was k c e i =
        let (one, within, same) = mapped-within (replaced_chunk sample frames) (in_within i) in
        let (h, is) = held-as one k (sym (kind-stays one) ∙ ap chunk_kind_of (sym same) ∙ e) in
        (h, subst (In chunks) is (within_in within))

    name-after : (name : List ℕ) → HasName chunks name → HasName (map (replaced_chunk sample frames) chunks) name
    name-after name (inl i) = inl (in-changed (replaced_chunk sample frames) i)
    name-after name (inr (e, none)) = inr (e, λ other i. let (h, j) = kind-was named (NAME other) refl i in none h j)

    envelopes-after : (kind : EnvelopeKind) (es : List Envelope) → Envelopes chunks kind es
        → Envelopes (map (replaced_chunk sample frames) chunks) kind es
    envelopes-after Volume es (inl i) = inl (in-changed (replaced_chunk sample frames) i)
    envelopes-after Volume es (inr (e, none)) = inr (e, λ others i. let (h, j) = kind-was volumes (VENV others) refl i in none h j)
    envelopes-after Panning es (inl i) = inl (in-changed (replaced_chunk sample frames) i)
    envelopes-after Panning es (inr (e, none)) = inr (e, λ others i. let (h, j) = kind-was pannings (PENV others) refl i in none h j)

-- The first module shows a description, and the second the description with a sample replaced.
pub record ReplacedShown (m n : List ℕ) (sample : ℕ) (frames : List ℕ) : Type 0 where
  pub description : Description
  pub well_formed : WellFormed description
  pub low : 1 ≤ sample
  pub high : sample ≤ length well_formed.samples
  pub before : Shows m description
  pub after : Shows n (replaced_description sample frames description)

module _ {m n : List ℕ} {sample : ℕ} {frames : List ℕ} (r : ReplacedShown m n sample frames) where
  abbrev d : Description
  d = r.description

  abbrev w : WellFormed d
  w = r.well_formed

  abbrev before : Shows m d
  before = r.before

  abbrev after : Shows n (replaced_description sample frames d)
  after = r.after

  there : {c : Chunk} → In d.chunks c → In (map (replaced_chunk sample frames) d.chunks) (replaced_chunk sample frames c)
  there i = in-changed (replaced_chunk sample frames) i

  pub name-stays : (name_answer m ≡ name_answer n → ⊥) → ⊥
  name-stays differs =
      some-name d.chunks (λ name has. differs (before.name name has ∙ sym (after.name name (name-after sample frames name has))))

  pub info-stays : info_answer m ≡ info_answer n
  info-stays = before.info w.info w.info_there ∙ sym (after.info w.info (there w.info_there))

  pub song-stays : (number : ℕ) → SameSong m n number
  song-stays number = record {
    song = before.song w.songs w.songs_there number ∙ sym (after.song w.songs (there w.songs_there) number);
    entry = λ entry.
        before.entry w.songs w.songs_there number entry ∙ sym (after.entry w.songs (there w.songs_there) number entry);
  }

  pub envelope-stays : (kind : EnvelopeKind) (number : ℕ) → (envelope_answer m kind number ≡ envelope_answer n kind number → ⊥) → ⊥
  envelope-stays kind number differs =
      some-envelopes d.chunks kind
      (λ es are. differs (before.envelope kind es are number ∙ sym (after.envelope kind es (envelopes-after sample frames kind es are) number)))

  -- Q10: patterns.
  rows_stay : (number : ℕ) → rows_answer m number ≡ rows_answer n number
  rows_stay number = before.rows w.patterns w.patterns_there number ∙ sym (after.rows w.patterns (there w.patterns_there) number)

  pub sizes-stay : (number : ℕ) → SameSizes m n number
  sizes-stay number = record { rows = rows_stay number; tracks = λ found. ap (λ (a : InfoAnswer). a.tracks) info-stays }

  cells_stay : (number : ℕ) (out : List ℕ) → cells_output m number out ≡ cells_output n number out
  cells_stay number out =
      before.cells_out w.info w.patterns w.info_there w.patterns_there number out
      ∙ sym (after.cells_out w.info w.patterns (there w.info_there) (there w.patterns_there) number out)

  shown-stay : (number : ℕ) → shown_cells m number ≡ shown_cells n number
  shown-stay number =
      ap (λ (a : RowsAnswer). cells_output m number (replicate (cell_bytes a.rows (info_answer m).tracks) 0)) (rows_stay number)
      ∙ ap (λ (a : InfoAnswer). cells_output m number (replicate (cell_bytes (rows_answer n number).rows a.tracks) 0)) info-stays
      ∙ cells_stay number (replicate (cell_bytes (rows_answer n number).rows (info_answer n).tracks) 0)

  pub field-stays : (number row track field : ℕ) → shown_field m number row track field ≡ shown_field n number row track field
  field-stays number row track field = rw (shown-stay number, info-stays) refl

  -- Q8, E3: instruments.
  abbrev counted : ℕ → Bool
  counted number = leb 1 number && ltb (number - 1) (length w.instruments)

  abbrev one : ℕ → Instrument
  one number = get_or w.instruments (number - 1) empty_instrument

  abbrev shown : Bool → Instrument → InstrumentAnswer
  shown b i = cond b (described_instrument i) (no_instrument not_there)

  abbrev clears : Instrument → Instrument
  clears i = cleared_instrument sample (length frames) i

  shown-before : (number : ℕ) → instrument_answer m number ≡ shown (counted number) (one number)
  shown-before number = before.instrument w.instruments w.instruments_there number

  shown-after : (number : ℕ) → instrument_answer n number ≡ shown (counted number) (clears (one number))
  shown-after number =
      after.instrument (map clears w.instruments) (there w.instruments_there) number
      ∙ ap (λ (many : ℕ). shown (leb 1 number && ltb (number - 1) many) (get_or (map clears w.instruments) (number - 1) empty_instrument))
      (length-map w.instruments clears)
      ∙ ap (shown (counted number)) (get_or-map clears w.instruments (number - 1) empty_instrument)

  pub differs-cleared : (number : ℕ) → (instrument_answer m number ≡ instrument_answer n number → ⊥)
      → ShownOutside sample (length frames) (instrument_answer m number)
  differs-cleared number differs = go (counted number) refl (loop_outside sample (length frames) (one number)) refl
    where
      by : {b c : Bool} → counted number ≡ b → loop_outside sample (length frames) (one number) ≡ c
          → shown b (one number) ≡ shown b (cond c (without_loop (one number)) (one number))
          → instrument_answer m number ≡ instrument_answer n number
      by {b} {c} t e same =
          shown-before number ∙ ap (λ (b : Bool). shown b (one number)) t ∙ same
          ∙ ap (λ (b : Bool). shown b (cond c (without_loop (one number)) (one number))) (sym t)
          ∙ ap (λ (c : Bool). shown (counted number) (cond c (without_loop (one number)) (one number))) (sym e)
          ∙ sym (shown-after number)

      go : (b : Bool) → counted number ≡ b → (c : Bool) → loop_outside sample (length frames) (one number) ≡ c
          → ShownOutside sample (length frames) (instrument_answer m number)
      go true t true e =
          let says = (outside-says sample (length frames) (one number)).0 e in
          let is : instrument_answer m number ≡ described_instrument (one number) = shown-before number ∙ ap (λ (b : Bool). shown b (one number)) t in
          subst (ShownOutside sample (length frames)) (sym is) (record { looped = says.0; on_sample = says.1.0; outside = says.1.1 })
      go true t false e = absurd (differs (by t e refl))
      go false t c e = absurd (differs (by t e refl))

  pub cleared-differs : (number : ℕ) → ShownOutside sample (length frames) (instrument_answer m number)
      → instrument_answer m number ≡ instrument_answer n number
      → ⊥
  cleared-differs number outside same = go (counted number) refl
    where
      is : {b : Bool} → counted number ≡ b → instrument_answer m number ≡ shown b (one number)
      is t = shown-before number ∙ ap (λ (b : Bool). shown b (one number)) t

      go : (b : Bool) → counted number ≡ b → ⊥
      go true t =
          let shows : ShownOutside sample (length frames) (described_instrument (one number)) =
          subst (ShownOutside sample (length frames)) (is t) outside in
          let e : loop_outside sample (length frames) (one number) ≡ true =
          (outside-says sample (length frames) (one number)).1 (shows.looped, (shows.on_sample, shows.outside)) in
          let alike : described_instrument (one number) ≡ described_instrument (without_loop (one number)) =
          sym (is t) ∙ same ∙ shown-after number
          ∙ ap (λ (b : Bool). shown b (clears (one number))) t
          ∙ ap (λ (c : Bool). described_instrument (cond c (without_loop (one number)) (one number))) e in
          omega (arith, shows.looped.0, ap (λ (a : InstrumentAnswer). a.loop_length) alike)
      go false t = omega (arith, (subst (ShownOutside sample (length frames)) (is t) outside).looped.0)

  -- Q11, Q12: samples.
  abbrev samples : List Sample
  samples = set w.samples (sample - 1) (sixteen_bit frames)

  others-listed : {R : Type 0} (show : Sample → R) (refused : R) (number : ℕ) → (number ≡ sample → ⊥)
      → of_sample show refused w.samples number ≡ of_sample show refused samples number
  others-listed {R} show refused number other = go (leb 1 number) refl
    where
      go : (b : Bool) → leb 1 number ≡ b
          → of_sample show refused w.samples number ≡ of_sample show refused samples number
      go true t =
          let from : 1 ≤ number = leb-true 1 number t in
          let same = get_or-set_other w.samples (sample - 1) (number - 1) (sixteen_bit frames) empty_sample (λ e. other (omega arith)) in
          rw (length-set w.samples (sample - 1) (sixteen_bit frames), same) refl
      go false t = rw t refl

  this-listed : {R : Type 0} (show : Sample → R) (refused : R) → of_sample show refused samples sample ≡ show (sixteen_bit frames)
  this-listed show refused =
      let inside : sample - 1 < length w.samples = omega arith in
      rw (
        le-leb 1 sample r.low,
        length-set w.samples (sample - 1) (sixteen_bit frames),
        lt-ltb (sample - 1) (length w.samples) inside,
        get_or-set_same w.samples (sample - 1) (sixteen_bit frames) empty_sample inside,
      ) refl

  pub sample-stays : (number : ℕ) → (number ≡ sample → ⊥) → SameSample m n number
  sample-stays number other =
      let parts : frames_part m number ≡ frames_part n number =
      (before.frames w.samples w.samples_there number).bytes ∙ others-listed stored_frames [] number other
      ∙ sym (after.frames samples (there w.samples_there) number).bytes in
      record {
        sample = before.sample w.samples w.samples_there number ∙ others-listed described_sample (no_sample not_there) number other
            ∙ sym (after.sample samples (there w.samples_there) number);
        frames = (cc);
      }

  -- The sample that was replaced has 16 bits and the new frames.
  pub sample-width : (sample_answer n sample).width ≡ 16
  sample-width =
      ap (λ (a : SampleAnswer). a.width)
      (after.sample samples (there w.samples_there) sample ∙ this-listed described_sample (no_sample not_there))

  pub sample-frames : frames_part n sample ≡ joined (map bytes16 frames)
  sample-frames = (after.frames samples (there w.samples_there) sample).bytes ∙ this-listed stored_frames []
