-- The lists of a description, each found in its encoding: the record requested by a number is the record of the list with that number.
use Prim.Native.Nat.{ℕ}
use mathlib.Core.Path.{◌≡◌, refl, sym, subst, subst₂, ◌∙◌}
use mathlib.Core.Logic.{inl, inr}
use mathlib.Core.List.{List, [], ◌++◌, map}
use mathlib.Core.Bool.{Bool, true, false}
use native.Mathlib.Omega.{arith}
use lib.ListN.{length}
use Rattle.vocabulary.specs.Lists.{joined, none}
use Rattle.vocabulary.specs.Letters.{song_letters, inst_letters, patt_letters, smpl_letters, venv_letters, penv_letters}
use Rattle.numbers.specs.Numbers.{bytes16, bytes32}
use Rattle.layout.specs.declared.ChunkSpan.{ChunkSpan}
use Rattle.layout.specs.declared.Layout.{Layout}
use Rattle.blocks.specs.RecordKinds.{count_of}
use Rattle.blocks.specs.declared.RecordKind.{RecordKind}
use Rattle.blocks.specs.declared.RecordKind.TheVariants.{Song as SongKind, Instrument as InstrumentKind}
use Rattle.blocks.specs.declared.RecordKind.TheVariants.{Pattern as PatternKind, Sample as SampleKind, VolumeEnvelope}
use Rattle.blocks.specs.declared.RecordKind.TheVariants.{PanningEnvelope}
use Rattle.acceptance.specs.Rules.{Among, Covered, VolumeFits, PanningValueFits}
use Rattle.acceptance.proofs.Locating.{bytes16-number}
use Rattle.acceptance.proofs.Spans.{Found, LayoutOf}
use Rattle.acceptance.proofs.ContentHalf.{count_same}
use Rattle.envelopes.specs.Shown.{record_kind}
use Rattle.envelopes.specs.declared.EnvelopeKind.{EnvelopeKind}
use Rattle.envelopes.specs.declared.EnvelopeKind.TheVariants.{Volume, Panning}
use Rattle.format.specs.Description.{Info, Song, Instrument, Pattern, Sample, Envelope, NAME, INFO, SONG, INST, PATT, SMPL, VENV, PENV, Description}
use Rattle.format.specs.Encoding.{song_bytes, instrument_bytes, pattern_bytes, sample_bytes, envelope_bytes, envelopes_bytes}
use Rattle.format.specs.Encoding.{chunk_bytes, header_bytes, encoded}
use Rattle.format.specs.WellFormed.{In, SongFits, InstrumentFits, PatternFits, SampleFits, EnvelopeFits, WellFormed}
use Rattle.format.specs.Shown.{Envelopes}
use Rattle.format.proofs.ChunksIn.{in-once}
use Rattle.format.proofs.EncodedModule.{in-among, among-held}
use Rattle.format.proofs.Placed.{Listed, chunk-listed, info-numbers}
use Rattle.format.proofs.ShownSongs.{song-sized}
use Rattle.format.proofs.ShownInstruments.{instrument-sized}
use Rattle.format.proofs.ShownEnvelopes.{envelope-sized}
use Rattle.format.proofs.ShownPatterns.{pattern-sized}
use Rattle.format.proofs.ShownSamples.{sample-sized}

-- V5: the range of the values of an envelope of a kind.
abbrev pub ValuesFit : EnvelopeKind → ℕ → ℕ → Type 0
ValuesFit Volume version = VolumeFits
ValuesFit Panning version = PanningValueFits version

-- A chunk is not present if no chunk with its letters is among the chunks.
missing : {m : List ℕ} {chunks : List (List ℕ)} {letters : List ℕ} {span : ChunkSpan} → Found m chunks letters span
    → ((chunk : List ℕ) → Among chunks letters chunk → ⊥)
    → span.present ≡ false
missing {span = span} f lacks = go span.present refl
  where
    go : (there : Bool) → span.present ≡ there → span.present ≡ false
    go true e = let (chunk, a) = f.chunk e in absurd (lacks chunk a)
    go false e = e

module _ (d : Description) (w : WellFormed d) {l : Layout} (layout : LayoutOf (encoded d) (header_bytes d) (map chunk_bytes d.chunks) l) where
  -- The lists of the mandatory chunks.
  pub songs-listed : (songs : List Song) → In d.chunks (SONG songs) → Listed (encoded d) l SongKind song_bytes (SongFits (length w.patterns)) songs
  songs-listed songs i =
      let one : SONG w.songs ≡ SONG songs = in-once w.once w.songs_there i Covered.song refl in
      let same : w.songs ≡ songs = cc in
      subst (Listed (encoded d) l SongKind song_bytes (SongFits (length w.patterns))) same
      (chunk-listed SongKind song_bytes song-sized (song_letters ++ bytes32 (length (joined (map song_bytes w.songs)))) w.songs
      (layout.song.holds (chunk_bytes (SONG w.songs)) (in-among d.chunks (SONG w.songs) w.songs_there refl)) refl
      ((info-numbers d w layout w.info w.info_there).2 ∙ sym w.lists.song_count) w.lists.songs_fit)

  pub instruments-listed : (instruments : List Instrument) → In d.chunks (INST instruments)
      → Listed (encoded d) l InstrumentKind instrument_bytes (InstrumentFits w.samples) instruments
  instruments-listed instruments i =
      let one : INST w.instruments ≡ INST instruments = in-once w.once w.instruments_there i Covered.inst refl in
      let same : w.instruments ≡ instruments = cc in
      subst (Listed (encoded d) l InstrumentKind instrument_bytes (InstrumentFits w.samples)) same
      (chunk-listed InstrumentKind instrument_bytes instrument-sized
      (inst_letters ++ bytes32 (length (joined (map instrument_bytes w.instruments)))) w.instruments
      (layout.inst.holds (chunk_bytes (INST w.instruments)) (in-among d.chunks (INST w.instruments) w.instruments_there refl))
      refl ((info-numbers d w layout w.info w.info_there).0 ∙ sym w.lists.instrument_count) w.lists.instruments_fit)

  pub info-same : (info : Info) → In d.chunks (INFO info) → w.info ≡ info
  info-same info i =
      let one : INFO w.info ≡ INFO info = in-once w.once w.info_there i Covered.info refl in
      cc

  pub patterns-listed : (info : Info) (patterns : List Pattern) → In d.chunks (INFO info) → In d.chunks (PATT patterns)
      → Listed (encoded d) l PatternKind pattern_bytes (PatternFits info.tracks) patterns
  patterns-listed info patterns j i =
      let one : PATT w.patterns ≡ PATT patterns = in-once w.once w.patterns_there i Covered.patt refl in
      let same : w.patterns ≡ patterns = cc in
      subst₂ (λ (info : Info) (patterns : List Pattern). Listed (encoded d) l PatternKind pattern_bytes (PatternFits info.tracks) patterns)
      (info-same info j) same
      (chunk-listed PatternKind pattern_bytes pattern-sized (patt_letters ++ bytes32 (length (joined (map pattern_bytes w.patterns)))) w.patterns
      (layout.patt.holds (chunk_bytes (PATT w.patterns)) (in-among d.chunks (PATT w.patterns) w.patterns_there refl)) refl
      ((info-numbers d w layout w.info w.info_there).3 ∙ sym w.lists.pattern_count) w.lists.patterns_fit)

  pub samples-listed : (samples : List Sample) → In d.chunks (SMPL samples) → Listed (encoded d) l SampleKind sample_bytes SampleFits samples
  samples-listed samples i =
      let one : SMPL w.samples ≡ SMPL samples = in-once w.once w.samples_there i Covered.smpl refl in
      let same : w.samples ≡ samples = cc in
      subst (Listed (encoded d) l SampleKind sample_bytes SampleFits) same
      (chunk-listed SampleKind sample_bytes (λ s f. sample-sized s) (smpl_letters ++ bytes32 (length (joined (map sample_bytes w.samples)))) w.samples
      (layout.smpl.holds (chunk_bytes (SMPL w.samples)) (in-among d.chunks (SMPL w.samples) w.samples_there refl)) refl
      ((info-numbers d w layout w.info w.info_there).1 ∙ sym w.lists.sample_count) w.lists.samples_fit)

  -- NAME and the envelopes' chunks are missing if the description does not have them.
  pub name-missing : ((other : List ℕ) → In d.chunks (NAME other) → ⊥) → l.spans.name.present ≡ false
  name-missing lacks = missing layout.name (λ chunk a. let (held, i, same) = among-held d w Covered.name chunk a in lacks held i)

  volume-missing : ((others : List Envelope) → In d.chunks (VENV others) → ⊥) → l.spans.venv.present ≡ false
  volume-missing lacks = missing layout.venv (λ chunk a. let (held, i, same) = among-held d w Covered.venv chunk a in lacks held i)

  panning-missing : ((others : List Envelope) → In d.chunks (PENV others) → ⊥) → l.spans.penv.present ≡ false
  panning-missing lacks = missing layout.penv (λ chunk a. let (held, i, same) = among-held d w Covered.penv chunk a in lacks held i)

  -- The envelopes of a kind, none if their chunk is missing.
  absent-listed : (kind : RecordKind) {A : Type 0} {bytes : A → List ℕ} {Fits : A → Type 0} (xs : List A)
      → count_of (encoded d) l kind ≡ 0 → xs ≡ []
      → Listed (encoded d) l kind bytes Fits xs
  absent-listed kind xs missing e = rw e (record { fits = none; count = missing; block = λ i other h. absurd (omega arith) })

  pub envelopes-listed : (kind : EnvelopeKind) (es : List Envelope) → Envelopes d.chunks kind es
      → Listed (encoded d) l (record_kind kind) envelope_bytes (EnvelopeFits (length w.instruments) (ValuesFit kind d.version)) es
  envelopes-listed Volume es (inl i) =
      let holds = layout.venv.holds (chunk_bytes (VENV es)) (in-among d.chunks (VENV es) i refl) in
      chunk-listed VolumeEnvelope envelope_bytes envelope-sized (venv_letters ++ (bytes32 (length (envelopes_bytes es)) ++ bytes16 (length es))) es
      holds refl
      (count_same holds (omega arith) ∙ bytes16-number (length es) (venv_letters ++ bytes32 (length (envelopes_bytes es))) (joined (map envelope_bytes es)))
      (w.volume_envelopes es i).each
  envelopes-listed Volume es (inr (e, lacks)) = absent-listed VolumeEnvelope es (rw (volume-missing lacks)) e
  envelopes-listed Panning es (inl i) =
      let holds = layout.penv.holds (chunk_bytes (PENV es)) (in-among d.chunks (PENV es) i refl) in
      chunk-listed PanningEnvelope envelope_bytes envelope-sized (penv_letters ++ (bytes32 (length (envelopes_bytes es)) ++ bytes16 (length es))) es
      holds refl
      (count_same holds (omega arith) ∙ bytes16-number (length es) (penv_letters ++ bytes32 (length (envelopes_bytes es))) (joined (map envelope_bytes es)))
      (w.panning_envelopes es i).each
  envelopes-listed Panning es (inr (e, lacks)) = absent-listed PanningEnvelope es (rw (panning-missing lacks)) e
