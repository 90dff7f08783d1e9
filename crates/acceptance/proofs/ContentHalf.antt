-- The content half of theorem 8: if the layout is that of the chunks, all of the check's rules for the content hold exactly if the chunks
-- are filled with blocks for which the rules hold.
use Prim.Native.Nat.{ℕ, ◌+◌, ◌-◌, ◌≤◌, ◌<◌}
use Rattle.std.specs.Prelude.{Ok}
use mathlib.Core.Path.{◌≡◌, refl, sym, subst, ◌∙◌}
use mathlib.Core.Logic.{◌↔◌, ◌⊎◌, inl, inr}
use mathlib.Core.List.{List, []}
use mathlib.Core.Bool.{Bool, true, false}
use native.Mathlib.Omega.{arith}
use lib.ListN.{length, get_or}
use lib.Dec.{eqb}
use borrow.Author.Tests.{leb-true, le-leb}
use Rattle.vocabulary.specs.Lists.{Every, none}
use Rattle.vocabulary.specs.Letters.{info_letters, song_letters, inst_letters, patt_letters, smpl_letters, venv_letters, penv_letters}
use Rattle.vocabulary.proofs.EveryOne.{every_of, every-both, every-at}
use Rattle.refusal.specs.Rules.{first_broken}
use Rattle.numbers.specs.Numbers.{byte_at, Bytes, number16, number32}
use Rattle.layout.specs.declared.ChunkSpan.{ChunkSpan}
use Rattle.layout.specs.declared.Layout.{Layout}
use Rattle.blocks.specs.Sizes.{block_at, envelope_count, song_blocks, instrument_blocks, pattern_blocks, sample_blocks, envelope_blocks}
use Rattle.blocks.specs.Filling.{data_end, flags_rules}
use Rattle.blocks.specs.declared.BlockKind.TheVariants.{Song, Instrument, Pattern, Sample, Envelope}
use Rattle.fields.specs.Fields.{value_fits, song_rules, instrument_rules, envelope_rules}
use Rattle.module.specs.Loops.{frames_of_sample, instrument_loop_rules}
use Rattle.module.specs.Streams.{pattern_stream_rules}
use Rattle.module.specs.Verdicts.{content_rules}
use Rattle.acceptance.specs.Rules.{Among, Filled, SongRules, InstrumentRules, PatternRules, SampleRules, EnvelopeRules}
use Rattle.acceptance.specs.Rules.{EnvelopesRules, VolumeFits, PanningValueFits, Content}
use Rattle.acceptance.proofs.Spans.{SpanHolds, Found, CountsOf, LayoutOf}
use Rattle.acceptance.proofs.Locating.{number16-at, number32-at}
use Rattle.acceptance.proofs.Holding.{leb-says, AllHold, accepted-hold}
use Rattle.acceptance.proofs.ChunkHalf.{span-part}
use Rattle.acceptance.proofs.Cutting.{sized-least, block-there}
use Rattle.acceptance.proofs.FillingChunks.{BlocksIn, fill-blocks, filled-blocks, blocks-fill, blocks-every}
use Rattle.acceptance.proofs.BlockFields.{panning-says, song-sized, song-holds, instrument-sized, instrument-holds}
use Rattle.acceptance.proofs.BlockFields.{sample-sized, sample-holds, envelope-sized, envelope-holds}
use Rattle.acceptance.proofs.BlockStreams.{TracksFit, pattern-sized, pattern-holds, pattern-rules-hold}
use Rattle.acceptance.proofs.ContentRules.{ContentHolds, content-hold}

pub counted : {front count other : ℕ} {chunk : List ℕ} {blocks : List (List ℕ)} → count ≡ other
    → Filled front chunk count blocks
    → Filled front chunk other blocks
counted same f = record { fronts = f.fronts; bytes = f.bytes; number = f.number ∙ same }

-- The frames of the sample with a number are those of its block.
module _ (span : ChunkSpan) {m smpl : List ℕ} {count : ℕ} {samples : List (List ℕ)} (b : BlocksIn Sample m (span.at + 8) 8 smpl count samples) where
  pub frames-same : (sample : ℕ) → 1 ≤ sample → sample ≤ length samples → frames_of_sample m span sample ≡ number32 (get_or samples (sample - 1) []) 4
  frames-same sample h k =
      let inside : sample - 1 < length samples = omega arith in
      number32-at (block-there Sample samples (sample - 1) inside b.there b.sized) 4
      (omega (arith, sized-least Sample (get_or samples (sample - 1) []) (every-at (sample - 1) [] inside b.sized)))

-- The blocks of the four chunks that every module has.
record AllBlocks (m : List ℕ) (l : Layout) (song inst patt smpl : List ℕ) (songs instruments patterns samples : List (List ℕ)) : Type 0 where
  in_song : BlocksIn Song m (l.spans.song.at + 8) 8 song l.songs songs
  in_inst : BlocksIn Instrument m (l.spans.inst.at + 8) 8 inst l.instruments instruments
  in_patt : BlocksIn Pattern m (l.spans.patt.at + 8) 8 patt l.patterns patterns
  in_smpl : BlocksIn Sample m (l.spans.smpl.at + 8) 8 smpl l.samples samples

module _ {m : List ℕ} {l : Layout} {song inst patt smpl : List ℕ} {songs instruments patterns samples : List (List ℕ)}
    (b : AllBlocks m l song inst patt smpl songs instruments patterns samples) where
  songs-hold : Every (λ at. AllHold (song_rules m l.patterns at)) (song_blocks m l) ↔ Every (SongRules (length patterns)) songs
  songs-hold = blocks-every b.in_song (λ at block p s. rw b.in_patt.filled.number (song-holds p s l.patterns))

  samples-hold : Every (λ at. AllHold (flags_rules m l.spans.smpl at)) (sample_blocks m l) ↔ Every SampleRules samples
  samples-hold = blocks-every b.in_smpl (λ at block p s. sample-holds p s l.spans.smpl)

  patterns-hold : TracksFit l.tracks → Bytes m
      → Every (λ at. AllHold (pattern_stream_rules m l.tracks at)) (pattern_blocks m l) ↔ Every (PatternRules l.tracks) patterns
  patterns-hold t bytes = blocks-every b.in_patt (λ at block p s. (pattern-holds p s l.tracks, λ r. pattern-rules-hold l.tracks block r p bytes t))

  instruments-hold : Every (λ at. AllHold (instrument_rules m l.samples at) × AllHold (instrument_loop_rules m l.spans.smpl at)) (instrument_blocks m l)
      ↔ Every (InstrumentRules samples) instruments
  instruments-hold =
      let frames = frames-same l.spans.smpl b.in_smpl in
      blocks-every b.in_inst (λ at block p s. rw (← b.in_smpl.filled.number) (instrument-holds p s l.spans.smpl samples frames))

-- The number of envelopes of a chunk, from its bytes.
pub count_same : {m chunk : List ℕ} {span : ChunkSpan} → SpanHolds m span chunk → 10 ≤ length chunk → envelope_count m span ≡ number16 chunk 8
count_same s h = rw s.there (number16-at (span-part s) 8 h)

-- The envelopes of a chunk, if it is present.
module _ {m : List ℕ} {chunks : List (List ℕ)} {letters : List ℕ} {span : ChunkSpan} (found : Found m chunks letters span)
    (signed : Bool) (ValueFits : ℕ → Type 0) (says : (v : ℕ) → (value_fits signed v ≡ true) ↔ ValueFits v)
    (instruments : ℕ) where
  each-envelope : {chunk : List ℕ} {blocks : List (List ℕ)}
      → BlocksIn Envelope m (span.at + 10) 10 chunk (envelope_count m span) blocks
      → Every (λ at. AllHold (envelope_rules m instruments signed at)) (envelope_blocks m span) ↔ Every (EnvelopeRules instruments ValueFits) blocks
  each-envelope b = blocks-every b (λ at block p s. envelope-holds p s signed ValueFits says instruments)

  envelopes-follow : (span.present ≡ true → block_at m Envelope span (envelope_count m span) ≡ data_end span)
      → Every (λ at. AllHold (envelope_rules m instruments signed at)) (envelope_blocks m span) → (chunk : List ℕ)
      → Among chunks letters chunk
      → EnvelopesRules instruments ValueFits chunk
  envelopes-follow fill e chunk among =
      let s = found.holds chunk among in
      let b = fill-blocks s Envelope 10 (envelope_count m span) (fill s.there) in
      record { envelopes = b.0; filled = counted (count_same s b.1.filled.fronts) b.1.filled; rules = (each-envelope b.1).0 e }

  module _ (rules : (chunk : List ℕ) → Among chunks letters chunk → EnvelopesRules instruments ValueFits chunk) where
    there-hold : span.present ≡ true
        → (block_at m Envelope span (envelope_count m span) ≡ data_end span)
        × Every (λ at. AllHold (envelope_rules m instruments signed at)) (envelope_blocks m span)
    there-hold there =
        let chunk = (found.chunk there).0 in
        let s = found.holds chunk (found.chunk there).1 in
        let r = rules chunk (found.chunk there).1 in
        let b = filled-blocks s Envelope 10 (envelope_count m span) r.envelopes
        (counted (sym (count_same s r.filled.fronts)) r.filled)
        (every_of (envelope-sized instruments ValueFits) r.rules) in
        (blocks-fill s Envelope 10 (envelope_count m span) r.envelopes b, (each-envelope b).1 r.rules)

    envelopes-hold : Every (λ at. AllHold (envelope_rules m instruments signed at)) (envelope_blocks m span)
    envelopes-hold = go span.present refl
      where
        go : (there : Bool) → span.present ≡ there → Every (λ at. AllHold (envelope_rules m instruments signed at)) (envelope_blocks m span)
        go true there = (there-hold there).1
        go false there = rw there none

-- The values of panning envelopes, by version.
pub panning-values : (version : ℕ) → (version ≡ 2) ⊎ (version ≡ 3) → (v : ℕ) → (value_fits (eqb version 3) v ≡ true) ↔ PanningValueFits version v
panning-values version (inl e) v = rw e (λ h. (λ three. absurd (omega arith), λ two. leb-true v 64 h), λ h. le-leb v 64 (h.1 refl))
panning-values version (inr e) v = rw e (λ h. (λ three. (panning-says v).0 h, λ two. absurd (omega arith)), λ h. (panning-says v).1 (h.0 refl))

-- The layout of the chunks, with the five mandatory ones.
module _ {m header : List ℕ} {chunks : List (List ℕ)} {l : Layout} (layout : LayoutOf m header chunks l)
    (version : (byte_at header 4 ≡ 2) ⊎ (byte_at header 4 ≡ 3)) {info song inst patt smpl : List ℕ}
    (info_there : Among chunks info_letters info) (song_there : Among chunks song_letters song)
    (inst_there : Among chunks inst_letters inst) (patt_there : Among chunks patt_letters patt)
    (smpl_there : Among chunks smpl_letters smpl) where
  counts : CountsOf l info
  counts = layout.counts info info_there

  song_holds : SpanHolds m l.spans.song song
  song_holds = layout.song.holds song song_there

  inst_holds : SpanHolds m l.spans.inst inst
  inst_holds = layout.inst.holds inst inst_there

  patt_holds : SpanHolds m l.spans.patt patt
  patt_holds = layout.patt.holds patt patt_there

  smpl_holds : SpanHolds m l.spans.smpl smpl
  smpl_holds = layout.smpl.holds smpl smpl_there

  layout-version : (l.version ≡ 2) ⊎ (l.version ≡ 3)
  layout-version = rw layout.version version

  -- The rules of the check imply the content.
  module _ (t : TracksFit (number16 info 16)) (bytes : Bytes m) where
    layout-tracks : TracksFit l.tracks
    layout-tracks = rw counts.4 t

    pub content-follows : ContentHolds m l → Content header chunks info song inst patt smpl
    content-follows h = record {
      songs = songs.0;
      instruments = instruments.0;
      patterns = patterns.0;
      samples = samples.0;
      songs_fill = counted counts.2 songs.1.filled;
      instruments_fill = counted counts.0 instruments.1.filled;
      patterns_fill = counted counts.3 patterns.1.filled;
      samples_fill = counted counts.1 samples.1.filled;
      song_rules = (songs-hold b).0 h.fields.songs;
      instrument_rules = (instruments-hold b).0 (every-both h.fields.instruments h.loops);
      pattern_rules = subst (λ (tracks : ℕ). Every (PatternRules tracks) patterns.0) counts.4 ((patterns-hold b layout-tracks bytes).0 h.streams);
      sample_rules = (samples-hold b).0 h.blocks.flags;
      volume_envelopes = rw instruments.1.filled.number
          (envelopes-follow layout.venv false VolumeFits (λ v. leb-says v 64) l.instruments h.blocks.volume_envelopes
          h.fields.volume_envelopes);
      panning_envelopes = rw (instruments.1.filled.number, ← layout.version)
          (envelopes-follow layout.penv (eqb l.version 3) (PanningValueFits l.version)
          (panning-values l.version layout-version) l.instruments h.blocks.panning_envelopes
          h.fields.panning_envelopes);
    }
      where
        songs : (blocks : List (List ℕ)) × BlocksIn Song m (l.spans.song.at + 8) 8 song l.songs blocks
        songs = fill-blocks song_holds Song 8 l.songs h.blocks.songs

        instruments : (blocks : List (List ℕ)) × BlocksIn Instrument m (l.spans.inst.at + 8) 8 inst l.instruments blocks
        instruments = fill-blocks inst_holds Instrument 8 l.instruments h.blocks.instruments

        patterns : (blocks : List (List ℕ)) × BlocksIn Pattern m (l.spans.patt.at + 8) 8 patt l.patterns blocks
        patterns = fill-blocks patt_holds Pattern 8 l.patterns h.blocks.patterns

        samples : (blocks : List (List ℕ)) × BlocksIn Sample m (l.spans.smpl.at + 8) 8 smpl l.samples blocks
        samples = fill-blocks smpl_holds Sample 8 l.samples h.blocks.samples

        b : AllBlocks m l song inst patt smpl songs.0 instruments.0 patterns.0 samples.0
        b = record { in_song = songs.1; in_inst = instruments.1; in_patt = patterns.1; in_smpl = samples.1 }

    -- The content implies the rules of the check.
    pub content-holds : Content header chunks info song inst patt smpl → ContentHolds m l
    content-holds c = record {
      blocks = record {
        songs = blocks-fill song_holds Song 8 l.songs c.songs b.in_song;
        instruments = blocks-fill inst_holds Instrument 8 l.instruments c.instruments b.in_inst;
        patterns = blocks-fill patt_holds Pattern 8 l.patterns c.patterns b.in_patt;
        samples = blocks-fill smpl_holds Sample 8 l.samples c.samples b.in_smpl;
        flags = (samples-hold b).1 c.sample_rules;
        volume_envelopes = λ there. (there-hold layout.venv false VolumeFits (λ v. leb-says v 64) l.instruments volume there).0;
        panning_envelopes = λ there.
            (there-hold layout.penv (eqb l.version 3) (PanningValueFits l.version)
            (panning-values l.version layout-version) l.instruments panning there).0;
      };
      fields = record {
        songs = (songs-hold b).1 c.song_rules;
        instruments = every_of (λ at h. h.0) instruments_hold;
        volume_envelopes = envelopes-hold layout.venv false VolumeFits (λ v. leb-says v 64) l.instruments volume;
        panning_envelopes = envelopes-hold layout.penv (eqb l.version 3) (PanningValueFits l.version)
            (panning-values l.version layout-version) l.instruments panning;
      };
      loops = every_of (λ at h. h.1) instruments_hold;
      streams = (patterns-hold b layout-tracks bytes).1 pattern_rules;
    }
      where
        pattern_rules : Every (PatternRules l.tracks) c.patterns
        pattern_rules = rw counts.4 c.pattern_rules

        b : AllBlocks m l song inst patt smpl c.songs c.instruments c.patterns c.samples
        b = record {
          in_song = filled-blocks song_holds Song 8 l.songs c.songs (counted (sym counts.2) c.songs_fill)
              (every_of (song-sized (length c.patterns)) c.song_rules);
          in_inst = filled-blocks inst_holds Instrument 8 l.instruments c.instruments
              (counted (sym counts.0) c.instruments_fill)
              (every_of (instrument-sized c.samples) c.instrument_rules);
          in_patt = filled-blocks patt_holds Pattern 8 l.patterns c.patterns
              (counted (sym counts.3) c.patterns_fill) (every_of (pattern-sized l.tracks) pattern_rules);
          in_smpl = filled-blocks smpl_holds Sample 8 l.samples c.samples (counted (sym counts.1) c.samples_fill)
              (every_of sample-sized c.sample_rules);
        }

        instruments_hold : Every (λ at. AllHold (instrument_rules m l.samples at) × AllHold (instrument_loop_rules m l.spans.smpl at))
            (instrument_blocks m l)
        instruments_hold = (instruments-hold b).1 c.instrument_rules

        volume : (chunk : List ℕ) → Among chunks venv_letters chunk → EnvelopesRules l.instruments VolumeFits chunk
        volume = rw b.in_inst.filled.number at c.volume_envelopes

        panning : (chunk : List ℕ) → Among chunks penv_letters chunk → EnvelopesRules l.instruments (PanningValueFits l.version) chunk
        panning = rw (b.in_inst.filled.number, ← layout.version) at c.panning_envelopes

    pub content-exactly : (first_broken (content_rules m l) ≡ Ok tt) ↔ Content header chunks info song inst patt smpl
    content-exactly = (
      λ e. content-follows ((content-hold m l).0 ((accepted-hold (content_rules m l)).0 e)),
      λ c. (accepted-hold (content_rules m l)).1 ((content-hold m l).1 (content-holds c)),
    )
