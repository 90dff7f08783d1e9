-- What the check's rules for the content of a module state, part by part: the blocks fill their chunks, and the rules of each song,
-- instrument and envelope hold, and those of each loop and stream.
use Prim.Native.Nat.{ℕ}
use mathlib.Core.Path.{◌≡◌}
use mathlib.Core.Logic.Iff
use mathlib.Core.Logic.{◌↔◌}
use mathlib.Core.List.{List, ◌++◌}
use mathlib.Core.Bool.{true, false}
use lib.Dec.{eqb}
use Rattle.vocabulary.specs.Lists.{Every}
use Rattle.vocabulary.proofs.EveryOne.{every_append, every-split}
use Rattle.layout.specs.declared.Layout.{Layout}
use Rattle.blocks.specs.Sizes.{block_at, envelope_count, song_blocks, instrument_blocks, pattern_blocks, sample_blocks, envelope_blocks}
use Rattle.blocks.specs.Filling.{data_end, flags_rules, block_rules}
use Rattle.blocks.specs.declared.BlockKind.TheVariants.{Song, Instrument, Pattern, Sample, Envelope}
use Rattle.blocks.specs.RecordKinds.{block_kind_of, chunk_of, count_of}
use Rattle.blocks.specs.declared.RecordKind.{RecordKind}
use Rattle.blocks.specs.declared.RecordKind.TheVariants.{Song as SongKind, Instrument as InstrumentKind}
use Rattle.blocks.specs.declared.RecordKind.TheVariants.{Pattern as PatternKind, Sample as SampleKind, VolumeEnvelope}
use Rattle.blocks.specs.declared.RecordKind.TheVariants.{PanningEnvelope}
use Rattle.fields.specs.Fields.{song_rules, instrument_rules, envelope_rules, field_rules}
use Rattle.module.specs.Loops.{instrument_loop_rules, loop_rules}
use Rattle.module.specs.Streams.{pattern_stream_rules, stream_rules}
use Rattle.module.specs.Verdicts.{content_rules}
use Rattle.acceptance.proofs.Holding.{AllHold, each-hold, plain}

-- 11: the blocks of the six chunks fill them, and the flags of samples are 1, 2 or 4.
pub record BlocksHold (m : List ℕ) (l : Layout) : Type 0 where
  pub songs : block_at m Song l.spans.song l.songs ≡ data_end l.spans.song
  pub instruments : block_at m Instrument l.spans.inst l.instruments ≡ data_end l.spans.inst
  pub patterns : block_at m Pattern l.spans.patt l.patterns ≡ data_end l.spans.patt
  pub samples : block_at m Sample l.spans.smpl l.samples ≡ data_end l.spans.smpl
  pub flags : Every (λ at. AllHold (flags_rules m l.spans.smpl at)) (sample_blocks m l)
  pub volume_envelopes : l.spans.venv.present ≡ true → block_at m Envelope l.spans.venv (envelope_count m l.spans.venv) ≡ data_end l.spans.venv
  pub panning_envelopes : l.spans.penv.present ≡ true → block_at m Envelope l.spans.penv (envelope_count m l.spans.penv) ≡ data_end l.spans.penv

-- 12 and 13: the fields of songs, instruments and envelopes.
pub record FieldsHold (m : List ℕ) (l : Layout) : Type 0 where
  pub songs : Every (λ at. AllHold (song_rules m l.patterns at)) (song_blocks m l)
  pub instruments : Every (λ at. AllHold (instrument_rules m l.samples at)) (instrument_blocks m l)
  pub volume_envelopes : Every (λ at. AllHold (envelope_rules m l.instruments false at)) (envelope_blocks m l.spans.venv)
  pub panning_envelopes : Every (λ at. AllHold (envelope_rules m l.instruments (eqb l.version 3) at)) (envelope_blocks m l.spans.penv)

-- All of them, including 14 and 15.
pub record ContentHolds (m : List ℕ) (l : Layout) : Type 0 where
  pub blocks : BlocksHold m l
  pub fields : FieldsHold m l
  pub loops : Every (λ at. AllHold (instrument_loop_rules m l.spans.smpl at)) (instrument_blocks m l)
  pub streams : Every (λ at. AllHold (pattern_stream_rules m l.tracks at)) (pattern_blocks m l)

module _ (m : List ℕ) (l : Layout) where
  blocks-say : AllHold (block_rules m l)
      ↔ ((block_at m Song l.spans.song l.songs ≡ data_end l.spans.song)
      × ((block_at m Instrument l.spans.inst l.instruments ≡ data_end l.spans.inst)
      × ((block_at m Pattern l.spans.patt l.patterns ≡ data_end l.spans.patt)
      × ((block_at m Sample l.spans.smpl l.samples ≡ data_end l.spans.smpl)
      × (Every (λ at. AllHold (flags_rules m l.spans.smpl at)) (sample_blocks m l)
      × ((l.spans.venv.present ≡ true → block_at m Envelope l.spans.venv (envelope_count m l.spans.venv) ≡ data_end l.spans.venv)
      × (l.spans.penv.present ≡ true → block_at m Envelope l.spans.penv (envelope_count m l.spans.penv) ≡ data_end l.spans.penv)))))))
  blocks-say = simp (plain, each-hold) Iff.rfl

  pub blocks-hold : AllHold (block_rules m l) ↔ BlocksHold m l
  blocks-hold = (
    λ e.
        (let h = blocks-say.0 e in
        record {
          songs = h.0;
          instruments = h.1.0;
          patterns = h.1.1.0;
          samples = h.1.1.1.0;
          flags = h.1.1.1.1.0;
          volume_envelopes = h.1.1.1.1.1.0;
          panning_envelopes = h.1.1.1.1.1.1;
        }),
    λ h. blocks-say.1 (h.songs, (h.instruments, (h.patterns, (h.samples, (h.flags, (h.volume_envelopes, h.panning_envelopes)))))),
  )

  -- The blocks of a record kind fill its chunk, if that is present.
  abbrev pub KindFills : RecordKind → Type 0
  KindFills kind = block_at m (block_kind_of kind) (chunk_of l kind) (count_of m l kind) ≡ data_end (chunk_of l kind)

  pub kind-fills : BlocksHold m l → (kind : RecordKind) → (chunk_of l kind).present ≡ true → KindFills kind
  kind-fills f SongKind there = f.songs
  kind-fills f InstrumentKind there = f.instruments
  kind-fills f PatternKind there = f.patterns
  kind-fills f SampleKind there = f.samples
  kind-fills f VolumeEnvelope there = f.volume_envelopes there
  kind-fills f PanningEnvelope there = f.panning_envelopes there

  fields-say : AllHold (field_rules m l)
      ↔ (Every (λ at. AllHold (song_rules m l.patterns at)) (song_blocks m l)
      × (Every (λ at. AllHold (instrument_rules m l.samples at)) (instrument_blocks m l)
      × (Every (λ at. AllHold (envelope_rules m l.instruments false at)) (envelope_blocks m l.spans.venv)
      × Every (λ at. AllHold (envelope_rules m l.instruments (eqb l.version 3) at)) (envelope_blocks m l.spans.penv))))
  fields-say = simp (every_append, each-hold) Iff.rfl

  pub fields-hold : AllHold (field_rules m l) ↔ FieldsHold m l
  fields-hold = (
    λ e. (let h = fields-say.0 e in record { songs = h.0; instruments = h.1.0; volume_envelopes = h.1.1.0; panning_envelopes = h.1.1.1 }),
    λ h. fields-say.1 (h.songs, (h.instruments, (h.volume_envelopes, h.panning_envelopes))),
  )

  pub content-hold : AllHold (content_rules m l) ↔ ContentHolds m l
  content-hold = (
    λ e.
        let parts = (every_append (block_rules m l) (field_rules m l ++ (loop_rules m l ++ stream_rules m l))).0 e in
        let more = (every-split (field_rules m l) (loop_rules m l) (stream_rules m l)).0 parts.1 in
        record {
          blocks = blocks-hold.0 parts.0;
          fields = fields-hold.0 more.0;
          loops = (each-hold (instrument_loop_rules m l.spans.smpl) (instrument_blocks m l)).0 more.1;
          streams = (each-hold (pattern_stream_rules m l.tracks) (pattern_blocks m l)).0 more.2;
        },
    λ h. (every_append (block_rules m l) (field_rules m l ++ (loop_rules m l ++ stream_rules m l))).1 (
      blocks-hold.1 h.blocks,
      (every-split (field_rules m l) (loop_rules m l) (stream_rules m l)).1 (
        fields-hold.1 h.fields,
        (each-hold (instrument_loop_rules m l.spans.smpl) (instrument_blocks m l)).1 h.loops,
        (each-hold (pattern_stream_rules m l.tracks) (pattern_blocks m l)).1 h.streams,
      ),
    ),
  )
