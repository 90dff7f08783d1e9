-- FORMAT.md, Q16: all records of a module, one after the other. Each contains exactly what its own query answers; all numbers are
-- big-endian.
use Rattle.std.specs.Prelude.{ℕ, List, [], ◌∷◌, ◌++◌, map, ℤ}
use Rattle.vocabulary.specs.Lists.{joined}
use Rattle.refusal.specs.declared.LengthAnswer.{LengthAnswer}
use Rattle.numbers.specs.Numbers.{bytes16, bytes32, unsigned16}
use Rattle.layout.specs.declared.Layout.{Layout}
use Rattle.blocks.specs.StoredFields.{pattern_rows}
use Rattle.blocks.specs.Sizes.{blocks_of, envelope_count}
use Rattle.blocks.specs.RecordKinds.{block_kind_of, chunk_of, count_of}
use Rattle.blocks.specs.declared.RecordKind.{RecordKind}
use Rattle.blocks.specs.declared.RecordKind.TheVariants.{Song, Instrument, Pattern, Sample, VolumeEnvelope, PanningEnvelope}
use Rattle.module.specs.Verdicts.{opened}
use Rattle.module.specs.Outputs.{answer_opened, output_opened}
use Rattle.samples.specs.Shown.{shown_sample}
use Rattle.samples.specs.declared.SampleAnswer.{SampleAnswer}
use Rattle.envelopes.specs.Shown.{shown_envelope}
use Rattle.envelopes.specs.declared.EnvelopeKind.TheVariants.{Volume, Panning}
use Rattle.envelopes.specs.declared.EnvelopeAnswer.{EnvelopeAnswer}
use Rattle.songs.specs.Shown.{shown_song, playlist_bytes}
use Rattle.songs.specs.declared.SongAnswer.{SongAnswer}
use Rattle.summary.specs.Shown.{shown_version, name_of, shown_info}
use Rattle.summary.specs.declared.VersionAnswer.{VersionAnswer}
use Rattle.summary.specs.declared.InfoAnswer.{InfoAnswer}
use Rattle.instruments.specs.Shown.{shown_instrument}
use Rattle.instruments.specs.declared.InstrumentAnswer.{InstrumentAnswer}

-- Q4: the version byte and the revision byte.
abbrev pub version_record : VersionAnswer → List ℕ
version_record a = a.version ∷ a.revision ∷ []

-- Q6: the five numbers of INFO, 2 bytes each.
abbrev pub info_record : InfoAnswer → List ℕ
info_record a = bytes16 a.instruments ++ (bytes16 a.samples ++ (bytes16 a.songs ++ (bytes16 a.patterns ++ bytes16 a.tracks)))

-- Q9: the numbers of volume envelopes and of panning envelopes, 2 bytes each.
abbrev pub counts_record : List ℕ → Layout → List ℕ
counts_record m l = bytes16 (envelope_count m l.spans.venv) ++ bytes16 (envelope_count m l.spans.penv)

-- Q4 to Q6, Q9: the summary of a module, 60 bytes; the name is 44 of them.
abbrev pub summary_record : List ℕ → Layout → List ℕ
summary_record m l = version_record (shown_version l) ++ (name_of m l ++ (info_record (shown_info l) ++ counts_record m l))

-- Q7: a song: name 44, length 2, and its playlist, 2 bytes for each entry.
abbrev pub song_record : SongAnswer → List ℕ → List ℕ
song_record a playlist = a.name ++ (bytes16 a.length ++ playlist)

-- Q8: an instrument, 50 bytes: name 30, sample 2, volume 2, rate 4, loop start 4, loop length 4, panning 2 (signed), flags 2.
abbrev pub instrument_record : InstrumentAnswer → List ℕ
instrument_record a =
    a.name
    ++ (bytes16 a.sample
    ++ (bytes16 a.volume
    ++ (bytes32 a.rate
    ++ (bytes32 a.loop_start
    ++ (bytes32 a.loop_length
    ++ (bytes16 (unsigned16 a.panning)
    ++ bytes16 a.flags))))))

-- Q11: a sample: the bits of a frame 2, frames 4.
abbrev pub sample_record : SampleAnswer → List ℕ
sample_record a = bytes16 a.width ++ bytes32 a.frames

-- Q9: points of position 2 and value 2 (signed).
abbrev pub point_records : List ℕ → List ℤ → List ℕ
point_records [] values = []
point_records (position ∷ positions) [] = []
point_records (position ∷ positions) (value ∷ values) = bytes16 position ++ (bytes16 (unsigned16 value) ++ point_records positions values)

-- Q9: an envelope, 136 bytes: instrument 2, flags 1, sections 1, S1, L1, L2, S2, one byte each, and 32 points.
abbrev pub envelope_record : EnvelopeAnswer → List ℕ
envelope_record a =
    bytes16 a.instrument
    ++ (a.flags ∷ a.sections ∷ a.first_sustain ∷ a.loop_first ∷ a.loop_last ∷ a.second_sustain ∷ point_records a.positions a.values)

-- The record of the block at a place; for a pattern it is its rows, 2 bytes (Q10).
unfoldable pub record_at : List ℕ → ℕ → RecordKind → ℕ → List ℕ
record_at m version Song at = song_record (shown_song m at) (playlist_bytes m at)
record_at m version Instrument at = instrument_record (shown_instrument m at)
record_at m version Pattern at = bytes16 (pattern_rows m at)
record_at m version Sample at = sample_record (shown_sample m at)
record_at m version VolumeEnvelope at = envelope_record (shown_envelope m Volume version at)
record_at m version PanningEnvelope at = envelope_record (shown_envelope m Panning version at)

-- The records of all blocks of a record kind, in the order of the blocks (B1).
abbrev pub records_of : List ℕ → Layout → RecordKind → List ℕ
records_of m l kind = joined (map (record_at m l.version kind) (blocks_of m (block_kind_of kind) (chunk_of l kind) (count_of m l kind)))

-- Q16: all records.
abbrev pub all_records : List ℕ → Layout → List ℕ
all_records m l =
    summary_record m l
    ++ (records_of m l Song
    ++ (records_of m l Instrument
    ++ (records_of m l Pattern
    ++ (records_of m l Sample
    ++ (records_of m l VolumeEnvelope
    ++ records_of m l PanningEnvelope)))))

-- Q16: the module's own refusal, then 17, else the length of the records; and the output afterwards (F8).
abbrev pub all_answer : List ℕ → ℕ → LengthAnswer
all_answer m room = answer_opened (all_records m) room (opened m)

abbrev pub all_output : List ℕ → List ℕ → List ℕ
all_output m out = output_opened (all_records m) out (opened m)
