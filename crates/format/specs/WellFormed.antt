-- The rules of a module, third of three statements: over data (FORMAT.md, D4). Start with Description.antt, which has the data, and
-- Encoding.antt, which has its bytes. A description is well formed if each stored number fits its field and M2 to M9, B2 to B6 and V1 to V7
-- hold. By theorem 9 the accepted modules are exactly the encodings of well-formed descriptions.
use Rattle.std.specs.Prelude.{ℕ, ◌+◌, ◌-◌, ◌/◌, ◌%◌, ◌≤◌, ◌<◌, ◌≡◌, ◌⊎◌, List, [], ◌∷◌, ◌++◌, true, length, get_or}
use Rattle.vocabulary.specs.Lists.{Every}
use Rattle.numbers.specs.Numbers.{Bytes}
use Rattle.packed_rows.specs.Entries.{Entry, entry_bytes, stream_of}
use Rattle.packed_rows.specs.Theorems.{all_sound}
use Rattle.acceptance.specs.Rules.{Covered, NeedsInfo, PanningFits, VolumeFits, PanningValueFits}
use Rattle.format.specs.Description.{Info, Song, Instrument, Pattern, Width, eight, sixteen, thirty_two, Sample, Point}
use Rattle.format.specs.Description.{Envelope, Chunk, NAME, INFO, SONG, INST, PATT, SMPL, VENV, PENV, Other}
use Rattle.format.specs.Description.{Description}
use Rattle.format.specs.Encoding.{chunk_letters, chunk_data, encoded}

-- A list of n bytes.
abbrev pub ManyBytes : ℕ → List ℕ → Type 0
ManyBytes n bytes = (length bytes ≡ n) × Bytes bytes

-- A number fits 1, 2 or 4 bytes.
abbrev pub Fits8 : ℕ → Type 0
Fits8 n = n < 256

abbrev pub Fits16 : ℕ → Type 0
Fits16 n = n < 65536

abbrev pub Fits32 : ℕ → Type 0
Fits32 n = n < 4294967296

-- M9: the ranges of INFO's numbers.
pub record InfoFits (i : Info) : Type 0 where
  pub instruments : i.instruments ≤ 255
  pub samples : i.samples ≤ 255
  pub songs : i.songs ≤ 32767
  pub patterns : i.patterns ≤ 1024
  pub tracks : (4 ≤ i.tracks) × (i.tracks ≤ 254) × (i.tracks % 2 ≡ 0)

-- B2, V1: a name of 44 bytes, and a playlist of pattern numbers, counted from 0.
pub record SongFits (patterns : ℕ) (s : Song) : Type 0 where
  pub name : ManyBytes 44 s.name
  pub many : Fits16 (length s.playlist)
  pub entries : Every (λ entry. entry < patterns) s.playlist

-- V6: the loop length is not 0, and bit 0 or bit 1 of the flags is set.
abbrev pub Looped : Instrument → Type 0
Looped i = (1 ≤ i.loop_length) × ((i.flags % 2 ≡ 1) ⊎ (i.flags / 2 % 2 ≡ 1))

-- A sample without frames, used for a sample that does not exist.
abbrev pub empty_sample : Sample
empty_sample = record { width = eight; frames = [] }

-- V6: the number of frames of a sample, samples counted from 1.
abbrev pub frames_of : List Sample → ℕ → ℕ
frames_of samples number = length (get_or samples (number - 1) empty_sample).frames

-- B3, V2, V6: the fields of an instrument, and its loop.
pub record InstrumentFits (samples : List Sample) (i : Instrument) : Type 0 where
  pub name : ManyBytes 30 i.name
  pub sample : i.sample ≤ length samples
  pub volume : i.volume ≤ 64
  pub rate : Fits32 i.rate
  pub loop_start : Fits32 i.loop_start
  pub loop_length : Fits32 i.loop_length
  pub panning : Fits16 i.panning × PanningFits i.panning
  pub flags : i.flags < 4
  pub loop : Looped i → (1 ≤ i.sample) × (i.loop_start + i.loop_length ≤ frames_of samples i.sample)

-- B4, V7: rows of sound entries (R2 to R4), whose numbers are bytes, and a filler byte exactly if the length of the stream is odd.
pub record PatternFits (tracks : ℕ) (p : Pattern) : Type 0 where
  pub many : Fits16 (length p.rows)
  pub packed : Fits32 (length (stream_of p.rows))
  pub sound : all_sound tracks p.rows ≡ true
  pub bytes : Every (Every (λ (e : Entry). Bytes (entry_bytes e))) p.rows
  pub filler : ManyBytes (length (stream_of p.rows) % 2) p.filler

-- B5: a frame fits its width.
abbrev pub FrameFits : Width → ℕ → Type 0
FrameFits eight f = Fits8 f
FrameFits sixteen f = Fits16 f
FrameFits thirty_two f = Fits32 f

pub record SampleFits (s : Sample) : Type 0 where
  pub many : Fits32 (length s.frames)
  pub frames : Every (FrameFits s.width) s.frames

-- B6: the numbers of a point fit 2 bytes.
pub record PointFits (p : Point) : Type 0 where
  pub position : Fits16 p.position
  pub value : Fits16 p.value

abbrev pub no_point : Point
no_point = record { position = 0; value = 0 }

-- B6, V3 to V5: an envelope has 32 points, of which sections + 1 are in use.
pub record EnvelopeFits (instruments : ℕ) (ValueFits : ℕ → Type 0) (e : Envelope) : Type 0 where
  pub instrument : (1 ≤ e.instrument) × (e.instrument ≤ instruments)
  pub flags : e.flags < 16
  pub sections : e.sections ≤ 31
  pub bytes : Fits8 e.first_sustain × Fits8 e.loop_first × Fits8 e.loop_last × Fits8 e.second_sustain
  pub first_sustain : e.flags / 2 % 2 ≡ 1 → e.first_sustain ≤ e.sections
  pub loop : e.flags / 2 / 2 % 2 ≡ 1 → (e.loop_first ≤ e.sections) × (e.loop_last ≤ e.sections) × (e.loop_first ≤ e.loop_last)
  pub second_sustain : e.flags / 2 / 2 / 2 % 2 ≡ 1 → e.second_sustain ≤ e.sections
  pub many : length e.points ≡ 32
  pub points : Every PointFits e.points
  pub values : (i : ℕ) → i ≤ e.sections → ValueFits (get_or e.points i no_point).value

-- B6: the envelopes of a chunk; their number fits 2 bytes.
pub record EnvelopesFit (instruments : ℕ) (ValueFits : ℕ → Type 0) (es : List Envelope) : Type 0 where
  pub many : Fits16 (length es)
  pub each : Every (EnvelopeFits instruments ValueFits) es

-- M5, M6: the identifier of another chunk is four letters A to Z and none of the eight; its data are bytes.
pub record OtherFits (letters held : List ℕ) : Type 0 where
  pub four : length letters ≡ 4
  pub capitals : Every (λ letter. (65 ≤ letter) × (letter ≤ 90)) letters
  pub not_covered : Covered letters → ⊥
  pub bytes : Bytes held

-- The chunk is one of the chunks, with these before it and these after it.
pub record In (chunks : List Chunk) (c : Chunk) : Type 0 where
  pub before : List Chunk
  pub after : List Chunk
  pub splits : chunks ≡ before ++ (c ∷ after)

-- M6: a covered chunk occurs at most once.
abbrev pub Once : List Chunk → Type 0
Once chunks =
    (before between after : List Chunk) (one two : Chunk)
    → chunks ≡ before ++ (one ∷ (between ++ (two ∷ after)))
    → Covered (chunk_letters one) → chunk_letters one ≡ chunk_letters two
    → ⊥

-- M7: INFO comes before SONG, INST, PATT and SMPL.
abbrev pub InfoFirst : List Chunk → Type 0
InfoFirst chunks =
    (before after : List Chunk) (c : Chunk) → chunks ≡ before ++ (c ∷ after) → NeedsInfo (chunk_letters c)
    → (info : Info) × In before (INFO info)

-- The content of the mandatory chunks.
pub record ListsFit (info : Info) (songs : List Song) (instruments : List Instrument) (patterns : List Pattern) (samples : List Sample) : Type 0 where
  -- M9, B1: INFO's numbers are those of the lists.
  pub info_fits : InfoFits info
  pub song_count : length songs ≡ info.songs
  pub instrument_count : length instruments ≡ info.instruments
  pub pattern_count : length patterns ≡ info.patterns
  pub sample_count : length samples ≡ info.samples
  -- B2 to B5, V1, V2, V6 and V7: each song, instrument, pattern and sample fits.
  pub songs_fit : Every (SongFits (length patterns)) songs
  pub instruments_fit : Every (InstrumentFits samples) instruments
  pub patterns_fit : Every (PatternFits info.tracks) patterns
  pub samples_fit : Every SampleFits samples

-- A well-formed description.
pub record WellFormed (d : Description) : Type 0 where
  -- M2: at most 16,777,216 bytes.
  pub limit : length (encoded d) ≤ 16777216
  -- M3, M4: version and revision, and the word that is not examined.
  pub version : (d.version ≡ 2) ⊎ (d.version ≡ 3)
  pub revision : (d.revision / 16 ≤ 9) × (d.revision % 16 ≤ 9)
  pub reserved : Fits16 d.reserved
  -- M5 to M7: the chunks.
  pub lengths : Every (λ c. Fits32 (length (chunk_data c))) d.chunks
  pub once : Once d.chunks
  pub info_first : InfoFirst d.chunks
  pub others : (letters bytes : List ℕ) → In d.chunks (Other letters bytes) → OtherFits letters bytes
  -- M8: a name of 44 bytes, if there is one.
  pub name : (name : List ℕ) → In d.chunks (NAME name) → ManyBytes 44 name
  -- M7: the mandatory chunks, and their content.
  pub info : Info
  pub songs : List Song
  pub instruments : List Instrument
  pub patterns : List Pattern
  pub samples : List Sample
  pub info_there : In d.chunks (INFO info)
  pub songs_there : In d.chunks (SONG songs)
  pub instruments_there : In d.chunks (INST instruments)
  pub patterns_there : In d.chunks (PATT patterns)
  pub samples_there : In d.chunks (SMPL samples)
  pub lists : ListsFit info songs instruments patterns samples
  -- B6, V3 to V5: the envelopes, if there are any.
  pub volume_envelopes : (es : List Envelope) → In d.chunks (VENV es) → EnvelopesFit (length instruments) VolumeFits es
  pub panning_envelopes : (es : List Envelope) → In d.chunks (PENV es) → EnvelopesFit (length instruments) (PanningValueFits d.version) es
