-- The rules of a module, second of three statements: over bytes (FORMAT.md, M1 to M9, B1 to B6 and V1 to V7). It is the step between the
-- description (the third statement, crates/format/specs) and the check (the first): by theorem 8 the check accepts a module exactly if
-- these rules hold for its bytes. No reader is used: no walk, no step, no refusal. A module is a header followed by its chunks. A chunk
-- with blocks is its front followed by its blocks. Chunks and blocks are lists of bytes. A number in one is read at its offset:
-- `number16 block 44` is the 2-byte number at offset 44 of the block.
use Rattle.std.specs.Prelude.{ℕ, ◌+◌, ◌-◌, ◌*◌, ◌/◌, ◌%◌, ◌≤◌, ◌<◌, ◌≡◌, ◌⊎◌, List, [], ◌∷◌, ◌++◌, length, get_or, take, pos, negsuc, ◌≤ℤ◌}
use Rattle.vocabulary.specs.Lists.{joined, Every}
use Rattle.vocabulary.specs.Letters.{name_letters, info_letters, song_letters, inst_letters, patt_letters, smpl_letters, venv_letters, penv_letters}
use Rattle.numbers.specs.Numbers.{byte_at, number16, number32, signed16}
use Rattle.packed_rows.specs.Entries.{Entry}
use Rattle.packed_rows.specs.Theorems.{SoundStream}

-- M5: a chunk has 8 bytes of identifier and length, and as many bytes of data as its length says. Its identifier is four letters A to Z.
pub record IsChunk (chunk : List ℕ) : Type 0 where
  pub size : length chunk ≡ 8 + number32 chunk 4
  pub letters : (i : ℕ) → i < 4 → (65 ≤ byte_at chunk i) × (byte_at chunk i ≤ 90)

-- The chunk is one of the chunks and has these letters.
pub record Among (chunks : List (List ℕ)) (letters chunk : List ℕ) : Type 0 where
  pub before : List (List ℕ)
  pub after : List (List ℕ)
  pub splits : chunks ≡ before ++ (chunk ∷ after)
  pub named : take 4 chunk ≡ letters

-- M6: there is at most one chunk with these letters.
abbrev pub AtMostOnce : List (List ℕ) → List ℕ → Type 0
AtMostOnce chunks letters =
    (before between after : List (List ℕ)) (one two : List ℕ)
    → chunks ≡ before ++ (one ∷ (between ++ (two ∷ after)))
    → take 4 one ≡ letters → take 4 two ≡ letters
    → ⊥

-- M6: the letters of the covered chunks; M7: the letters of the four that come after INFO.
pub data Covered : List ℕ → Type 0 where
  name : Covered name_letters
  info : Covered info_letters
  song : Covered song_letters
  inst : Covered inst_letters
  patt : Covered patt_letters
  smpl : Covered smpl_letters
  venv : Covered venv_letters
  penv : Covered penv_letters

pub data NeedsInfo : List ℕ → Type 0 where
  song : NeedsInfo song_letters
  inst : NeedsInfo inst_letters
  patt : NeedsInfo patt_letters
  smpl : NeedsInfo smpl_letters

-- M7: INFO comes before each chunk with these letters.
abbrev pub AfterInfo : List (List ℕ) → List ℕ → Type 0
AfterInfo chunks letters =
    (before after : List (List ℕ)) (chunk : List ℕ)
    → chunks ≡ before ++ (chunk ∷ after) → take 4 chunk ≡ letters
    → (info : List ℕ) × Among before info_letters info

-- M9: INFO has 10 bytes of data: instruments, samples, songs, patterns, tracks.
pub record InfoRules (info : List ℕ) : Type 0 where
  pub size : length info ≡ 18
  pub instruments : number16 info 8 ≤ 255
  pub samples : number16 info 10 ≤ 255
  pub songs : number16 info 12 ≤ 32767
  pub patterns : number16 info 14 ≤ 1024
  pub tracks : (4 ≤ number16 info 16) × (number16 info 16 ≤ 254) × (number16 info 16 % 2 ≡ 0)

-- M2 to M9: the module is these 8 bytes followed by these chunks, and the rules of header and chunks hold.
pub record ChunkRules (m header : List ℕ) (chunks : List (List ℕ)) : Type 0 where
  pub bytes : m ≡ header ++ joined chunks
  pub limit : length m ≤ 16777216
  pub header_size : length header ≡ 8
  pub begins : take 4 header ≡ 68 ∷ 66 ∷ 77 ∷ 48 ∷ []
  pub version : (byte_at header 4 ≡ 2) ⊎ (byte_at header 4 ≡ 3)
  pub revision : (byte_at header 5 / 16 ≤ 9) × (byte_at header 5 % 16 ≤ 9)
  pub whole : Every IsChunk chunks
  pub once : (letters : List ℕ) → Covered letters → AtMostOnce chunks letters
  pub after_info : (letters : List ℕ) → NeedsInfo letters → AfterInfo chunks letters
  pub name : (chunk : List ℕ) → Among chunks name_letters chunk → length chunk ≡ 52
  pub info : (chunk : List ℕ) → Among chunks info_letters chunk → InfoRules chunk

-- B1: a chunk is its front followed by the given number of blocks, and nothing else.
pub record Filled (front : ℕ) (chunk : List ℕ) (count : ℕ) (blocks : List (List ℕ)) : Type 0 where
  pub fronts : front ≤ length chunk
  pub bytes : chunk ≡ take front chunk ++ joined blocks
  pub number : length blocks ≡ count

-- B2, V1: a song: name 44, length 2, and that many pattern numbers, counted from 0.
pub record SongRules (patterns : ℕ) (block : List ℕ) : Type 0 where
  pub size : length block ≡ 46 + 2 * number16 block 44
  pub entries : (i : ℕ) → i < number16 block 44 → number16 block (46 + 2 * i) < patterns

-- A stored number, read as signed, is from −128 to 128.
abbrev pub PanningFits : ℕ → Type 0
PanningFits v = (negsuc 127 ≤ℤ signed16 v) × (signed16 v ≤ℤ pos 128)

-- V6: the loop length is not 0, and bit 0 or bit 1 of the flags is set.
abbrev pub LoopedBlock : List ℕ → Type 0
LoopedBlock block = (1 ≤ number32 block 42) × ((number16 block 48 % 2 ≡ 1) ⊎ (number16 block 48 / 2 % 2 ≡ 1))

-- B3, V2, V6: an instrument: sample at 30, volume at 32, loop start at 38, loop length at 42, panning at 46, flags at 48.
pub record InstrumentRules (samples : List (List ℕ)) (block : List ℕ) : Type 0 where
  pub size : length block ≡ 50
  pub sample : number16 block 30 ≤ length samples
  pub volume : number16 block 32 ≤ 64
  pub panning : PanningFits (number16 block 46)
  pub flags : number16 block 48 < 4
  pub loop : LoopedBlock block → (1 ≤ number16 block 30) × (number32 block 38 + number32 block 42 ≤ number32 (get_or samples (number16 block 30 - 1) []) 4)

-- B4, V7: a pattern: rows 2, packed length 4, a stream of that length (R1 to R7), and a filler if the length is odd.
pub record PatternRules (tracks : ℕ) (block : List ℕ) : Type 0 where
  pub front : List ℕ
  pub stream : List ℕ
  pub filler : List ℕ
  pub entries : List (List Entry)
  pub bytes : block ≡ front ++ (stream ++ filler)
  pub front_size : length front ≡ 6
  pub packed : number32 front 2 ≡ length stream
  pub odd : length filler ≡ length stream % 2
  pub sound : SoundStream (number16 front 0) tracks stream entries

-- B5: a sample: flags 1, 2 or 4, which is also the number of bytes in a frame; then the number of frames, and the frames.
pub record SampleRules (block : List ℕ) : Type 0 where
  pub flags : (number32 block 0 ≡ 1) ⊎ ((number32 block 0 ≡ 2) ⊎ (number32 block 0 ≡ 4))
  pub size : length block ≡ 8 + number32 block 4 * number32 block 0

-- B6, V3 to V5: an envelope: instrument at 0, flags at 2, sections at 3, S1 at 4, L1 at 5, L2 at 6, S2 at 7, and from 8 on the points of
-- position 2 and value 2.
pub record EnvelopeRules (instruments : ℕ) (ValueFits : ℕ → Type 0) (block : List ℕ) : Type 0 where
  pub size : length block ≡ 136
  pub instrument : (1 ≤ number16 block 0) × (number16 block 0 ≤ instruments)
  pub flags : byte_at block 2 < 16
  pub sections : byte_at block 3 ≤ 31
  pub first_sustain : byte_at block 2 / 2 % 2 ≡ 1 → byte_at block 4 ≤ byte_at block 3
  pub loop : byte_at block 2 / 2 / 2 % 2 ≡ 1 → (byte_at block 5 ≤ byte_at block 3) × (byte_at block 6 ≤ byte_at block 3) × (byte_at block 5 ≤ byte_at block 6)
  pub second_sustain : byte_at block 2 / 2 / 2 / 2 % 2 ≡ 1 → byte_at block 7 ≤ byte_at block 3
  pub values : (i : ℕ) → i ≤ byte_at block 3 → ValueFits (number16 block (10 + 4 * i))

-- B6: a chunk of envelopes: their count, and the envelopes.
pub record EnvelopesRules (instruments : ℕ) (ValueFits : ℕ → Type 0) (chunk : List ℕ) : Type 0 where
  pub envelopes : List (List ℕ)
  pub filled : Filled 10 chunk (number16 chunk 8) envelopes
  pub rules : Every (EnvelopeRules instruments ValueFits) envelopes

-- V5: volume values are 0 to 64; panning values −128 to 128 in version 3, 0 to 64 in version 2.
abbrev pub VolumeFits : ℕ → Type 0
VolumeFits v = v ≤ 64

abbrev pub PanningValueFits : ℕ → ℕ → Type 0
PanningValueFits version v = (version ≡ 3 → PanningFits v) × (version ≡ 2 → v ≤ 64)

-- B1 to B6, V1 to V7: the content of these chunks: the blocks of SONG, INST, PATT and SMPL, as many as INFO says, and the envelopes.
pub record Content (header : List ℕ) (chunks : List (List ℕ)) (info song inst patt smpl : List ℕ) : Type 0 where
  pub songs : List (List ℕ)
  pub instruments : List (List ℕ)
  pub patterns : List (List ℕ)
  pub samples : List (List ℕ)
  pub songs_fill : Filled 8 song (number16 info 12) songs
  pub instruments_fill : Filled 8 inst (number16 info 8) instruments
  pub patterns_fill : Filled 8 patt (number16 info 14) patterns
  pub samples_fill : Filled 8 smpl (number16 info 10) samples
  pub song_rules : Every (SongRules (length patterns)) songs
  pub instrument_rules : Every (InstrumentRules samples) instruments
  pub pattern_rules : Every (PatternRules (number16 info 16)) patterns
  pub sample_rules : Every SampleRules samples
  pub volume_envelopes : (chunk : List ℕ) → Among chunks venv_letters chunk → EnvelopesRules (length instruments) VolumeFits chunk
  pub panning_envelopes : (chunk : List ℕ) → Among chunks penv_letters chunk → EnvelopesRules (length instruments) (PanningValueFits (byte_at header 4)) chunk

-- The rules of a whole module.
pub record Rules (m : List ℕ) : Type 0 where
  pub header : List ℕ
  pub chunks : List (List ℕ)
  pub chunk_rules : ChunkRules m header chunks
  pub info : List ℕ
  pub song : List ℕ
  pub inst : List ℕ
  pub patt : List ℕ
  pub smpl : List ℕ
  pub info_there : Among chunks info_letters info
  pub song_there : Among chunks song_letters song
  pub inst_there : Among chunks inst_letters inst
  pub patt_there : Among chunks patt_letters patt
  pub smpl_there : Among chunks smpl_letters smpl
  pub content : Content header chunks info song inst patt smpl
