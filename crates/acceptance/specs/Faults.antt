-- FORMAT.md, "Refusals" and F17: what is wrong at the place of a refusal, stated without a reader. Each fault is the opposite of a rule in
-- specs/Rules.antt. The number at the front of a comment is that of the refusal. Chunks and blocks are lists of bytes, and a number in one
-- is read at its offset there. If a field is wrong, its offset is the last number of the statement. A record kind says what the blocks of a
-- chunk are: songs, instruments, patterns, samples, volume envelopes or panning envelopes.
use Rattle.std.specs.Prelude.{ℕ, ◌+◌, ◌-◌, ◌*◌, ◌/◌, ◌%◌, ◌≤◌, ◌<◌, ◌≡◌, ◌⊎◌, List, [], ◌∷◌, length, get_or, take}
use Rattle.vocabulary.specs.Lists.{Every}
use Rattle.vocabulary.specs.Letters.{name_letters, info_letters, song_letters, inst_letters, patt_letters, smpl_letters, venv_letters, penv_letters}
use Rattle.numbers.specs.Numbers.{byte_at, number16, number32, part_of}
use Rattle.packed_rows.specs.Entries.{Entry}
use Rattle.packed_rows.specs.Theorems.{SoundStream}
use Rattle.blocks.specs.declared.RecordKind.{RecordKind}
use Rattle.blocks.specs.declared.RecordKind.TheVariants.{Song, Instrument, Pattern, Sample, VolumeEnvelope, PanningEnvelope}
use Rattle.acceptance.specs.Rules.{Among, Covered, NeedsInfo, Filled, PanningFits, LoopedBlock, SampleRules, VolumeFits, PanningValueFits}

-- B1: the letters of the chunk whose blocks are of this record kind.
abbrev pub letters_of : RecordKind → List ℕ
letters_of Song = song_letters
letters_of Instrument = inst_letters
letters_of Pattern = patt_letters
letters_of Sample = smpl_letters
letters_of VolumeEnvelope = venv_letters
letters_of PanningEnvelope = penv_letters

-- B1: the number of bytes before the first block: identifier and length, and in VENV and PENV the count.
abbrev pub front_of : RecordKind → ℕ
front_of Song = 8
front_of Instrument = 8
front_of Pattern = 8
front_of Sample = 8
front_of VolumeEnvelope = 10
front_of PanningEnvelope = 10

-- B1: the number of blocks in the chunk, from INFO or from the chunk's own count.
abbrev pub count_in : RecordKind → List ℕ → List ℕ → ℕ
count_in Song info chunk = number16 info 12
count_in Instrument info chunk = number16 info 8
count_in Pattern info chunk = number16 info 14
count_in Sample info chunk = number16 info 10
count_in VolumeEnvelope info chunk = number16 chunk 8
count_in PanningEnvelope info chunk = number16 chunk 8

-- B2 to B6: a block is as long as its own bytes say. For a sample this includes its flags, which are 1, 2 or 4.
abbrev pub SizeFits : RecordKind → List ℕ → Type 0
SizeFits Song block = length block ≡ 46 + 2 * number16 block 44
SizeFits Instrument block = length block ≡ 50
SizeFits Pattern block = length block ≡ 6 + number32 block 2 + number32 block 2 % 2
SizeFits Sample block = SampleRules block
SizeFits VolumeEnvelope block = length block ≡ 136
SizeFits PanningEnvelope block = length block ≡ 136

-- B1: the chunk is its front followed by these blocks, in the right number, each as long as its bytes say, and nothing else.
pub record MadeOf (kind : RecordKind) (info chunk : List ℕ) (blocks : List (List ℕ)) : Type 0 where
  pub filled : Filled (front_of kind) chunk (count_in kind info chunk) blocks
  pub sizes : Every (SizeFits kind) blocks

-- 2, M3: the module has under 8 bytes, or does not begin with D B M 0.
pub data HeaderFault (m : List ℕ) : Type 0 where
  short : length m < 8 → HeaderFault m
  begins : (take 4 m ≡ 68 ∷ 66 ∷ 77 ∷ 48 ∷ [] → ⊥) → HeaderFault m

-- 3, M4: the version is neither 2 nor 3, or a digit of the revision is over 9.
pub data VersionFault (m : List ℕ) : Type 0 where
  version : (byte_at m 4 ≡ 2 → ⊥) → (byte_at m 4 ≡ 3 → ⊥) → VersionFault m
  first_digit : 9 < byte_at m 5 / 16 → VersionFault m
  second_digit : 9 < byte_at m 5 % 16 → VersionFault m

-- 4, M5: from a chunk's header on there are fewer bytes than a header has, or fewer than the header and its data have.
pub data CutFault (after : List ℕ) : Type 0 where
  header : length after < 8 → CutFault after
  contents : length after < 8 + number32 after 4 → CutFault after

-- 5, M5: there is a header, and it does not begin with four letters A to Z.
pub record IdentifierFault (after : List ℕ) : Type 0 where
  pub size : 8 ≤ length after
  pub letters : ((i : ℕ) → i < 4 → (65 ≤ byte_at after i) × (byte_at after i ≤ 90)) → ⊥

-- 6, M6: the chunk is covered, and a chunk with its letters is among the chunks before it.
pub record RepeatedFault (before : List (List ℕ)) (chunk : List ℕ) : Type 0 where
  pub covered : Covered (take 4 chunk)
  pub other : List ℕ
  pub among : Among before (take 4 chunk) other

-- 7, M7: the chunk is SONG, INST, PATT or SMPL, and no INFO is among the chunks before it.
pub record OrderFault (before : List (List ℕ)) (chunk : List ℕ) : Type 0 where
  pub needs : NeedsInfo (take 4 chunk)
  pub lacks : (other : List ℕ) → Among before info_letters other → ⊥

-- 8, M7: INFO, SONG, INST, PATT or SMPL is not among the chunks.
pub record MissingFault (chunks : List (List ℕ)) : Type 0 where
  pub letters : List ℕ
  pub mandatory : (letters ≡ info_letters) ⊎ NeedsInfo letters
  pub lacks : (chunk : List ℕ) → Among chunks letters chunk → ⊥

-- 9, M8 and M9: the chunk is NAME and its data are not 44 bytes, or it is INFO and they are not 10.
pub data LengthFault (chunk : List ℕ) : Type 0 where
  name : take 4 chunk ≡ name_letters → (length chunk ≡ 52 → ⊥) → LengthFault chunk
  info : take 4 chunk ≡ info_letters → (length chunk ≡ 18 → ⊥) → LengthFault chunk

-- 10, M9: the number at this offset of INFO is out of range. InfoFault adds that the chunk is INFO and has 10 bytes of data.
pub data RangeFault (info : List ℕ) : ℕ → Type 0 where
  instruments : 255 < number16 info 8 → RangeFault info 8
  samples : 255 < number16 info 10 → RangeFault info 10
  songs : 32767 < number16 info 12 → RangeFault info 12
  patterns : 1024 < number16 info 14 → RangeFault info 14
  tracks : ((4 ≤ number16 info 16) × (number16 info 16 ≤ 254) × (number16 info 16 % 2 ≡ 0) → ⊥) → RangeFault info 16

pub record InfoFault (chunk : List ℕ) (offset : ℕ) : Type 0 where
  pub named : take 4 chunk ≡ info_letters
  pub size : length chunk ≡ 18
  pub range : RangeFault chunk offset

-- 11, B1 to B6: the chunk does not consist of the right number of blocks, each as long as its bytes say.
pub record BlocksFault (kind : RecordKind) (info chunk : List ℕ) : Type 0 where
  pub none : (blocks : List (List ℕ)) → MadeOf kind info chunk blocks → ⊥

-- 12, V1 to V3: a block refers to something that does not exist: the pattern of an entry, counted from 0; the sample of an instrument,
-- counted from 1, with 0 for none; the instrument of an envelope, counted from 1.
abbrev pub InstrumentLacks : List ℕ → List ℕ → Type 0
InstrumentLacks counts block = (number16 block 0 ≡ 0) ⊎ (number16 counts 8 < number16 block 0)

pub data ReferenceFault (info block : List ℕ) : RecordKind → ℕ → Type 0 where
  playlist_entry : (i : ℕ) → i < number16 block 44 → number16 info 14 ≤ number16 block (46 + 2 * i) → ReferenceFault info block Song (46 + 2 * i)
  sample : number16 info 10 < number16 block 30 → ReferenceFault info block Instrument 30
  of_volume : InstrumentLacks info block → ReferenceFault info block VolumeEnvelope 0
  of_panning : InstrumentLacks info block → ReferenceFault info block PanningEnvelope 0

-- 13, V2: the field of an instrument at this offset is out of range.
pub data InstrumentFault (block : List ℕ) : ℕ → Type 0 where
  volume : 64 < number16 block 32 → InstrumentFault block 32
  panning : (PanningFits (number16 block 46) → ⊥) → InstrumentFault block 46
  flags : 4 ≤ number16 block 48 → InstrumentFault block 48

-- 13, V3 to V5: the field of an envelope at this offset is out of range: flags; sections; S1 if bit 1 of the flags is set; L1 or L2 if bit
-- 2 is set, where L2 is also wrong if it is under L1; S2 if bit 3 is set; or the value of one of the points in use, of which there are at
-- most 32.
pub data EnvelopeFault (ValueFits : ℕ → Type 0) (block : List ℕ) : ℕ → Type 0 where
  flags : 16 ≤ byte_at block 2 → EnvelopeFault ValueFits block 2
  sections : 31 < byte_at block 3 → EnvelopeFault ValueFits block 3
  first_sustain : byte_at block 2 / 2 % 2 ≡ 1 → byte_at block 3 < byte_at block 4 → EnvelopeFault ValueFits block 4
  loop_first : byte_at block 2 / 2 / 2 % 2 ≡ 1 → byte_at block 3 < byte_at block 5 → EnvelopeFault ValueFits block 5
  loop_last : byte_at block 2 / 2 / 2 % 2 ≡ 1 → (byte_at block 3 < byte_at block 6) ⊎ (byte_at block 6 < byte_at block 5) → EnvelopeFault ValueFits block 6
  second_sustain : byte_at block 2 / 2 / 2 / 2 % 2 ≡ 1 → byte_at block 3 < byte_at block 7 → EnvelopeFault ValueFits block 7
  value : (i : ℕ) → i ≤ byte_at block 3 → i < 32 → (ValueFits (number16 block (10 + 4 * i)) → ⊥) → EnvelopeFault ValueFits block (10 + 4 * i)

-- 13: the same for all blocks with such fields. The range of a panning envelope's values depends on the version in the module's header.
pub data FieldFault (header block : List ℕ) : RecordKind → ℕ → Type 0 where
  instrument : {offset : ℕ} → InstrumentFault block offset → FieldFault header block Instrument offset
  of_volume : {offset : ℕ} → EnvelopeFault VolumeFits block offset → FieldFault header block VolumeEnvelope offset
  of_panning : {offset : ℕ} → EnvelopeFault (PanningValueFits (byte_at header 4)) block offset → FieldFault header block PanningEnvelope offset

-- 14, V6: the instrument is looped, and it has no sample or its loop ends past the frames of its sample, which is one of SMPL's blocks.
pub record LoopFault (chunks : List (List ℕ)) (info block : List ℕ) : Type 0 where
  pub smpl : List ℕ
  pub among : Among chunks smpl_letters smpl
  pub samples : List (List ℕ)
  pub blocks : MadeOf Sample info smpl samples
  pub looped : LoopedBlock block
  pub exists : number16 block 30 ≤ length samples
  pub outside : (number16 block 30 ≡ 0) ⊎ (number32 (get_or samples (number16 block 30 - 1) []) 4 < number32 block 38 + number32 block 42)

-- 15, V7: the packed bytes of the pattern are not a stream of its rows and INFO's tracks.
pub record PatternFault (info block : List ℕ) : Type 0 where
  pub none : (entries : List (List Entry)) → SoundStream (number16 block 0) (number16 info 16) (part_of block 6 (number32 block 2)) entries → ⊥
