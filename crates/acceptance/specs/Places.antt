-- FORMAT.md, F17: the place of each refusal of a module, and what is wrong there. Chunks and blocks are lists of bytes, as in
-- specs/Rules.antt, and the faults are those of specs/Faults.antt. Neither file uses a reader.
use Rattle.std.specs.Prelude.{ℕ, ◌+◌, ◌≤◌, ◌<◌, ◌≡◌, List, ◌∷◌, ◌++◌, length}
use Rattle.vocabulary.specs.Lists.{joined, Every}
use Rattle.vocabulary.specs.Letters.{info_letters}
use Rattle.refusal.specs.Numbers.{refusal}
use Rattle.refusal.specs.declared.Reason.TheVariants.{TooLong, NotAModule, Version, ChunkCut, Identifier, Repeated}
use Rattle.refusal.specs.declared.Reason.TheVariants.{BeforeInfo, Missing, FixedLength, InfoRange, Blocks, Reference}
use Rattle.refusal.specs.declared.Reason.TheVariants.{FieldRange, Loop, Stream}
use Rattle.refusal.specs.declared.Refusal.{Refusal}
use Rattle.blocks.specs.declared.RecordKind.{RecordKind}
use Rattle.blocks.specs.declared.RecordKind.TheVariants.{Instrument, Pattern}
use Rattle.acceptance.specs.Rules.{IsChunk, Among, NeedsInfo, ChunkRules}
use Rattle.acceptance.specs.Faults.{letters_of, front_of, MadeOf, HeaderFault, VersionFault, CutFault, IdentifierFault}
use Rattle.acceptance.specs.Faults.{RepeatedFault, OrderFault, MissingFault, LengthFault, InfoFault, BlocksFault}
use Rattle.acceptance.specs.Faults.{ReferenceFault, FieldFault, LoopFault, PatternFault}

-- A chunk's header begins at this place: the module's header and whole chunks are before it, and at least one byte follows.
pub record HeaderAt (m : List ℕ) (place : ℕ) : Type 0 where
  pub header : List ℕ
  pub before : List (List ℕ)
  pub after : List ℕ
  pub bytes : m ≡ (header ++ joined before) ++ after
  pub header_size : length header ≡ 8
  pub whole : Every IsChunk before
  pub there : length (header ++ joined before) ≡ place
  pub follows : place < length m

-- A whole chunk begins at this place.
pub record ChunkBegins (m : List ℕ) (place : ℕ) : Type 0 where
  pub begins : HeaderAt m place
  pub chunk : List ℕ
  pub rest : List ℕ
  pub bytes : begins.after ≡ chunk ++ rest
  pub whole : IsChunk chunk

-- The module is a header followed by these chunks.
pub record ChunksOf (m : List ℕ) (chunks : List (List ℕ)) : Type 0 where
  pub header : List ℕ
  pub bytes : m ≡ header ++ joined chunks
  pub header_size : length header ≡ 8
  pub whole : Every IsChunk chunks

-- The module has no fault of 1 to 10: these are its header and its chunks, M2 to M9 hold for them, and the mandatory chunks are present.
pub record AllChunks (m : List ℕ) : Type 0 where
  pub header : List ℕ
  pub chunks : List (List ℕ)
  pub rules : ChunkRules m header chunks
  pub info : List ℕ
  pub info_there : Among chunks info_letters info
  pub others_there : (letters : List ℕ) → NeedsInfo letters → (chunk : List ℕ) × Among chunks letters chunk

-- The chunk of a record kind begins at this place, after the module's 8 bytes and the chunks before it.
pub record BlocksAt {m : List ℕ} (all : AllChunks m) (kind : RecordKind) (place : ℕ) : Type 0 where
  pub chunk : List ℕ
  pub among : Among all.chunks (letters_of kind) chunk
  pub there : 8 + length (joined among.before) ≡ place

-- A block of a record kind begins at this place: it is one of the blocks of its chunk.
pub record BlockBegins {m : List ℕ} (all : AllChunks m) (kind : RecordKind) (place : ℕ) : Type 0 where
  pub start : ℕ
  pub within : BlocksAt all kind start
  pub before : List (List ℕ)
  pub block : List ℕ
  pub after : List (List ℕ)
  pub blocks : MadeOf kind all.info within.chunk (before ++ (block ∷ after))
  pub there : start + front_of kind + length (joined before) ≡ place

-- A field of such a block begins at this place, and Wrong holds for the block, its record kind and the field's offset.
pub record FieldAt {m : List ℕ} (all : AllChunks m) (Wrong : List ℕ → RecordKind → ℕ → Type 0) (place : ℕ) : Type 0 where
  pub kind : RecordKind
  pub start : ℕ
  pub within : BlockBegins all kind start
  pub offset : ℕ
  pub there : start + offset ≡ place
  pub wrong : Wrong within.block kind offset

-- F17: the place of each refusal from 11 to 15, and what is wrong there.
pub data ContentPlace {m : List ℕ} (all : AllChunks m) : Refusal → Type 0 where
  blocks : {kind : RecordKind} {place : ℕ} (at : BlocksAt all kind place) → BlocksFault kind all.info at.chunk → ContentPlace all (refusal Blocks place)
  reference : {place : ℕ} → FieldAt all (ReferenceFault all.info) place → ContentPlace all (refusal Reference place)
  field_range : {place : ℕ} → FieldAt all (FieldFault all.header) place → ContentPlace all (refusal FieldRange place)
  loop : {place : ℕ} (at : BlockBegins all Instrument place) → LoopFault all.chunks all.info at.block → ContentPlace all (refusal Loop place)
  stream : {place : ℕ} (at : BlockBegins all Pattern place) → PatternFault all.info at.block → ContentPlace all (refusal Stream place)

-- F17: the place of each refusal of a module, from 1 to 15, and what is wrong there.
pub data PlaceOf (m : List ℕ) : Refusal → Type 0 where
  too_long : 16777216 < length m → PlaceOf m (refusal TooLong 0)
  not_aModule : HeaderFault m → PlaceOf m (refusal NotAModule 0)
  version : 8 ≤ length m → VersionFault m → PlaceOf m (refusal Version 4)
  chunk_cut : {place : ℕ} (at : HeaderAt m place) → CutFault at.after → PlaceOf m (refusal ChunkCut place)
  identifier : {place : ℕ} (at : HeaderAt m place) → IdentifierFault at.after → PlaceOf m (refusal Identifier place)
  repeated : {place : ℕ} (at : ChunkBegins m place) → RepeatedFault at.begins.before at.chunk → PlaceOf m (refusal Repeated place)
  before_info : {place : ℕ} (at : ChunkBegins m place) → OrderFault at.begins.before at.chunk → PlaceOf m (refusal BeforeInfo place)
  missing : {chunks : List (List ℕ)} → ChunksOf m chunks → MissingFault chunks → PlaceOf m (refusal Missing (length m))
  fixed_length : {place : ℕ} (at : ChunkBegins m place) → LengthFault at.chunk → PlaceOf m (refusal FixedLength place)
  info_range : {place offset : ℕ} (at : ChunkBegins m place) → InfoFault at.chunk offset → PlaceOf m (refusal InfoRange (place + offset))
  content : (all : AllChunks m) {r : Refusal} → ContentPlace all r → PlaceOf m r
