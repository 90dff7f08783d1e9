-- The rules of a module, first of three statements: what the contracts cite, in the order of the refusals. Here: 4 to 7, 9 and 10, the
-- chunks; 8 is in Outlines.antt.
-- FORMAT.md, M5 to M9 and F12 (document 01, "Layout"): the chunks of a module, read from the front.
use Rattle.std.specs.Prelude.{ℕ, zero, suc, ◌+◌, ◌%◌, List, [], ◌∷◌, ◌++◌, Bool, false, cond, not, ◌&&◌, ◌||◌, length, eqb, leb, ⊤, Result, Ok, Err}
use Rattle.refusal.specs.Rules.{Rule, rule, first_broken}
use Rattle.refusal.specs.declared.Reason.TheVariants.{ChunkCut, Identifier, Repeated, BeforeInfo, FixedLength, InfoRange}
use Rattle.refusal.specs.declared.Refusal.{Refusal}
use Rattle.numbers.specs.Numbers.{byte_at, number16, number32, part_of, bytes32}

-- M6: the identifiers of the covered chunks. An "identifier" is its four letters, as one number.
abbrev pub name_identifier : ℕ
name_identifier = 0x4E414D45

abbrev pub info_identifier : ℕ
info_identifier = 0x494E464F

abbrev pub song_identifier : ℕ
song_identifier = 0x534F4E47

abbrev pub inst_identifier : ℕ
inst_identifier = 0x494E5354

abbrev pub patt_identifier : ℕ
patt_identifier = 0x50415454

abbrev pub smpl_identifier : ℕ
smpl_identifier = 0x534D504C

abbrev pub venv_identifier : ℕ
venv_identifier = 0x56454E56

abbrev pub penv_identifier : ℕ
penv_identifier = 0x50454E56

-- M5, document 01's "chunk": its identifier, the place of its header, and the length of its data.
pub record ChunkHeader : Type 0 where
  pub identifier : ℕ
  pub at : ℕ
  pub length : ℕ

abbrev pub chunk_at : List ℕ → ℕ → ChunkHeader
chunk_at m at = record { identifier = number32 m at; at = at; length = number32 m (at + 4) }

-- M5: the place after a chunk: its header has 8 bytes, and no padding follows the data.
abbrev pub chunk_end : ChunkHeader → ℕ
chunk_end c = c.at + 8 + c.length

-- M5: a letter A to Z, and the four letters of an identifier.
abbrev pub is_letter : ℕ → Bool
is_letter byte = leb 65 byte && leb byte 90

abbrev pub four_letters : List ℕ → ℕ → Bool
four_letters m at = is_letter (byte_at m at) && (is_letter (byte_at m (at + 1)) && (is_letter (byte_at m (at + 2)) && is_letter (byte_at m (at + 3))))

-- M7: SONG, INST, PATT and SMPL, the four chunks that INFO is before.
abbrev pub needs_info : ℕ → Bool
needs_info identifier = eqb identifier song_identifier || (eqb identifier inst_identifier || (eqb identifier patt_identifier || eqb identifier smpl_identifier))

-- M6, document 01's "covered" chunks.
abbrev pub covered : ℕ → Bool
covered identifier =
    eqb identifier name_identifier
    || (eqb identifier info_identifier || (needs_info identifier || (eqb identifier venv_identifier || eqb identifier penv_identifier)))

-- Whether a chunk with this identifier is in the list.
abbrev pub occurs : ℕ → List ChunkHeader → Bool
occurs identifier [] = false
occurs identifier (c ∷ cs) = eqb c.identifier identifier || occurs identifier cs

-- M8, M9: NAME has 44 bytes, INFO has 10.
abbrev pub length_fits : ChunkHeader → Bool
length_fits c = (not (eqb c.identifier name_identifier) || eqb c.length 44) && (not (eqb c.identifier info_identifier) || eqb c.length 10)

-- M9: whether the number of tracks is even and from 4 to 254.
abbrev pub tracks_fit : ℕ → Bool
tracks_fit tracks = leb 4 tracks && (leb tracks 254 && eqb (tracks % 2) 0)

-- M9: the rules of INFO's five numbers. INFO's data begin at the given place. (Source document 001 allows other tracks and samples; 000
-- decides.)
abbrev pub info_rules : List ℕ → ℕ → List Rule
info_rules m start =
    rule (leb (number16 m start) 255) InfoRange start
    ∷ rule (leb (number16 m (start + 2)) 255) InfoRange (start + 2)
    ∷ rule (leb (number16 m (start + 4)) 32767) InfoRange (start + 4)
    ∷ rule (leb (number16 m (start + 6)) 1024) InfoRange (start + 6)
    ∷ rule (tracks_fit (number16 m (start + 8))) InfoRange (start + 8)
    ∷ []

-- F12: the rules of the chunk at a place, by the chunks before it: 4, 5, 4, 6, 7, 9, 10.
abbrev pub chunk_rules : List ℕ → List ChunkHeader → ℕ → List Rule
chunk_rules m before at =
    rule (leb (at + 8) (length m)) ChunkCut at
    ∷ rule (four_letters m at) Identifier at
    ∷ rule (leb (chunk_end (chunk_at m at)) (length m)) ChunkCut at
    ∷ rule (not (covered (number32 m at) && occurs (number32 m at) before)) Repeated at
    ∷ rule (not (needs_info (number32 m at)) || occurs info_identifier before) BeforeInfo at
    ∷ rule (length_fits (chunk_at m at)) FixedLength at
    ∷ cond (eqb (number32 m at) info_identifier) (info_rules m (at + 8)) []

-- The result of reading the chunks: all of them, or the first refusal.
pub data Walk : Type 0 where
  complete : List ChunkHeader → Walk
  stopped : Refusal → Walk

-- The refusal of a chunk, or the walk after it if it has none.
abbrev pub walk_on : Result ⊤ Refusal → Walk → Walk
walk_on (Ok _) after = after
walk_on (Err r) after = stopped r

-- M5: the chunks from a place on, after those before it. The first number bounds the steps: a chunk has at least 8 bytes.
unfoldable pub chunks_from : ℕ → List ℕ → List ChunkHeader → ℕ → Walk
chunks_from zero m before at = complete before
chunks_from (suc steps) m before at =
    cond (leb (length m) at) (complete before)
    (walk_on (first_broken (chunk_rules m before at)) (chunks_from steps m (before ++ (chunk_at m at ∷ [])) (chunk_end (chunk_at m at))))

-- M5: the chunks of a module come after its header.
unfoldable pub chunks : List ℕ → Walk
unfolding chunks_from
chunks m = chunks_from (suc (length m)) m [] 8

-- The chunks that were read; none if the walk was stopped.
abbrev pub chunks_read : Walk → List ChunkHeader
chunks_read (complete cs) = cs
chunks_read (stopped r) = []

-- M5: a chunk with other data: its identifier as it is stored, the length of the data, and the data.
abbrev pub with_content : List ℕ → ChunkHeader → List ℕ → List ℕ
with_content m c content = part_of m c.at 4 ++ (bytes32 (length content) ++ content)
