-- A description whose chunks are changed one by one. A chunk is unchanged or has other content of its kind, and only chunks of certain
-- kinds change. So a chunk that does not change is in the changed description exactly if it was there before, M5 to M7 still hold, and the
-- description is well formed if the new content of the mandatory chunks fits. Its bytes are those of the changed chunks.
use Prim.Native.Nat.{ℕ, ◌≤◌}
use mathlib.Core.Path.{◌≡◌, refl, sym, ap, subst, ◌∙◌}
use mathlib.Core.List.{List, ◌++◌, map, map-map}
use mathlib.Core.Bool.{Bool, true, false}
use native.Mathlib.Omega.{arith}
use lib.ListN.{length, length-append}
use lib.Dec.{eqb}
use Rattle.vocabulary.specs.Lists.{joined, Every}
use Rattle.vocabulary.proofs.EveryOne.{every_of}
use Rattle.vocabulary.proofs.MappedLists.{map-split, map_same}
use Rattle.vocabulary.proofs.JoinedLists.{each-inside}
use Rattle.vocabulary.proofs.Splits.{within-mapped, mapped-within, no-two-mapped}
use Rattle.numbers.specs.Numbers.{bytes32}
use Rattle.acceptance.specs.Rules.{NeedsInfo, VolumeFits, PanningValueFits}
use Rattle.acceptance.proofs.Holding.{false-never}
use Rattle.format.specs.Description.{Info, Song, Instrument, Pattern, Sample, Chunk, INFO, SONG, INST, PATT, SMPL, Description}
use Rattle.format.specs.Encoding.{chunk_letters, chunk_data, chunk_bytes, header_bytes, encoded}
use Rattle.format.specs.WellFormed.{Fits32, ListsFit, EnvelopesFit, In, Once, InfoFirst, WellFormed}
use Rattle.format.proofs.ChunksIn.{in_within, within_in, every_in, once-letters, letters-once}
use Rattle.format.proofs.ChunkKinds.{ChunkKind, named, counted, songs, instruments, patterns, samples, volumes, pannings}
use Rattle.format.proofs.ChunkKinds.{others, chunk_kind_of, Holding, holder, held-as}

-- Whether two kinds are the same.
abbrev kind_number : ChunkKind → ℕ
kind_number named = 0
kind_number counted = 1
kind_number songs = 2
kind_number instruments = 3
kind_number patterns = 4
kind_number samples = 5
kind_number volumes = 6
kind_number pannings = 7
kind_number others = 8

abbrev pub is_kind : ChunkKind → ChunkKind → Bool
is_kind kind k = eqb (kind_number kind) (kind_number k)

abbrev pub SameLetters : (k : ChunkKind) → Holding k → Holding k → Type 0
SameLetters k old new = chunk_letters (holder k new) ≡ chunk_letters (holder k old)

-- What a chunk becomes: it is unchanged; or its kind is one that changes, and it has other content and the same identifier.
pub data Becomes (changes : ChunkKind → Bool) : Chunk → Chunk → Type 0 where
  stays : (c : Chunk) → Becomes changes c c
  holds : (k : ChunkKind) → changes k ≡ true → (old new : Holding k) → SameLetters k old new → Becomes changes (holder k old) (holder k new)

kind-held : (k : ChunkKind) (h : Holding k) → chunk_kind_of (holder k h) ≡ k
kind-held named h = refl
kind-held counted h = refl
kind-held songs h = refl
kind-held instruments h = refl
kind-held patterns h = refl
kind-held samples h = refl
kind-held volumes h = refl
kind-held pannings h = refl
kind-held others h = refl

module _ {changes : ChunkKind → Bool} where
  becomes-letters : {c new : Chunk} → Becomes changes c new → chunk_letters new ≡ chunk_letters c
  becomes-letters (stays c) = refl
  becomes-letters (holds k e old new same) = same

  becomes-kind : {c new : Chunk} → Becomes changes c new → chunk_kind_of new ≡ chunk_kind_of c
  becomes-kind (stays c) = refl
  becomes-kind (holds k e old new same) = kind-held k new ∙ sym (kind-held k old)

  becomes-same : {c new : Chunk} → Becomes changes c new → changes (chunk_kind_of new) ≡ false → new ≡ c
  becomes-same (stays c) left = refl
  becomes-same (holds k e old new same) left = false-never (sym left ∙ ap changes (kind-held k new) ∙ e)

-- A change of chunks, of these kinds only.
abbrev pub Change : (ChunkKind → Bool) → (Chunk → Chunk) → Type 0
Change changes f = (c : Chunk) → Becomes changes c (f c)

module _ (f : Chunk → Chunk) where
  -- The chunk in the changed list is the change of the chunk before.
  pub in-changed : {chunks : List Chunk} {c : Chunk} → In chunks c → In (map f chunks) (f c)
  in-changed i = within_in (within-mapped f (in_within i))

  module _ {changes : ChunkKind → Bool} (change : Change changes f) {chunks : List Chunk} where
    -- A chunk of a kind that does not change was there before.
    pub was-in : {c : Chunk} → changes (chunk_kind_of c) ≡ false → In (map f chunks) c → In chunks c
    was-in {c} left i =
        let (one, within, same) = mapped-within f (in_within i) in
        let stayed : f one ≡ one = becomes-same (change one) (ap (λ (new : Chunk). changes (chunk_kind_of new)) (sym same) ∙ left) in
        subst (In chunks) (sym (same ∙ stayed)) (within_in within)

    -- M6 and M7 still hold.
    once-changed : Once chunks → Once (map f chunks)
    once-changed once =
        letters-once (λ letters covers. no-two-mapped f (λ (c : Chunk). chunk_letters c ≡ letters)
        (λ c within named. sym (becomes-letters (change c)) ∙ named) (once-letters once letters covers))

    info_first-changed : InfoFirst chunks → InfoFirst (map f chunks)
    info_first-changed first before after c e needs =
        let s = map-split f chunks before after c e in
        let letters : chunk_letters c ≡ chunk_letters s.one = ap chunk_letters s.one_is ∙ becomes-letters (change s.one) in
        let (info, there) = first s.front s.back s.one s.splits (subst NeedsInfo letters needs) in
        let (new, is) = held-as (f (INFO info)) counted (becomes-kind (change (INFO info))) in
        (new, subst (λ (l : List Chunk). In l (INFO new)) (sym s.front_is) (subst (In (map f s.front)) is (in-changed there)))

-- M5: in a module that is short enough the length of every chunk's data fits 4 bytes.
lengths-fit : (d : Description) → length (encoded d) ≤ 16777216 → Every (λ c. Fits32 (length (chunk_data c))) d.chunks
lengths-fit d limit =
    every_of (λ c h. omega (arith, limit, length-append (chunk_letters c) (bytes32 (length (chunk_data c)) ++ chunk_data c)))
    (each-inside chunk_bytes d.chunks)

-- A description with its chunks changed.
abbrev pub changed_description : (Chunk → Chunk) → Description → Description
changed_description f d = record { version = d.version; revision = d.revision; reserved = d.reserved; chunks = map f d.chunks }

-- Its bytes, if `g` changes the bytes of each chunk as `f` changes the chunk.
module _ (d : Description) (f : Chunk → Chunk) (g : List ℕ → List ℕ) (same : (c : Chunk) → In d.chunks c → g (chunk_bytes c) ≡ chunk_bytes (f c)) where
  pub encoded-changed : header_bytes d ++ joined (map g (map chunk_bytes d.chunks)) ≡ encoded (changed_description f d)
  encoded-changed =
      let each = map_same (λ c. g (chunk_bytes c)) (λ c. chunk_bytes (f c)) (every_in d.chunks same) in
      let chunks = map-map g chunk_bytes d.chunks ∙ each ∙ sym (map-map chunk_bytes f d.chunks) in
      ap (λ (list : List (List ℕ)). header_bytes d ++ joined list) chunks

-- The content of the changed mandatory chunks, and that it fits. The number of instruments is unchanged.
pub record HeldAfter {d : Description} (w : WellFormed d) (f : Chunk → Chunk) : Type 0 where
  pub info : Info
  pub songs : List Song
  pub instruments : List Instrument
  pub patterns : List Pattern
  pub samples : List Sample
  pub info_is : f (INFO w.info) ≡ INFO info
  pub songs_are : f (SONG w.songs) ≡ SONG songs
  pub instruments_are : f (INST w.instruments) ≡ INST instruments
  pub patterns_are : f (PATT w.patterns) ≡ PATT patterns
  pub samples_are : f (SMPL w.samples) ≡ SMPL samples
  pub lists : ListsFit info songs instruments patterns samples
  pub as_many : length w.instruments ≡ length instruments

-- NAME, the envelopes and other chunks do not change.
pub record LeavesRest (changes : ChunkKind → Bool) : Type 0 where
  pub name : changes named ≡ false
  pub volume : changes volumes ≡ false
  pub panning : changes pannings ≡ false
  pub other : changes others ≡ false

module _ {d : Description} (w : WellFormed d) {f : Chunk → Chunk} {changes : ChunkKind → Bool} (change : Change changes f) (rest : LeavesRest changes) where
  abbrev values : ℕ → Type 0
  values = PanningValueFits d.version

  pub changed-well-formed : length (encoded (changed_description f d)) ≤ 16777216 → HeldAfter w f → WellFormed (changed_description f d)
  changed-well-formed limit held = record {
    limit = limit;
    version = w.version;
    revision = w.revision;
    reserved = w.reserved;
    lengths = lengths-fit (changed_description f d) limit;
    once = once-changed f change w.once;
    info_first = info_first-changed f change w.info_first;
    others = λ letters bytes i. w.others letters bytes (was-in f change rest.other i);
    name = λ name i. w.name name (was-in f change rest.name i);
    info = held.info;
    songs = held.songs;
    instruments = held.instruments;
    patterns = held.patterns;
    samples = held.samples;
    info_there = there held.info_is w.info_there;
    songs_there = there held.songs_are w.songs_there;
    instruments_there = there held.instruments_are w.instruments_there;
    patterns_there = there held.patterns_are w.patterns_there;
    samples_there = there held.samples_are w.samples_there;
    lists = held.lists;
    volume_envelopes = λ es i. subst (λ (n : ℕ). EnvelopesFit n VolumeFits es) held.as_many (w.volume_envelopes es (was-in f change rest.volume i));
    panning_envelopes = λ es i. subst (λ (n : ℕ). EnvelopesFit n values es) held.as_many (w.panning_envelopes es (was-in f change rest.panning i));
  }
    where
      there : {c new : Chunk} → f c ≡ new → In d.chunks c → In (map f d.chunks) new
      there is i = subst (In (map f d.chunks)) is (in-changed f i)
