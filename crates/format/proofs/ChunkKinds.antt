-- The kind of a chunk: which of the covered ones it is, or another. Its bytes determine its kind, and so its content.
use Prim.Native.Nat.{ℕ}
use mathlib.Core.Path.{◌≡◌, refl, sym, ap, subst, ◌∙◌}
use mathlib.Core.List.{List, ◌++◌}
use mathlib.Core.Bool.{false, cond}
use lib.ListN.{length, take}
use lib.Seq.{take_at}
use lib.Dec.{eqb}
use borrow.Author.Tests.{ne_eqb}
use Rattle.vocabulary.specs.Lists.{Every}
use Rattle.vocabulary.specs.Letters.{name_letters, info_letters, song_letters, inst_letters, patt_letters, smpl_letters, venv_letters, penv_letters}
use Rattle.numbers.specs.Numbers.{byte_at, number16, number32, bytes32}
use Rattle.acceptance.specs.Rules.{IsChunk, Covered}
use Rattle.acceptance.proofs.Identifiers.{identifier_of, chunk-named}
use Rattle.format.specs.Description.{Info, Song, Instrument, Pattern, Sample, Envelope, Chunk, NAME, INFO, SONG, INST, PATT, SMPL, VENV, PENV, Other}
use Rattle.format.specs.Encoding.{song_bytes, instrument_bytes, pattern_bytes, sample_bytes, chunk_bytes}
use Rattle.format.specs.WellFormed.{PatternFits, OtherFits}
use Rattle.format.proofs.Delimited.{front_same, next32, all_same, every_any, info-same, song-delimited, song-some}
use Rattle.format.proofs.Delimited.{instrument-delimited, instrument-some, pattern-delimited, pattern-some}
use Rattle.format.proofs.Delimited.{sample-delimited, sample-some, envelopes-same}

pub data ChunkKind : Type 0 where
  named counted songs instruments patterns samples volumes pannings others : ChunkKind

abbrev pub chunk_kind_of : Chunk → ChunkKind
chunk_kind_of (NAME name) = named
chunk_kind_of (INFO info) = counted
chunk_kind_of (SONG list) = songs
chunk_kind_of (INST list) = instruments
chunk_kind_of (PATT list) = patterns
chunk_kind_of (SMPL list) = samples
chunk_kind_of (VENV list) = volumes
chunk_kind_of (PENV list) = pannings
chunk_kind_of (Other letters bytes) = others

-- The content of a chunk of a kind, and the chunk with that content.
abbrev pub Holding : ChunkKind → Type 0
Holding named = List ℕ
Holding counted = Info
Holding songs = List Song
Holding instruments = List Instrument
Holding patterns = List Pattern
Holding samples = List Sample
Holding volumes = List Envelope
Holding pannings = List Envelope
Holding others = List ℕ × List ℕ

abbrev pub holder : (k : ChunkKind) → Holding k → Chunk
holder named name = NAME name
holder counted info = INFO info
holder songs list = SONG list
holder instruments list = INST list
holder patterns list = PATT list
holder samples list = SMPL list
holder volumes list = VENV list
holder pannings list = PENV list
holder others other = Other other.0 other.1

held : (c : Chunk) → (h : Holding (chunk_kind_of c)) × (c ≡ holder (chunk_kind_of c) h)
held (NAME name) = (name, refl)
held (INFO info) = (info, refl)
held (SONG list) = (list, refl)
held (INST list) = (list, refl)
held (PATT list) = (list, refl)
held (SMPL list) = (list, refl)
held (VENV list) = (list, refl)
held (PENV list) = (list, refl)
held (Other letters bytes) = ((letters, bytes), refl)

pub held-as : (c : Chunk) (k : ChunkKind) → chunk_kind_of c ≡ k → (h : Holding k) × (c ≡ holder k h)
held-as c k e = subst (λ (k : ChunkKind). (h : Holding k) × (c ≡ holder k h)) e (held c)

-- The condition under which the encoding of a chunk's content is self-delimiting.
abbrev pub Delimited : ℕ → Chunk → Type 0
Delimited tracks (NAME name) = Unit {0}
Delimited tracks (INFO info) = Unit {0}
Delimited tracks (SONG list) = Every (λ s. length s.name ≡ 44) list
Delimited tracks (INST list) = Every (λ i. length i.name ≡ 30) list
Delimited tracks (PATT list) = Every (PatternFits tracks) list
Delimited tracks (SMPL list) = Unit {0}
Delimited tracks (VENV list) = Every (λ e. length e.points ≡ 32) list
Delimited tracks (PENV list) = Every (λ e. length e.points ≡ 32) list
Delimited tracks (Other letters bytes) = OtherFits letters bytes

-- The kind, from the identifier as one number.
abbrev pub chunk_kind_by : ℕ → ChunkKind
chunk_kind_by n =
    cond (eqb n (identifier_of Covered.name)) named
    (cond (eqb n (identifier_of Covered.info)) counted
    (cond (eqb n (identifier_of Covered.song)) songs
    (cond (eqb n (identifier_of Covered.inst)) instruments
    (cond (eqb n (identifier_of Covered.patt)) patterns
    (cond (eqb n (identifier_of Covered.smpl)) samples
    (cond (eqb n (identifier_of Covered.venv)) volumes
    (cond (eqb n (identifier_of Covered.penv)) pannings others)))))))

pub not-covered : (letters bytes : List ℕ) → OtherFits letters bytes → IsChunk (chunk_bytes (Other letters bytes))
    → {covering : List ℕ} (covers : Covered covering)
    → eqb (number32 (chunk_bytes (Other letters bytes)) 0) (identifier_of covers) ≡ false
not-covered letters bytes fits c {covering} covers =
    let four : take 4 (chunk_bytes (Other letters bytes)) ≡ letters = take_at letters (bytes32 (length bytes) ++ bytes) 4 fits.four in
    ne_eqb _ _ (λ same. fits.not_covered (subst Covered (sym ((chunk-named c covers).0 same) ∙ four) covers))

other-read : (letters bytes : List ℕ) → OtherFits letters bytes → IsChunk (chunk_bytes (Other letters bytes))
    → chunk_kind_by (number32 (chunk_bytes (Other letters bytes)) 0) ≡ others
other-read letters bytes h c =
    simp (
      not-covered letters bytes h c Covered.name,
      not-covered letters bytes h c Covered.info,
      not-covered letters bytes h c Covered.song,
      not-covered letters bytes h c Covered.inst,
      not-covered letters bytes h c Covered.patt,
      not-covered letters bytes h c Covered.smpl,
      not-covered letters bytes h c Covered.venv,
      not-covered letters bytes h c Covered.penv,
    )

kind-read : (c : Chunk) → ((letters bytes : List ℕ) → c ≡ Other letters bytes → OtherFits letters bytes)
    → IsChunk (chunk_bytes c)
    → chunk_kind_by (number32 (chunk_bytes c) 0) ≡ chunk_kind_of c
unfolding number32 number16 byte_at
kind-read (NAME name) other c = refl
kind-read (INFO info) other c = refl
kind-read (SONG list) other c = refl
kind-read (INST list) other c = refl
kind-read (PATT list) other c = refl
kind-read (SMPL list) other c = refl
kind-read (VENV list) other c = refl
kind-read (PENV list) other c = refl
kind-read (Other letters bytes) other c = other-read letters bytes (other letters bytes refl) c

-- A chunk with covered letters is of the kind of these letters.
pub kind-covered : (c : Chunk) → ((letters bytes : List ℕ) → c ≡ Other letters bytes → OtherFits letters bytes)
    → IsChunk (chunk_bytes c) → {letters : List ℕ} (covers : Covered letters) → take 4 (chunk_bytes c) ≡ letters
    → chunk_kind_of c ≡ chunk_kind_by (identifier_of covers)
kind-covered c other whole covers same = sym (kind-read c other whole) ∙ ap chunk_kind_by ((chunk-named whole covers).1 same)

-- A whole chunk with a self-delimiting encoding.
pub record Plain (tracks : ℕ) (c : Chunk) : Type 0 where
  pub delimited : Delimited tracks c
  pub whole : IsChunk (chunk_bytes c)

pub kind-same : {tracks tracks' : ℕ} {c other : Chunk} → Plain tracks c → Plain tracks' other
    → chunk_bytes c ≡ chunk_bytes other
    → chunk_kind_of c ≡ chunk_kind_of other
kind-same {tracks} {tracks'} {c} {other} p q e =
    sym (kind-read c (λ letters bytes is. subst (Delimited tracks) is p.delimited) p.whole)
    ∙ ap (λ (chunk : List ℕ). chunk_kind_by (number32 chunk 0)) e
    ∙ kind-read other (λ letters bytes is. subst (Delimited tracks') is q.delimited) q.whole

-- The parts of a chunk: its identifier, and its data after their length.
pub parts_same : (letters letters' bytes bytes' : List ℕ) → length letters ≡ length letters'
    → letters ++ (bytes32 (length bytes) ++ bytes) ≡ letters' ++ (bytes32 (length bytes') ++ bytes')
    → (letters ≡ letters') × (bytes ≡ bytes')
parts_same letters letters' bytes bytes' h e =
    let first = front_same letters letters' h e in
    (first.0, (next32 (length bytes) (length bytes') first.1).1)

-- Chunks of one kind with the same bytes have the same content.
holding-same : (tracks : ℕ) (k : ChunkKind) (a b : Holding k) → Delimited tracks (holder k a) → Delimited tracks (holder k b)
    → chunk_bytes (holder k a) ≡ chunk_bytes (holder k b)
    → holder k a ≡ holder k b
holding-same tracks named a b p q e = ap NAME (parts_same name_letters name_letters a b refl e).1
holding-same tracks counted a b p q e = ap INFO (info-same a b (parts_same info_letters info_letters _ _ refl e).1)
holding-same tracks songs a b p q e = ap SONG (all_same song_bytes song-delimited song-some a b p q (parts_same song_letters song_letters _ _ refl e).1)
holding-same tracks instruments a b p q e =
    ap INST
    (all_same instrument_bytes instrument-delimited instrument-some a b p q (parts_same inst_letters inst_letters _ _ refl e).1)
holding-same tracks patterns a b p q e =
    ap PATT
    (all_same pattern_bytes (pattern-delimited tracks) (pattern-some tracks) a b p q (parts_same patt_letters patt_letters _ _ refl e).1)
holding-same tracks samples a b p q e =
    ap SMPL
    (all_same sample_bytes sample-delimited sample-some a b (every_any a) (every_any b) (parts_same smpl_letters smpl_letters _ _ refl e).1)
holding-same tracks volumes a b p q e = ap VENV (envelopes-same a b p q (parts_same venv_letters venv_letters _ _ refl e).1)
holding-same tracks pannings a b p q e = ap PENV (envelopes-same a b p q (parts_same penv_letters penv_letters _ _ refl e).1)
holding-same tracks others a b p q e =
    let parts = parts_same a.0 b.0 a.1 b.1 (p.four ∙ sym q.four) e in
    λ i. Other (parts.0 i) (parts.1 i)

pub chunk-same : (tracks : ℕ) (c other : Chunk) → Plain tracks c → Plain tracks other → chunk_bytes c ≡ chunk_bytes other → c ≡ other
chunk-same tracks c other p q e = go (chunk_kind_of other) (held-as c (chunk_kind_of other) (kind-same p q e)) (held other)
  where
    go : (k : ChunkKind) → (a : Holding k) × (c ≡ holder k a) → (b : Holding k) × (other ≡ holder k b) → c ≡ other
    go k (a, x) (b, y) =
        x
        ∙ holding-same tracks k a b (subst (Delimited tracks) x p.delimited) (subst (Delimited tracks) y q.delimited)
        (ap chunk_bytes (sym x) ∙ e ∙ ap chunk_bytes y)
        ∙ sym y
