-- An accepted module and its repacked module are alike: their headers and INFO are the same bytes, and so is every chunk except PATT. Each
-- pattern has the same rows and the same cells.
use Prim.Native.Nat.{ℕ, ◌+◌, ◌-◌, ◌<◌}
use Rattle.std.specs.Prelude.{Ok, Err}
use mathlib.Core.Path.{◌≡◌, refl, sym, ap, ◌∙◌}
use mathlib.Core.List.{List, [], map}
use mathlib.Core.Bool.{Bool, true, false, cond, ◌&&◌, ◌||◌}
use native.Mathlib.Omega.{arith}
use lib.ListN.{length, get_or, take, drop, replicate, length-drop, length-map, take-append-drop}
use lib.Dec.{eqb, leb, ltb}
use lib.Seq.{length-take-le}
use Rattle.vocabulary.specs.Lists.{Every}
use Rattle.vocabulary.specs.Letters.{name_letters, info_letters, venv_letters, penv_letters}
use Rattle.vocabulary.proofs.EveryOne.{every_of, every-at}
use Rattle.refusal.specs.Numbers.{refusal}
use Rattle.refusal.specs.declared.Reason.TheVariants.{NotThere}
use Rattle.numbers.specs.Numbers.{Bytes, number16, part_of, bytes_from}
use Rattle.numbers.proofs.Parts.{bytes-part}
use Rattle.packed_rows.proofs.Shapes.{get_or-mapped}
use Rattle.layout.specs.Chunks.{patt_identifier}
use Rattle.layout.specs.declared.ChunkSpan.{ChunkSpan}
use Rattle.layout.specs.declared.Layout.{Layout}
use Rattle.blocks.specs.Sizes.{size_of, place_after, block_at, envelope_count}
use Rattle.blocks.specs.declared.BlockKind.{BlockKind}
use Rattle.blocks.specs.declared.BlockKind.TheVariants.{Song as SongBlock, Instrument as InstrumentBlock, Pattern as PatternBlock}
use Rattle.blocks.specs.declared.BlockKind.TheVariants.{Sample as SampleBlock, Envelope as EnvelopeBlock}
use Rattle.blocks.specs.RecordKinds.{block_kind_of, chunk_of, count_of}
use Rattle.blocks.specs.declared.RecordKind.{RecordKind}
use Rattle.blocks.specs.declared.RecordKind.TheVariants.{Song, Instrument, Pattern, Sample, VolumeEnvelope, PanningEnvelope}
use Rattle.module.specs.Verdicts.{opened}
use Rattle.queries.specs.Finding.{first_of, there, block_of, found_in, found_if, found}
use Rattle.acceptance.specs.Rules.{Among, EnvelopesRules, Filled, Covered}
use Rattle.acceptance.proofs.Spans.{SpanHolds, Found as FoundSpan, LayoutOf}
use Rattle.acceptance.proofs.Locating.{PartAt, part-inside, part-is}
use Rattle.acceptance.proofs.Holding.{and-says, ltb-says, false-never}
use Rattle.acceptance.proofs.Cutting.{Sized, part-rest, block-there}
use Rattle.acceptance.proofs.Identifiers.{identifier_of}
use Rattle.acceptance.proofs.ChunkHalf.{span-part}
use Rattle.acceptance.proofs.FillingChunks.{BlocksIn, filled-blocks}
use Rattle.acceptance.proofs.BlockFields.{song-sized, instrument-sized, sample-sized, envelope-sized}
use Rattle.acceptance.proofs.ContentHalf.{counted, count_same}
use Rattle.repack.specs.Repacked.{repacked_module}
use Rattle.summary.specs.Shown.{name_of}
use Rattle.showing_theorems.proofs.Alike.{SameBlock, SamePattern, SameRecord, FoundAlike, neither, both, Alike}
use Rattle.repack_theorems.proofs.RewrittenBlock.{rewritten_block, packed-same, rows-same, SoundBlock, rewritten-sound, rewritten-rows, rewritten-cells}
use Rattle.repack_theorems.proofs.RewrittenModule.{all_of, layout_of, header, chunks, patt, blocks, rewritten, blocks-in, sound-blocks}
use Rattle.repack_theorems.proofs.RewrittenModule.{sound-rewritten, changed, rules, stays-among, was-among, patt-among, filled-rewritten}
use Rattle.repack_theorems.proofs.RewrittenModule.{opens-rewritten}

-- The same blocks in two modules.
same_block : {kind : BlockKind} {m n : List ℕ} {start from front other : ℕ} {chunk chunk' : List ℕ} {count count' : ℕ} {list : List (List ℕ)}
    → BlocksIn kind m start front chunk count list → BlocksIn kind n from other chunk' count' list → (i : ℕ) → i < count
    → SameBlock kind m n (place_after (size_of kind m) i start) (place_after (size_of kind n) i from)
same_block {kind} {list = list} b c i h =
    let inside : i < length list = omega (arith, b.filled.number) in
    record {
      block = get_or list i [];
      sized = every-at i [] inside b.sized;
      here = block-there kind list i inside b.there b.sized;
      there = block-there kind list i inside c.there c.sized;
    }

-- A pattern's block in one module, and its rewritten block in another.
same-pattern : {m n : List ℕ} {at to : ℕ} (tracks : ℕ) (block : List ℕ) → SoundBlock tracks block → PartAt m at block
    → PartAt n to (rewritten_block tracks block)
    → SamePattern tracks m n at to
same-pattern {m} {n} {at} {to} tracks block b p q =
    let c = rewritten-sound tracks block b in
    record {
      rows = rows-same q c.sized ∙ rewritten-rows tracks block b ∙ sym (rows-same p b.sized);
      here = rw (rows-same p b.sized, packed-same p b.sized) b.accepted;
      there = rw (rows-same q c.sized, packed-same q c.sized) c.accepted;
      cells = rw (rows-same p b.sized, packed-same p b.sized, rows-same q c.sized, packed-same q c.sized) (rewritten-cells tracks block b);
    }

-- The name that is shown, depending on whether NAME is present.
name-missing : (m : List ℕ) (l : Layout) → l.spans.name.present ≡ false → name_of m l ≡ replicate 44 0
name-missing m l e = ap (λ (there : Bool). cond there (bytes_from m (l.spans.name.at + 8) 44) (replicate 44 0)) e

name-there : (m : List ℕ) (l : Layout) → l.spans.name.present ≡ true → name_of m l ≡ bytes_from m (l.spans.name.at + 8) 44
name-there m l e = ap (λ (there : Bool). cond there (bytes_from m (l.spans.name.at + 8) 44) (replicate 44 0)) e

-- What a query finds in a module that opens.
found-opened : (m : List ℕ) (l : Layout) (kind : RecordKind) (number : ℕ) → opened m ≡ Ok l → found m kind number ≡ found_in m l kind number
found-opened m l kind number o = ap (found_if m kind number) o

-- A chunk that is in both modules, or in neither.
data SameChunk (m n : List ℕ) (chunks : List (List ℕ)) (letters : List ℕ) (p q : ChunkSpan) : Type 0 where
  missing : p.present ≡ false → q.present ≡ false → SameChunk m n chunks letters p q
  held : (chunk : List ℕ) → Among chunks letters chunk → SpanHolds m p chunk → SpanHolds n q chunk → SameChunk m n chunks letters p q

module _ (m : List ℕ) (bytes : Bytes m) (l : Layout) (o : opened m ≡ Ok l) where
  abbrev pub n : List ℕ
  n = repacked_module m l

  abbrev pub k : Layout
  k = (opens-rewritten m bytes l o).0

  pub other_opens : opened n ≡ Ok k
  other_opens = (opens-rewritten m bytes l o).1

  first : LayoutOf m (header m bytes l o) (chunks m bytes l o) l
  first = layout_of m bytes l o

  second : LayoutOf n (header m bytes l o) (map (changed m bytes l o) (chunks m bytes l o)) k
  second = (opens-rewritten m bytes l o).2

  -- INFO's numbers are the same.
  pub counts : (k.instruments ≡ l.instruments) × (k.samples ≡ l.samples) × (k.songs ≡ l.songs) × (k.patterns ≡ l.patterns) × (k.tracks ≡ l.tracks)
  counts =
      let a = (all_of m bytes l o).info_there in
      let here = first.counts (all_of m bytes l o).info a in
      let there = second.counts (all_of m bytes l o).info (stays-among m bytes l o Covered.info refl a) in
      (there.0 ∙ sym here.0, there.1 ∙ sym here.1, there.2 ∙ sym here.2, there.3 ∙ sym here.3, there.4 ∙ sym here.4)

  -- A chunk other than PATT.
  same-chunk : {letters : List ℕ} → (covers : Covered letters) → eqb (identifier_of covers) patt_identifier || false ≡ false
      → (p q : ChunkSpan) → FoundSpan m (chunks m bytes l o) letters p
      → FoundSpan n (map (changed m bytes l o) (chunks m bytes l o)) letters q
      → SameChunk m n (chunks m bytes l o) letters p q
  same-chunk {letters} covers other p q f g = go p.present refl q.present refl
    where
      go : (b : Bool) → p.present ≡ b → (c : Bool) → q.present ≡ c → SameChunk m n (chunks m bytes l o) letters p q
      go true e c d = let (chunk, a) = f.chunk e in held chunk a (f.holds chunk a) (g.holds chunk (stays-among m bytes l o covers other a))
      go false e true d = let (chunk, a) = g.chunk d in false-never (sym e ∙ (f.holds chunk (was-among m bytes l o covers other a)).there)
      go false e false d = missing e d

  -- The bytes of NAME.
  name-bytes : {m chunk : List ℕ} {p : ChunkSpan} → SpanHolds m p chunk → length chunk ≡ 52 → bytes_from m (p.at + 8) 44 ≡ drop 8 chunk
  name-bytes {m} {chunk} {p} s long =
      let eight : length (take 8 chunk) ≡ 8 = length-take-le 8 chunk (omega arith) in
      let rest : PartAt m (p.at + 8) (drop 8 chunk) =
      rw eight
      at (part-rest {m = m} {at = p.at} (take 8 chunk) (drop 8 chunk) (rw (take-append-drop 8 chunk) (span-part s))) in
      let size : length (drop 8 chunk) ≡ 44 = omega (arith, length-drop 8 chunk) in
      bytes-part m 44 (p.at + 8) (omega (arith, part-inside rest, size)) ∙ ap (part_of m (p.at + 8)) (sym size) ∙ part-is rest

  same_name : name_of n k ≡ name_of m l
  same_name = go (same-chunk Covered.name refl l.spans.name k.spans.name first.name second.name)
    where
      go : SameChunk m n (chunks m bytes l o) name_letters l.spans.name k.spans.name → name_of n k ≡ name_of m l
      go (missing e d) = name-missing n k d ∙ sym (name-missing m l e)
      go (held chunk a s t) =
          let long = (rules m bytes l o).name chunk a in
          name-there n k t.there ∙ name-bytes t long ∙ sym (name-there m l s.there ∙ name-bytes s long)

  -- The envelopes of a chunk.
  module _ {letters : List ℕ} (p q : ChunkSpan) {instruments : ℕ} {ValueFits : ℕ → Type 0}
      (rule : (chunk : List ℕ) → Among (chunks m bytes l o) letters chunk → EnvelopesRules instruments ValueFits chunk) where
    same_count : SameChunk m n (chunks m bytes l o) letters p q → envelope_count n q ≡ envelope_count m p
    same_count (missing e d) = rw (e, d) refl
    same_count (held chunk a s t) = let long = (rule chunk a).filled.fronts in count_same t long ∙ sym (count_same s long)

    same-envelope : SameChunk m n (chunks m bytes l o) letters p q → (i : ℕ) → i < envelope_count m p
        → SameBlock EnvelopeBlock m n (block_at m EnvelopeBlock p i) (block_at n EnvelopeBlock q i)
    same-envelope (missing e d) i h = absurd (omega (arith, rw e at h))
    same-envelope (held chunk a s t) i h =
        let r = rule chunk a in
        let sized = every_of (envelope-sized instruments ValueFits) r.rules in
        let here = filled-blocks s EnvelopeBlock 10 (number16 chunk 8) r.envelopes r.filled sized in
        let there = filled-blocks t EnvelopeBlock 10 (number16 chunk 8) r.envelopes r.filled sized in
        same_block here there i (rw (count_same s r.filled.fronts) at h)

  volume : SameChunk m n (chunks m bytes l o) venv_letters l.spans.venv k.spans.venv
  volume = same-chunk Covered.venv refl l.spans.venv k.spans.venv first.venv second.venv

  panning : SameChunk m n (chunks m bytes l o) penv_letters l.spans.penv k.spans.penv
  panning = same-chunk Covered.penv refl l.spans.penv k.spans.penv first.penv second.penv

  -- INFO is among the chunks.
  info-there : Among (chunks m bytes l o) info_letters (all_of m bytes l o).info
  info-there = (all_of m bytes l o).info_there

  -- The blocks of a chunk that is in both.
  same_blocks : (kind : BlockKind) (front : ℕ) {letters : List ℕ} → (covers : Covered letters)
      → eqb (identifier_of covers) patt_identifier || false ≡ false → (p q : ChunkSpan) → FoundSpan m (chunks m bytes l o) letters p
      → FoundSpan n (map (changed m bytes l o) (chunks m bytes l o)) letters q → {chunk : List ℕ}
      → Among (chunks m bytes l o) letters chunk → {number count others : ℕ} → count ≡ number → others ≡ number
      → (list : List (List ℕ)) → Filled front chunk number list → Every (Sized kind) list → (i : ℕ) → i < count
      → SameBlock kind m n (place_after (size_of kind m) i (p.at + front)) (place_after (size_of kind n) i (q.at + front))
  same_blocks kind front covers other p q f g {chunk} a {number} {count} {others} e d list filled sized i h =
      same_block
      (filled-blocks (f.holds chunk a) kind front count list (counted (sym e) filled) sized)
      (filled-blocks (g.holds chunk (stays-among m bytes l o covers other a)) kind front others list (counted (sym d) filled) sized) i h

  pub patterns-there : BlocksIn PatternBlock n (k.spans.patt.at + 8) 8 (changed m bytes l o (patt m bytes l o)) k.patterns (rewritten m bytes l o)
  patterns-there =
      let info-stays = stays-among m bytes l o Covered.info refl (all_of m bytes l o).info_there in
      let filled = counted (sym (second.counts (all_of m bytes l o).info info-stays).3) (filled-rewritten m bytes l o) in
      filled-blocks (second.patt.holds (changed m bytes l o (patt m bytes l o)) (patt-among m bytes l o)) PatternBlock 8
      k.patterns (rewritten m bytes l o) filled (every_of (λ block b. b.sized) (sound-rewritten m bytes l o))

  -- The number of records of each kind is the same in both.
  same-count_of : (kind : RecordKind) → count_of n k kind ≡ count_of m l kind
  same-count_of Song = counts.2
  same-count_of Instrument = counts.0
  same-count_of Pattern = counts.3
  same-count_of Sample = counts.1
  same-count_of VolumeEnvelope = same_count l.spans.venv k.spans.venv (all_of m bytes l o).content.volume_envelopes volume
  same-count_of PanningEnvelope = same_count l.spans.penv k.spans.penv (all_of m bytes l o).content.panning_envelopes panning

  -- The block of a record in both.
  same-record : (kind : RecordKind) (i : ℕ) → i < count_of m l kind
      → SameRecord kind l.tracks m n (block_at m (block_kind_of kind) (chunk_of l kind) i) (block_at n (block_kind_of kind) (chunk_of k kind) i)
  same-record Song i h =
      same_blocks SongBlock 8 Covered.song refl l.spans.song k.spans.song first.song second.song
      (all_of m bytes l o).song_there (first.counts _ info-there).2
      (second.counts _ (stays-among m bytes l o Covered.info refl info-there)).2 (all_of m bytes l o).content.songs
      (all_of m bytes l o).content.songs_fill
      (every_of (song-sized (length (blocks m bytes l o))) (all_of m bytes l o).content.song_rules) i h
  same-record Instrument i h =
      same_blocks InstrumentBlock 8 Covered.inst refl l.spans.inst k.spans.inst first.inst second.inst
      (all_of m bytes l o).inst_there (first.counts _ info-there).0
      (second.counts _ (stays-among m bytes l o Covered.info refl info-there)).0 (all_of m bytes l o).content.instruments
      (all_of m bytes l o).content.instruments_fill
      (every_of (instrument-sized (all_of m bytes l o).content.samples) (all_of m bytes l o).content.instrument_rules) i h
  same-record Pattern i h =
      let list : List (List ℕ) = blocks m bytes l o in
      let inside : i < length list = omega (arith, (blocks-in m bytes l o).filled.number) in
      let block : List ℕ = get_or list i [] in
      let here = block-there PatternBlock list i inside (blocks-in m bytes l o).there (blocks-in m bytes l o).sized in
      let size : length (rewritten m bytes l o) ≡ length list = length-map list (rewritten_block l.tracks) in
      let there = block-there PatternBlock (rewritten m bytes l o) i (omega (arith, size)) patterns-there.there patterns-there.sized in
      let same : get_or (rewritten m bytes l o) i [] ≡ rewritten_block l.tracks block = get_or-mapped (rewritten_block l.tracks) list i [] [] inside in
      same-pattern l.tracks block (every-at i [] inside (sound-blocks m bytes l o)) here (rw same at there)
  same-record Sample i h =
      same_blocks SampleBlock 8 Covered.smpl refl l.spans.smpl k.spans.smpl first.smpl second.smpl
      (all_of m bytes l o).smpl_there (first.counts _ info-there).1
      (second.counts _ (stays-among m bytes l o Covered.info refl info-there)).1 (all_of m bytes l o).content.samples
      (all_of m bytes l o).content.samples_fill (every_of sample-sized (all_of m bytes l o).content.sample_rules) i h
  same-record VolumeEnvelope i h = same-envelope l.spans.venv k.spans.venv (all_of m bytes l o).content.volume_envelopes volume i h
  same-record PanningEnvelope i h = same-envelope l.spans.penv k.spans.penv (all_of m bytes l o).content.panning_envelopes panning i h

  found_alike : (kind : RecordKind) (number : ℕ) → FoundAlike kind m n (found m kind number) (found n kind number)
  found_alike kind number =
      rw (found-opened m l kind number o, found-opened n k kind number other_opens, same-count_of kind)
      (go (leb (first_of kind) number && ltb (number - first_of kind) (count_of m l kind)) refl)
    where
      go : (t : Bool) → there m l kind number ≡ t
          → FoundAlike kind m n (cond t (Ok (block_of m l kind number)) (Err (refusal NotThere 0)))
          (cond t (Ok (block_of n k kind number)) (Err (refusal NotThere 0)))
      go true e =
          both (block_of m l kind number) (block_of n k kind number) (second.version ∙ sym first.version) counts.4
          (same-record kind (number - first_of kind)
          ((ltb-says (number - first_of kind) (count_of m l kind)).0
          ((and-says (leb (first_of kind) number) (ltb (number - first_of kind) (count_of m l kind))).0 e).1))
      go false e = neither (refusal NotThere 0)

  pub repacked-alike : Alike m n
  repacked-alike = record {
    layout = l;
    other = k;
    opens = o;
    other_opens = other_opens;
    version = second.version ∙ sym first.version;
    revision = second.revision ∙ sym first.revision;
    instruments = counts.0;
    samples = counts.1;
    songs = counts.2;
    patterns = counts.3;
    tracks = counts.4;
    name = same_name;
    volume_envelopes = same-count_of VolumeEnvelope;
    panning_envelopes = same-count_of PanningEnvelope;
    found = found_alike;
  }
