-- An accepted module and its repacked module: the chunks and blocks of both, and that the rules hold for the repacked module.
use Prim.Native.Nat.{ℕ, ◌+◌, ◌%◌, ◌≤◌, ◌<◌}
use Rattle.std.specs.Prelude.{Ok}
use mathlib.Core.Path.{◌≡◌, refl, sym, ap, subst, ◌∙◌}
use mathlib.Core.List.{List, [], ◌∷◌, ◌++◌, map, append-nil}
use mathlib.Core.Bool.{false, ◌||◌}
use native.Mathlib.Omega.{arith}
use lib.ListN.{length, take, replicate, length-append, length-map}
use lib.Seq.{length-take-le}
use lib.Dec.{eqb}
use Rattle.vocabulary.specs.Lists.{joined, Every, none, also}
use Rattle.vocabulary.specs.Letters.{patt_letters}
use Rattle.vocabulary.proofs.EveryOne.{every_of, every-both, every_first, every_one}
use Rattle.vocabulary.proofs.JoinedLists.{joined-shorter}
use Rattle.vocabulary.proofs.MappedLists.{every_map}
use Rattle.numbers.specs.Numbers.{Bytes, number16, number32, bytes32}
use Rattle.numbers.proofs.AllBytes.{bytes-append, bytes-front, bytes_after, bytes_take, bytes-of-part, bytes-joined, bytes-replicate, bytes32-bytes}
use Rattle.layout.specs.Chunks.{patt_identifier}
use Rattle.layout.specs.declared.Layout.{Layout}
use Rattle.blocks.specs.StoredFields.{packed_bytes}
use Rattle.blocks.specs.Sizes.{size_of, places_from}
use Rattle.blocks.specs.declared.BlockKind.TheVariants.{Pattern}
use Rattle.module.specs.Streams.{pattern_stream_rules, stream_verdict}
use Rattle.module.specs.Verdicts.{opened, verdict_of_outline}
use Rattle.acceptance.specs.Rules.{IsChunk, Among, Covered, ChunkRules, Filled, PatternRules, Rules}
use Rattle.acceptance.proofs.Spans.{LayoutOf}
use Rattle.acceptance.proofs.Locating.{PartAt, part-inside}
use Rattle.acceptance.proofs.Holding.{AllHold}
use Rattle.acceptance.proofs.Cutting.{Sized, part-first, part-rest, places-blocks}
use Rattle.acceptance.proofs.Identifiers.{identifier_of}
use Rattle.acceptance.proofs.Recorded.{every-among}
use Rattle.acceptance.proofs.ChunkHalf.{bytes-split}
use Rattle.acceptance.proofs.ChangedChunks.{Change, among-changed, among-left, left-among, rules-changed, info-left, bytes-changed, alone-length}
use Rattle.acceptance.proofs.ChangedData.{with_data, data-size, data-filled, data-bytes, data-same-but, data-there}
use Rattle.acceptance.proofs.FillingChunks.{BlocksIn, filled-blocks}
use Rattle.acceptance.proofs.BlockStreams.{accepted-says, pattern-sized, pattern-holds}
use Rattle.acceptance.proofs.ContentHalf.{counted}
use Rattle.acceptance.proofs.Acceptance.{rules-open, accepted-exactly}
use Rattle.acceptance.proofs.ChangedModule.{BlocksAfter, info-stays, filled-left, changed-opens}
use Rattle.acceptance.proofs.OpenModules.{Opens, module-opens}
use Rattle.repack.specs.Repacked.{packed, repacked_stream, repacked_block, repacked_patterns, repacked_module}
use Rattle.repack.proofs.Rewritten.{packed-size}
use Rattle.repack.proofs.RewrittenChunks.{rewritten_chunk, patt-change, module-rewritten}
use Rattle.repack_theorems.proofs.PackedBytes.{packed-bytes}
use Rattle.repack_theorems.proofs.RewrittenBlock.{rewritten_block, packed-same, rows-same, blocks-rewritten, SoundBlock, rewritten-sound}
use Rattle.repack_theorems.proofs.RewrittenBlock.{rewritten-shorter}

-- No block is longer than the module that contains it.
blocks-inside : {m : List ℕ} (blocks : List (List ℕ)) {at : ℕ} → PartAt m at (joined blocks) → Every (λ block. length block ≤ length m) blocks
blocks-inside [] p = none
blocks-inside (block ∷ blocks) p =
    also {x = block} (omega (arith, part-inside (part-first block (joined blocks) p)))
    (blocks-inside blocks (part-rest block (joined blocks) p))

-- The rules of a pattern hold for a sound block.
whole_part : (block : List ℕ) → PartAt block 0 block
whole_part block = record { before = []; after = []; bytes = sym (append-nil block); starts = refl }

sound-rules : (tracks : ℕ) (block : List ℕ) → SoundBlock tracks block → PatternRules tracks block
sound-rules tracks block b = pattern-holds (whole_part block) b.sized tracks ((every_one _).1 ((accepted-says _).1 b.accepted))

module _ (m : List ℕ) (bytes : Bytes m) (l : Layout) (o : opened m ≡ Ok l) where
  pub all_of : Rules m
  all_of = (accepted-exactly m bytes).0 (ap verdict_of_outline o)

  pub layout_of : LayoutOf m all_of.header all_of.chunks l
  layout_of =
      let (k, found, layout) = rules-open m bytes all_of in
      let same : k ≡ l = cc (sym found ∙ o) in
      subst (LayoutOf m all_of.header all_of.chunks) same layout

  pub opens : Opens m l
  opens = module-opens m l o

  abbrev pub header : List ℕ
  header = all_of.header

  abbrev pub chunks : List (List ℕ)
  chunks = all_of.chunks

  pub rules : ChunkRules m header chunks
  rules = all_of.chunk_rules

  abbrev pub patt : List ℕ
  patt = all_of.patt

  pub patt_there : Among chunks patt_letters patt
  patt_there = all_of.patt_there

  pub tracks-are : number16 all_of.info 16 ≡ l.tracks
  tracks-are = sym (layout_of.counts all_of.info all_of.info_there).4

  -- The blocks of the patterns, and the rewritten blocks.
  abbrev pub blocks : List (List ℕ)
  blocks = all_of.content.patterns

  abbrev pub rewritten : List (List ℕ)
  rewritten = map (rewritten_block l.tracks) blocks

  pub blocks-in : BlocksIn Pattern m (l.spans.patt.at + 8) 8 patt l.patterns blocks
  blocks-in =
      filled-blocks (layout_of.patt.holds patt patt_there) Pattern 8 l.patterns blocks
      (counted (sym (layout_of.counts all_of.info all_of.info_there).3) all_of.content.patterns_fill)
      (every_of (pattern-sized (number16 all_of.info 16)) all_of.content.pattern_rules)

  sound-block : (at : ℕ) (block : List ℕ) → PartAt m at block → Sized Pattern block
      → AllHold (pattern_stream_rules m l.tracks at)
      → SoundBlock l.tracks block
  sound-block at block p s e =
      let accepted : stream_verdict m l.tracks at ≡ Ok tt = (accepted-says _).0 (every_first e) in
      record { sized = s; accepted = rw (rows-same p s, packed-same p s) at accepted }

  pub sound-blocks : Every (SoundBlock l.tracks) blocks
  sound-blocks =
      places-blocks Pattern sound-block blocks blocks-in.there blocks-in.sized
      (subst (λ (n : ℕ). Every (λ at. AllHold (pattern_stream_rules m l.tracks at)) (places_from (size_of Pattern m) n (l.spans.patt.at + 8)))
      (sym blocks-in.filled.number) opens.content.streams)

  pub sound-rewritten : Every (SoundBlock l.tracks) rewritten
  sound-rewritten = (every_map (rewritten_block l.tracks) blocks).1 (every_of (rewritten-sound l.tracks) sound-blocks)

  pub data_is : repacked_patterns m l ≡ joined rewritten
  data_is =
      ap joined (subst (λ (n : ℕ). map (repacked_block m l.tracks) (places_from (size_of Pattern m) n (l.spans.patt.at + 8)) ≡ rewritten)
      blocks-in.filled.number
      (blocks-rewritten l.tracks (l.spans.patt.at + 8) blocks blocks-in.there blocks-in.sized))

  abbrev pub changed : List ℕ → List ℕ
  changed = rewritten_chunk (repacked_patterns m l)

  change : Change (λ n. eqb n patt_identifier || false) changed
  change = patt-change (repacked_patterns m l)

  pub repacked-bytes : repacked_module m l ≡ header ++ joined (map changed chunks)
  repacked-bytes = module-rewritten rules l

  -- The rewritten data are no longer than before, and so is the module.
  pub data-shorter : length (repacked_patterns m l) ≤ length (joined blocks)
  data-shorter = rw data_is (joined-shorter (rewritten_block l.tracks) (every_of (rewritten-shorter l.tracks) sound-blocks))

  pub patt-bytes : IsChunk patt
  patt-bytes = every-among rules.whole patt_there

  pub patt-size : length patt ≡ 8 + length (joined blocks)
  patt-size =
      ap length all_of.content.patterns_fill.bytes
      ∙ length-append (take 8 patt) (joined blocks)
      ∙ ap (λ (k : ℕ). k + length (joined blocks)) (length-take-le 8 patt all_of.content.patterns_fill.fronts)

  pub patt-changed : changed patt ≡ with_data (repacked_patterns m l) patt
  patt-changed = data-there Covered.patt (repacked_patterns m l) (λ c. c) patt-bytes patt_there.named

  pub repacked-size : length (repacked_module m l) + length (joined blocks) ≡ length m + length (repacked_patterns m l)
  repacked-size =
      let alone = alone-length Covered.patt (data-same-but patt_identifier (repacked_patterns m l) (λ c. c)) rules patt_there in
      omega (arith, ap length repacked-bytes, alone, ap length patt-changed, data-size (repacked_patterns m l) patt patt-bytes, patt-size)

  pub no_longer : length (repacked_module m l) ≤ length m
  no_longer = omega (arith, repacked-size, data-shorter)

  short-enough : length (repacked_module m l) ≤ 16777216
  short-enough = omega (arith, no_longer, rules.limit)

  -- M2 to M9 for the repacked module.
  pub rules-rewritten : ChunkRules (repacked_module m l) header (map changed chunks)
  rules-rewritten = rules-changed rules change repacked-bytes short-enough refl (info-left rules change refl)

  -- A chunk other than PATT is among the chunks of both.
  module _ {letters : List ℕ} (covers : Covered letters) (other : eqb (identifier_of covers) patt_identifier || false ≡ false) {chunk : List ℕ} where
    pub stays-among : Among chunks letters chunk → Among (map changed chunks) letters chunk
    stays-among = among-left change rules.whole covers other

    pub was-among : Among (map changed chunks) letters chunk → Among chunks letters chunk
    was-among = left-among change rules.whole covers other

  pub patt-among : Among (map changed chunks) patt_letters (changed patt)
  patt-among = among-changed change rules.whole patt_there

  -- B1 to B6 and V1 to V7 for the repacked module.
  pub filled-rewritten : Filled 8 (changed patt) (number16 all_of.info 14) rewritten
  filled-rewritten =
      let many : length rewritten ≡ number16 all_of.info 14 = length-map blocks (rewritten_block l.tracks) ∙ all_of.content.patterns_fill.number in
      let is : changed patt ≡ with_data (joined rewritten) patt = patt-changed ∙ ap (λ (content : List ℕ). with_data content patt) data_is in
      subst (λ (chunk : List ℕ). Filled 8 chunk (number16 all_of.info 14) rewritten) (sym is) (counted many (data-filled rewritten patt patt-bytes))

  info-same : changed all_of.info ≡ all_of.info
  info-same = info-stays all_of change refl

  blocks-after : BlocksAfter changed all_of
  blocks-after = record {
    songs = all_of.content.songs;
    instruments = all_of.content.instruments;
    patterns = rewritten;
    samples = all_of.content.samples;
    songs_fill = filled-left all_of change refl Covered.song refl all_of.song_there 12 all_of.content.songs_fill;
    instruments_fill = filled-left all_of change refl Covered.inst refl all_of.inst_there 8 all_of.content.instruments_fill;
    patterns_fill = subst (λ (info : List ℕ). Filled 8 (changed patt) (number16 info 14) rewritten) (sym info-same) filled-rewritten;
    samples_fill = filled-left all_of change refl Covered.smpl refl all_of.smpl_there 10 all_of.content.samples_fill;
    song_rules = rw (length-map blocks (rewritten_block l.tracks)) all_of.content.song_rules;
    instrument_rules = all_of.content.instrument_rules;
    pattern_rules = subst (λ (info : List ℕ). Every (PatternRules (number16 info 16)) rewritten) (sym info-same)
        (rw tracks-are (every_of (sound-rules l.tracks) sound-rewritten));
    sample_rules = all_of.content.sample_rules;
    as_many = refl;
  }

  -- The repacked module consists of bytes.
  pub patt-below : Bytes patt
  patt-below =
      bytes-front patt (joined patt_there.after)
      (bytes_after (header ++ joined patt_there.before) (patt ++ joined patt_there.after) (subst Bytes (bytes-split rules patt_there) bytes))

  pub blocks-bytes : Every Bytes blocks
  blocks-bytes = (bytes-joined blocks).1 (bytes_after (take 8 patt) (joined blocks) (subst Bytes all_of.content.patterns_fill.bytes patt-below))

  small : length m < 0x100000000
  small = omega (arith, rules.limit)

  block-bytes : (block : List ℕ) → (SoundBlock l.tracks block × Bytes block) × (length block ≤ length m) → Bytes (rewritten_block l.tracks block)
  block-bytes block ((sound, below), inside) =
      let stream : List ℕ = repacked_stream block l.tracks 0 in
      let short : length stream < 0x100000000 =
      omega (arith, rewritten-shorter l.tracks block sound, length-append (take 2 block) (packed stream), packed-size stream, inside, small) in
      let below-packed = bytes-of-part block 6 (number32 block 2) below in
      let below-stream = packed-bytes (number16 block 0) l.tracks (packed_bytes block 0) sound.accepted below-packed in
      bytes-append (take 2 block) (packed stream) (bytes_take 2 block below)
      (bytes-append (bytes32 (length stream)) (stream ++ replicate (length stream % 2) 0) (bytes32-bytes (length stream) short)
      (bytes-append stream (replicate (length stream % 2) 0) below-stream (bytes-replicate (length stream % 2))))

  content-bytes : Bytes (repacked_patterns m l)
  content-bytes =
      rw data_is ((bytes-joined rewritten).0 ((every_map (rewritten_block l.tracks) blocks).1
      (every_of block-bytes (every-both (every-both sound-blocks blocks-bytes) (blocks-inside blocks blocks-in.there)))))

  patt-part : PartAt m (length (header ++ joined patt_there.before)) patt
  patt-part = record { before = header ++ joined patt_there.before; after = joined patt_there.after; bytes = bytes-split rules patt_there; starts = refl }

  pub bytes-rewritten : Bytes (repacked_module m l)
  bytes-rewritten =
      let content : List ℕ = repacked_patterns m l in
      let short : length content < 0x100000000 = omega (arith, data-shorter, patt-size, part-inside patt-part, small) in
      let each = data-bytes patt_identifier content (λ c. c) short content-bytes (λ chunk b. b) in
      subst Bytes (sym repacked-bytes) (bytes-changed changed each header chunks (subst Bytes rules.bytes bytes))

  -- The repacked module opens, with a layout of its chunks.
  pub opens-rewritten : (k : Layout) × (opened (repacked_module m l) ≡ Ok k) × LayoutOf (repacked_module m l) header (map changed chunks) k
  opens-rewritten =
      let info = info-left rules change refl all_of.info all_of.info_there in
      changed-opens all_of change (record { name = refl; volume = refl; panning = refl }) blocks-after repacked-bytes short-enough info bytes-rewritten
