-- The repacked module is the module exactly if the stream of every pattern is the packer's and every filler is 0.
use Prim.Native.Nat.{ℕ, suc, ◌+◌, ◌-◌, ◌%◌, ◌≤◌, ◌<◌}
use Rattle.std.specs.Prelude.{Ok}
use mathlib.Core.Path.{◌≡◌, refl, sym, ap, ◌∙◌}
use mathlib.Core.Logic.{◌↔◌}
use mathlib.Core.List.{List, [], ◌∷◌, ◌++◌, map, append_assoc}
use native.Mathlib.Omega.{arith}
use native.Mathlib.Nat.{add_assoc}
use lib.ListN.{length, get_or, take, drop, replicate, length-append, length-drop, length-replicate, take-append-drop}
use lib.Seq.{take_at, drop_at, take_all, length-take-le}
use Rattle.vocabulary.specs.Lists.{joined, Every, none, also}
use Rattle.vocabulary.proofs.EveryOne.{every-at, every_of}
use Rattle.vocabulary.proofs.MappedLists.{map-stays}
use Rattle.vocabulary.proofs.JoinedLists.{joined-shorter}
use Rattle.numbers.specs.Numbers.{Bytes, number32, part_of, bytes32}
use Rattle.numbers.proofs.Parts.{parts-of, four-again}
use Rattle.layout.specs.Chunks.{patt_identifier}
use Rattle.layout.specs.declared.Layout.{Layout}
use Rattle.blocks.specs.StoredFields.{pattern_packed_length, packed_bytes}
use Rattle.blocks.specs.Sizes.{size_of, place_after}
use Rattle.blocks.specs.declared.BlockKind.TheVariants.{Pattern as PatternBlock}
use Rattle.blocks.specs.declared.RecordKind.TheVariants.{Pattern}
use Rattle.module.specs.Verdicts.{opened}
use Rattle.queries.specs.Finding.{found, block_of}
use Rattle.queries.specs.declared.Block.{Block}
use Rattle.queries.proofs.Numbering.{counted-found}
use Rattle.acceptance.specs.Rules.{Covered}
use Rattle.acceptance.proofs.Locating.{PartAt, number32-at, part_length, part-there, part-is, part-of-part}
use Rattle.acceptance.proofs.Cutting.{Sized, sized-least, block-there}
use Rattle.acceptance.proofs.ChangedChunks.{split-alone}
use Rattle.acceptance.proofs.ChangedData.{with_data, data-same-but}
use Rattle.repack.specs.Repacked.{packed, repacked_stream, repacked_patterns, repacked_module}
use Rattle.repack.proofs.Accepting.{patterns-in, module-replaced}
use Rattle.query_theorems.proofs.FoundBlocks.{found-numbered}
use Rattle.repack_theorems.specs.Packed.{filler_of, PackedAt}
use Rattle.repack_theorems.proofs.RewrittenBlock.{rewritten_block, packed-same, rows-same, SoundBlock, rewritten-length, rewritten-stream}
use Rattle.repack_theorems.proofs.RewrittenBlock.{filler-part, rewritten-shorter}
use Rattle.repack_theorems.proofs.RewrittenModule.{header, patt, patt_there, all_of, blocks, blocks-in, blocks-bytes, sound-blocks}
use Rattle.repack_theorems.proofs.RewrittenModule.{rules, data_is, patt-bytes, patt-changed, patt-below, patt-size, repacked-size}
use Rattle.repack_theorems.proofs.RewrittenModule.{repacked-bytes}

-- A pattern in the module and in its block.
module _ {m block : List ℕ} {at : ℕ} (tracks : ℕ) (p : PartAt m at block) (s : Sized PatternBlock block) where
  least : 6 ≤ length block
  least = sized-least PatternBlock block s

  length-same : pattern_packed_length m at ≡ number32 block 2
  length-same = number32-at p 2 (omega (arith, least))

  stream-same : repacked_stream m tracks at ≡ repacked_stream block tracks 0
  stream-same = rw (rows-same p s, packed-same p s) refl

  filler-same : filler_of m at ≡ filler_of block 0
  unfolding size_of
  filler-same =
      let k : ℕ = number32 block 2 in
      let fits : 6 + k + k % 2 ≤ length block = omega (arith, s) in
      let part = part-of-part p (part-there block (6 + k) (k % 2) fits) in
      let size : length (part_of block (6 + k) (k % 2)) ≡ k % 2 = part_length block (6 + k) (k % 2) fits in
      ap (λ (n : ℕ). part_of m (at + 6 + n) (n % 2)) length-same
      ∙ ap (λ (to : ℕ). part_of m to (k % 2)) (add_assoc at 6 k)
      ∙ ap (part_of m (at + (6 + k))) (sym size)
      ∙ part-is part

  pub packed-in-block : PackedAt m tracks at ↔ PackedAt block tracks 0
  packed-in-block = (
    λ h.
        record {
          stream = sym (packed-same p s) ∙ h.stream ∙ stream-same;
          filler = sym filler-same ∙ h.filler ∙ ap (λ (n : ℕ). replicate (n % 2) 0) length-same;
        },
    λ h.
        record {
          stream = packed-same p s ∙ h.stream ∙ sym stream-same;
          filler = filler-same ∙ h.filler ∙ ap (λ (n : ℕ). replicate (n % 2) 0) (sym length-same);
        },
  )

-- A block is its rewritten block exactly if its stream is the packer's and its filler is 0.
module _ (tracks : ℕ) (block : List ℕ) (b : SoundBlock tracks block) (below : Bytes block) where
  k : ℕ
  k = number32 block 2

  size : length block ≡ 6 + number32 block 2 + number32 block 2 % 2
  unfolding size_of
  size = b.sized

  block-parts : block ≡ take 2 block ++ (part_of block 2 4 ++ (part_of block 6 (number32 block 2) ++ filler_of block 0))
  block-parts =
      let last : drop (6 + number32 block 2) block ≡ filler_of block 0 =
      sym (take_all (number32 block 2 % 2) (drop (6 + number32 block 2) block) (omega (arith, length-drop (6 + number32 block 2) block, size))) in
      sym (take-append-drop 2 block)
      ∙ ap (λ (rest : List ℕ). take 2 block ++ rest)
      (parts-of block 2 4
      ∙ ap (λ (rest : List ℕ). part_of block 2 4 ++ rest)
      (parts-of block 6 (number32 block 2) ∙ ap (λ (rest : List ℕ). part_of block 6 (number32 block 2) ++ rest) last))

  packed-stays : PackedAt block tracks 0 → rewritten_block tracks block ≡ block
  packed-stays h =
      let stream : List ℕ = repacked_stream block tracks 0 in
      let long : length stream ≡ number32 block 2 = ap length (sym h.stream) ∙ part_length block 6 (number32 block 2) (omega (arith, size)) in
      let parts : packed stream ≡ part_of block 2 4 ++ (part_of block 6 (number32 block 2) ++ filler_of block 0) =
      ap (λ (n : ℕ). bytes32 n ++ (stream ++ replicate (n % 2) 0)) long
      ∙ ap (λ (four : List ℕ). four ++ (stream ++ replicate (number32 block 2 % 2) 0)) (four-again block below 2 (omega (arith, size)))
      ∙ ap (λ (rest : List ℕ). part_of block 2 4 ++ (rest ++ replicate (number32 block 2 % 2) 0)) (sym h.stream)
      ∙ ap (λ (rest : List ℕ). part_of block 2 4 ++ (part_of block 6 (number32 block 2) ++ rest)) (sym h.filler) in
      ap (λ (rest : List ℕ). take 2 block ++ rest) parts ∙ sym block-parts

  stays-packed : rewritten_block tracks block ≡ block → PackedAt block tracks 0
  stays-packed e =
      let stream : List ℕ = repacked_stream block tracks 0 in
      let long : number32 block 2 ≡ length stream = ap (λ (list : List ℕ). number32 list 2) (sym e) ∙ rewritten-length tracks block b in
      let one : length (replicate {A = ℕ} (length stream % 2) 0) ≡ length stream % 2 = length-replicate {A = ℕ} (length stream % 2) 0 in
      record {
        stream = ap (λ (list : List ℕ). packed_bytes list 0) (sym e) ∙ rewritten-stream tracks block b;
        filler =
            ap (λ (n : ℕ). part_of block (6 + n) (n % 2)) long
            ∙ ap (λ (list : List ℕ). part_of list (6 + length stream) (length stream % 2)) (sym e)
            ∙ ap (part_of (rewritten_block tracks block) (6 + length stream)) (sym one)
            ∙ part-is (filler-part tracks block b)
            ∙ ap (λ (n : ℕ). replicate {A = ℕ} (n % 2) 0) (sym long);
      }

-- If no block becomes longer and the joined blocks are unchanged, each block is unchanged.
each_same : (g : List ℕ → List ℕ) {list : List (List ℕ)} → Every (λ block. length (g block) ≤ length block) list
    → joined (map g list) ≡ joined list
    → Every (λ block. g block ≡ block) list
each_same g none e = none
each_same g (also {x = block} {xs = list} h hs) e =
    let long : length (g block) ≡ length block =
    omega (arith, ap length e, length-append (g block) (joined (map g list)), length-append block (joined list), joined-shorter g hs, h) in
    let front : g block ≡ block =
    sym (take_at (g block) (joined (map g list)) (length block) long)
    ∙ ap (take (length block)) e
    ∙ take_at block (joined list) (length block) refl in
    let rest : joined (map g list) ≡ joined list =
    sym (drop_at (g block) (joined (map g list)) (length block) long)
    ∙ ap (drop (length block)) e
    ∙ drop_at block (joined list) (length block) refl in
    also front (each_same g hs rest)

every-index : {P : List ℕ → Type 0} (list : List (List ℕ)) → ((i : ℕ) → i < length list → P (get_or list i [])) → Every P list
every-index [] h = none
every-index (block ∷ list) h = also (h 0 (omega arith)) (every-index list (λ i l. h (suc i) (omega arith)))

module _ (m : List ℕ) (bytes : Bytes m) (l : Layout) (o : opened m ≡ Ok l) where
  -- Every pattern of the module is stored as the packer writes it.
  abbrev pub AllPacked : Type 0
  AllPacked = (pattern : ℕ) (b : Block) → found m Pattern pattern ≡ Ok b → PackedAt m b.tracks b.at

  -- The block of the pattern with a number.
  module _ (i : ℕ) (h : i < length (blocks m bytes l o)) where
    abbrev block : List ℕ
    block = get_or (blocks m bytes l o) i []

    there : PartAt m (place_after (size_of PatternBlock m) i (l.spans.patt.at + 8)) block
    there = block-there PatternBlock (blocks m bytes l o) i h (blocks-in m bytes l o).there (blocks-in m bytes l o).sized

    sound : SoundBlock l.tracks block
    sound = every-at i [] h (sound-blocks m bytes l o)

    below : Bytes block
    below = every-at i [] h (blocks-bytes m bytes l o)

    counted-there : found m Pattern i ≡ Ok (block_of m l Pattern i)
    counted-there = counted-found m l Pattern i o (omega arith) (omega (arith, (blocks-in m bytes l o).filled.number))

    packed-block : AllPacked → rewritten_block l.tracks block ≡ block
    packed-block all =
        let same : i - 0 ≡ i = omega arith in
        let at : PackedAt m l.tracks (place_after (size_of PatternBlock m) i (l.spans.patt.at + 8)) =
        rw same at (all i (block_of m l Pattern i) counted-there) in
        packed-stays l.tracks block sound below ((packed-in-block l.tracks there sound.sized).0 at)

  -- The rewritten data of PATT are the blocks, if each block is unchanged.
  data-same : Every (λ block. rewritten_block l.tracks block ≡ block) (blocks m bytes l o) → repacked_patterns m l ≡ joined (blocks m bytes l o)
  data-same e = data_is m bytes l o ∙ ap joined (map-stays (rewritten_block l.tracks) e)

  patt-same : repacked_patterns m l ≡ joined (blocks m bytes l o) → with_data (repacked_patterns m l) (patt m bytes l o) ≡ patt m bytes l o
  patt-same e =
      let chunk : List ℕ = patt m bytes l o in
      let size = patt-size m bytes l o in
      let following : drop 8 chunk ≡ joined (blocks m bytes l o) = data-after in
      let number : length (repacked_patterns m l) ≡ number32 chunk 4 = omega (arith, ap length e, size, (patt-bytes m bytes l o).size) in
      let four : bytes32 (length (repacked_patterns m l)) ≡ part_of chunk 4 4 =
      ap bytes32 number ∙ four-again chunk (patt-below m bytes l o) 4 (omega (arith, size)) in
      ap (λ (content : List ℕ). take 4 chunk ++ (bytes32 (length (repacked_patterns m l)) ++ content)) (e ∙ sym following)
      ∙ ap (λ (bytes : List ℕ). take 4 chunk ++ (bytes ++ drop 8 chunk)) four
      ∙ ap (λ (rest : List ℕ). take 4 chunk ++ rest) (sym (parts-of chunk 4 4))
      ∙ take-append-drop 4 chunk
    where
      data-after : drop 8 (patt m bytes l o) ≡ joined (blocks m bytes l o)
      data-after =
          let filled = (all_of m bytes l o).content.patterns_fill in
          ap (drop 8) filled.bytes
          ∙ drop_at (take 8 (patt m bytes l o)) (joined (blocks m bytes l o)) 8 (length-take-le 8 (patt m bytes l o) filled.fronts)

  module-same : repacked_patterns m l ≡ joined (blocks m bytes l o) → repacked_module m l ≡ m
  module-same e =
      let a = patt_there m bytes l o in
      repacked-bytes m bytes l o
      ∙ ap (λ (list : List (List ℕ)). header m bytes l o ++ joined list)
      (split-alone Covered.patt (data-same-but patt_identifier (repacked_patterns m l) (λ c. c)) (rules m bytes l o) a
      ∙ ap (λ (chunk : List ℕ). a.before ++ (chunk ∷ a.after)) (patt-changed m bytes l o ∙ patt-same e)
      ∙ sym a.splits)
      ∙ sym (rules m bytes l o).bytes

  -- If the repacked module is the module, PATT's data are unchanged.
  same-data : repacked_module m l ≡ m → repacked_patterns m l ≡ joined (blocks m bytes l o)
  same-data e =
      let at : ℕ = l.spans.patt.at in
      let content : List ℕ = repacked_patterns m l in
      let following : List ℕ = drop (at + 8 + l.spans.patt.length) m in
      let inside : at + 8 + l.spans.patt.length ≤ length m = (patterns-in m bytes l o).inside in
      let front : List ℕ = take (at + 4) m ++ bytes32 (length content) in
      let eight : length front ≡ at + 8 =
      omega (arith, length-append (take (at + 4) m) (bytes32 (length content)), length-take-le (at + 4) m (omega (arith, inside))) in
      let long : length content ≡ length (joined (blocks m bytes l o)) = omega (arith, repacked-size m bytes l o, ap length e) in
      let is : front ++ (content ++ following) ≡ m =
      append_assoc (take (at + 4) m) (bytes32 (length content)) (content ++ following) ∙ sym (module-replaced m bytes l o) ∙ e in
      let here : part_of m (at + 8) (length content) ≡ content =
      ap (λ (list : List ℕ). part_of list (at + 8) (length content)) (sym is)
      ∙ ap (take (length content)) (drop_at front (content ++ following) (at + 8) eight)
      ∙ take_at content following (length content) refl in
      sym here ∙ ap (part_of m (at + 8)) long ∙ part-is (blocks-in m bytes l o).there

  same-packed : repacked_module m l ≡ m → AllPacked
  same-packed e pattern b f =
      let list : List (List ℕ) = blocks m bytes l o in
      let each = each_same (rewritten_block l.tracks) (every_of (rewritten-shorter l.tracks) (sound-blocks m bytes l o))
      (sym (data_is m bytes l o) ∙ same-data e) in
      let s = found-numbered m Pattern pattern b l o f in
      let h : pattern - 0 < length list = omega (arith, s.counted, (blocks-in m bytes l o).filled.number) in
      rw s.block ((packed-in-block l.tracks (there (pattern - 0) h) (sound (pattern - 0) h).sized).1
      (stays-packed l.tracks (block (pattern - 0) h) (sound (pattern - 0) h) (below (pattern - 0) h) (every-at (pattern - 0) [] h each)))

  pub same-exactly : (repacked_module m l ≡ m) ↔ AllPacked
  same-exactly = (same-packed, λ all. module-same (data-same (every-index (blocks m bytes l o) (λ i h. packed-block i h all))))
