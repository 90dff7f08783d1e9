-- A pattern's block and its rewritten block, as lists of bytes. The rewritten block has the same number of rows, its stream is the
-- packer's, it has the same rows of cells, it is no longer, and rewriting it again leaves it unchanged.
use Prim.Native.Nat.{ℕ, ◌+◌, ◌%◌, ◌≤◌}
use Rattle.std.specs.Prelude.{Ok}
use mathlib.Core.Path.{◌≡◌, sym, ap, ◌∙◌}
use mathlib.Core.List.{List, [], ◌++◌, map, append_assoc, append-nil}
use native.Mathlib.Omega.{arith}
use lib.ListN.{length, take, replicate, length-append}
use lib.Seq.{take_at, length-take-le}
use Rattle.vocabulary.specs.Lists.{joined, Every}
use Rattle.vocabulary.proofs.MappedLists.{map-itself}
use Rattle.numbers.specs.Numbers.{number16, number32, part_of, bytes32}
use Rattle.packed_rows.specs.Packer.{packed_stream}
use Rattle.blocks.specs.StoredFields.{packed_bytes}
use Rattle.blocks.specs.Sizes.{size_of, places_from}
use Rattle.blocks.specs.declared.BlockKind.TheVariants.{Pattern}
use Rattle.module.specs.Streams.{stream_verdict}
use Rattle.acceptance.proofs.Locating.{number16-front, number16-take, PartAt, number16-start, part-is, part_length, part-there, bytes32-number}
use Rattle.acceptance.proofs.Cutting.{Sized, sized-least, part-front, places-made}
use Rattle.acceptance.proofs.BlockStreams.{stream-same}
use Rattle.repack.specs.Repacked.{packed, repacked_stream, repacked_block}
use Rattle.repack.proofs.Rewritten.{block_size, block-shorter}
use Rattle.repack_theorems.proofs.PackedAgain.{rows_held, packed-accepted, packed-rows}

-- The rewritten block, computed from the block alone.
abbrev pub rewritten_block : ℕ → List ℕ → List ℕ
rewritten_block tracks block = repacked_block block tracks 0

-- The stream in a block is the one in the module.
pub packed-same : {m block : List ℕ} {at : ℕ} → PartAt m at block → Sized Pattern block → packed_bytes m at ≡ packed_bytes block 0
unfolding size_of
packed-same {block = block} p s =
    let fits : 6 + number32 block 2 ≤ length block = omega (arith, s) in
    stream-same p (omega arith) (part_of block 6 (number32 block 2)) (part-there block 6 (number32 block 2) fits)
    (sym (part_length block 6 (number32 block 2) fits))

pub rows-same : {m block : List ℕ} {at : ℕ} → PartAt m at block → Sized Pattern block → number16 m at ≡ number16 block 0
rows-same {block = block} p s = let least = sized-least Pattern block s in number16-start p (omega arith)

-- The rewritten block of the pattern at a place is that of its block.
pub rewritten-same : {m block : List ℕ} {at : ℕ} (tracks : ℕ) → PartAt m at block → Sized Pattern block
    → repacked_block m tracks at ≡ rewritten_block tracks block
rewritten-same {m} {block} {at} tracks p s =
    let least = sized-least Pattern block s in
    rw (part-front p 2 (omega arith), rows-same p s, packed-same p s)

pub blocks-rewritten : {m : List ℕ} (tracks at : ℕ) (blocks : List (List ℕ)) → PartAt m at (joined blocks)
    → Every (Sized Pattern) blocks
    → map (repacked_block m tracks) (places_from (size_of Pattern m) (length blocks) at) ≡ map (rewritten_block tracks) blocks
blocks-rewritten {m} tracks at blocks p e =
    places-made Pattern {m = m} (λ block. block) {Fits = Sized Pattern} (λ block s. s) (repacked_block m tracks) (rewritten_block tracks)
    (λ block s place part. rewritten-same tracks part s) at e (rw (map-itself blocks) p)

-- A block that is as long as its bytes say, and whose stream the check accepts.
pub record SoundBlock (tracks : ℕ) (block : List ℕ) : Type 0 where
  pub sized : Sized Pattern block
  pub accepted : stream_verdict block tracks 0 ≡ Ok tt

module _ (tracks : ℕ) (block : List ℕ) (b : SoundBlock tracks block) where
  abbrev stream : List ℕ
  stream = repacked_stream block tracks 0

  long : 6 ≤ length block
  long = sized-least Pattern block b.sized

  two : length (take 2 block) ≡ 2
  two = length-take-le 2 block (omega (arith, long))

  pub rewritten-rows : number16 (rewritten_block tracks block) 0 ≡ number16 block 0
  rewritten-rows = number16-front (take 2 block) (packed stream) 0 (omega (arith, two)) ∙ number16-take 2 block 0 (omega arith)

  pub rewritten-length : number32 (rewritten_block tracks block) 2 ≡ length stream
  rewritten-length =
      ap (number32 (rewritten_block tracks block)) (sym two)
      ∙ bytes32-number (length stream) (take 2 block) (stream ++ replicate (length stream % 2) 0)

  size : length (rewritten_block tracks block) ≡ 6 + length stream + length stream % 2
  size = block_size block tracks 0 b.accepted (omega (arith, long))

  rewritten-sized : Sized Pattern (rewritten_block tracks block)
  unfolding size_of
  rewritten-sized = rw rewritten-length size

  six : length (take 2 block ++ bytes32 (length stream)) ≡ 6
  six = omega (arith, length-append (take 2 block) (bytes32 (length stream)), two)

  -- The parts of the rewritten block: its stream and its filler.
  stream-part : PartAt (rewritten_block tracks block) 6 stream
  stream-part = record { before = take 2 block ++ bytes32 (length stream); after = replicate (length stream % 2) 0; bytes = simp append_assoc; starts = six }

  pub filler-part : PartAt (rewritten_block tracks block) (6 + length stream) (replicate (length stream % 2) 0)
  filler-part = record {
    before = (take 2 block ++ bytes32 (length stream)) ++ stream;
    after = [];
    bytes = simp (append_assoc, append-nil);
    starts = omega (arith, length-append (take 2 block ++ bytes32 (length stream)) stream, six);
  }

  pub rewritten-stream : packed_bytes (rewritten_block tracks block) 0 ≡ stream
  rewritten-stream = ap (part_of (rewritten_block tracks block) 6) rewritten-length ∙ part-is stream-part

  pub rewritten-accepted : stream_verdict (rewritten_block tracks block) tracks 0 ≡ Ok tt
  rewritten-accepted = rw (rewritten-stream, rewritten-rows) (packed-accepted (number16 block 0) tracks (packed_bytes block 0) b.accepted)

  pub rewritten-sound : SoundBlock tracks (rewritten_block tracks block)
  rewritten-sound = record { sized = rewritten-sized; accepted = rewritten-accepted }

  pub rewritten-cells : rows_held (number16 (rewritten_block tracks block) 0) tracks (packed_bytes (rewritten_block tracks block) 0)
      ≡ rows_held (number16 block 0) tracks (packed_bytes block 0)
  rewritten-cells = rw (rewritten-stream, rewritten-rows) (packed-rows (number16 block 0) tracks (packed_bytes block 0) b.accepted)

  pub rewritten-shorter : length (rewritten_block tracks block) ≤ length block
  rewritten-shorter = rw b.sized (block-shorter block tracks 0 b.accepted (omega (arith, long)))

  pub rewritten-again : rewritten_block tracks (rewritten_block tracks block) ≡ rewritten_block tracks block
  rewritten-again =
      let rows : take 2 (rewritten_block tracks block) ≡ take 2 block = take_at (take 2 block) (packed stream) 2 two in
      let same : repacked_stream (rewritten_block tracks block) tracks 0 ≡ stream = ap packed_stream rewritten-cells in
      ap (λ (front : List ℕ). front ++ packed (repacked_stream (rewritten_block tracks block) tracks 0)) rows
      ∙ ap (λ (s : List ℕ). take 2 block ++ packed s) same
