-- FORMAT.md, B1 to B6 (document 01, "Layout"): the sizes of blocks, and the places of the blocks of a chunk.
use Rattle.std.specs.Prelude.{ℕ, zero, suc, ◌+◌, ◌*◌, ◌%◌, List, [], ◌∷◌, cond, eqb}
use Rattle.numbers.specs.Numbers.{number16}
use Rattle.layout.specs.declared.ChunkSpan.{ChunkSpan}
use Rattle.layout.specs.declared.Layout.{Layout}
use Rattle.blocks.specs.StoredFields.{song_length, pattern_packed_length, sample_flags, sample_frames}
use Rattle.blocks.specs.declared.BlockKind.{BlockKind}
use Rattle.blocks.specs.declared.BlockKind.TheVariants.{Song, Instrument, Pattern, Sample, Envelope}

-- B5: the bytes of a frame. A sample's flags are exactly 1, 2 or 4, for frames of 8, 16 or 32 bits; 0 for any other flags.
abbrev pub width_of : ℕ → ℕ
width_of flags = cond (eqb flags 1) 1 (cond (eqb flags 2) 2 (cond (eqb flags 4) 4 0))

-- The size in bytes of the "block" at a place.
-- B2: a song: name 44, length 2, and as many numbers of 2 bytes. B3: an instrument, 50.
-- B4: a pattern: rows 2, packed length 4, packed bytes, and a "filler byte" if their number is odd.
-- B5: a sample: flags 4, frames 4, and the frames. B6: an envelope, 136.
unfoldable pub size_of : BlockKind → List ℕ → ℕ → ℕ
size_of Song m at = 46 + 2 * song_length m at
size_of Instrument m at = 50
size_of Pattern m at = 6 + pattern_packed_length m at + pattern_packed_length m at % 2
size_of Sample m at = 8 + sample_frames m at * width_of (sample_flags m at)
size_of Envelope m at = 136

-- B1: blocks come one after the other: the places of n blocks from a place on, and the place after n blocks.
abbrev pub places_from : (ℕ → ℕ) → ℕ → ℕ → List ℕ
places_from size zero at = []
places_from size (suc n) at = at ∷ places_from size n (at + size at)

abbrev pub place_after : (ℕ → ℕ) → ℕ → ℕ → ℕ
place_after size zero at = at
place_after size (suc n) at = place_after size n (at + size at)

-- B1: the first block is at the beginning of the data; the first envelope comes after their count.
abbrev pub first_block : BlockKind → ChunkSpan → ℕ
first_block Song chunk = chunk.at + 8
first_block Instrument chunk = chunk.at + 8
first_block Pattern chunk = chunk.at + 8
first_block Sample chunk = chunk.at + 8
first_block Envelope chunk = chunk.at + 10

-- B1: the place of a block, counted from 0.
abbrev pub block_at : List ℕ → BlockKind → ChunkSpan → ℕ → ℕ
block_at m kind chunk i = place_after (size_of kind m) i (first_block kind chunk)

-- The places of the first n blocks of a chunk.
abbrev pub blocks_of : List ℕ → BlockKind → ChunkSpan → ℕ → List ℕ
blocks_of m kind chunk n = places_from (size_of kind m) n (first_block kind chunk)

-- B6: the number of envelopes of a chunk; 0 if there is no chunk.
abbrev pub envelope_count : List ℕ → ChunkSpan → ℕ
envelope_count m chunk = cond chunk.present (number16 m (chunk.at + 8)) 0

-- The places of the blocks of each chunk.
abbrev pub song_blocks : List ℕ → Layout → List ℕ
song_blocks m l = blocks_of m Song l.spans.song l.songs

abbrev pub instrument_blocks : List ℕ → Layout → List ℕ
instrument_blocks m l = blocks_of m Instrument l.spans.inst l.instruments

abbrev pub pattern_blocks : List ℕ → Layout → List ℕ
pattern_blocks m l = blocks_of m Pattern l.spans.patt l.patterns

abbrev pub sample_blocks : List ℕ → Layout → List ℕ
sample_blocks m l = blocks_of m Sample l.spans.smpl l.samples

abbrev pub envelope_blocks : List ℕ → ChunkSpan → List ℕ
envelope_blocks m chunk = blocks_of m Envelope chunk (envelope_count m chunk)
