-- FORMAT.md, B1 to B6: the record kinds: the block kind of each, the chunk that holds its blocks, and their number.
use Rattle.std.specs.Prelude.{ℕ, List}
use Rattle.layout.specs.declared.Layout.{Layout}
use Rattle.layout.specs.declared.ChunkSpan.{ChunkSpan}
use Rattle.blocks.specs.Sizes.{envelope_count}
use Rattle.blocks.specs.declared.BlockKind.{BlockKind}
use Rattle.blocks.specs.declared.BlockKind.TheVariants.{Song as SongBlock, Instrument as InstrumentBlock}
use Rattle.blocks.specs.declared.BlockKind.TheVariants.{Pattern as PatternBlock, Sample as SampleBlock}
use Rattle.blocks.specs.declared.BlockKind.TheVariants.{Envelope as EnvelopeBlock}
use Rattle.blocks.specs.declared.RecordKind.{RecordKind}
use Rattle.blocks.specs.declared.RecordKind.TheVariants.{Song, Instrument, Pattern, Sample, VolumeEnvelope, PanningEnvelope}

-- The block kind of a record kind.
abbrev pub block_kind_of : RecordKind → BlockKind
block_kind_of Song = SongBlock
block_kind_of Instrument = InstrumentBlock
block_kind_of Pattern = PatternBlock
block_kind_of Sample = SampleBlock
block_kind_of VolumeEnvelope = EnvelopeBlock
block_kind_of PanningEnvelope = EnvelopeBlock

-- The span of the chunk that holds the blocks of a record kind.
abbrev pub chunk_of : Layout → RecordKind → ChunkSpan
chunk_of l Song = l.spans.song
chunk_of l Instrument = l.spans.inst
chunk_of l Pattern = l.spans.patt
chunk_of l Sample = l.spans.smpl
chunk_of l VolumeEnvelope = l.spans.venv
chunk_of l PanningEnvelope = l.spans.penv

-- The number of records of a kind: INFO's number, or the count of the envelopes' chunk; 0 if that chunk is missing.
abbrev pub count_of : List ℕ → Layout → RecordKind → ℕ
count_of m l Song = l.songs
count_of m l Instrument = l.instruments
count_of m l Pattern = l.patterns
count_of m l Sample = l.samples
count_of m l VolumeEnvelope = envelope_count m l.spans.venv
count_of m l PanningEnvelope = envelope_count m l.spans.penv
