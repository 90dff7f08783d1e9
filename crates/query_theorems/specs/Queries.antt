-- FORMAT.md, B1 to B6 and Q9 to Q12: the terms that the theorems about queries use: the place of a block that a query finds, the frames of
-- a sample, the cells of a pattern and the values of an envelope. A record kind is what a query requests: a song, an instrument, a pattern,
-- a sample, a volume envelope or a panning envelope.
use Rattle.std.specs.Prelude.{ℕ, ◌+◌, ◌-◌, ◌*◌, ◌≤◌, ◌<◌, ◌≡◌, ◌⊎◌, List, [], true, length, get_or, ℤ, pos, ◌≤ℤ◌, Ok}
use Rattle.cells.specs.Cells.{rows_of, empty_cell}
use Rattle.numbers.specs.Numbers.{number16, number32, part_of}
use Rattle.packed_rows.specs.Stream.{cells_read}
use Rattle.layout.specs.Chunks.{song_identifier, inst_identifier, patt_identifier, smpl_identifier, venv_identifier, penv_identifier}
use Rattle.layout.specs.declared.Layout.{Layout}
use Rattle.blocks.specs.StoredFields.{packed_bytes, sample_frames}
use Rattle.blocks.specs.Sizes.{size_of}
use Rattle.blocks.specs.Filling.{data_end}
use Rattle.blocks.specs.RecordKinds.{block_kind_of, chunk_of}
use Rattle.blocks.specs.declared.RecordKind.{RecordKind}
use Rattle.blocks.specs.declared.RecordKind.TheVariants.{Song, Instrument, Pattern, Sample, VolumeEnvelope, PanningEnvelope}
use Rattle.module.specs.Verdicts.{opened}
use Rattle.queries.specs.declared.Block.{Block}
use Rattle.acceptance.specs.Places.{HeaderAt}
use Rattle.samples.specs.Shown.{bytes_per_frame, frames_part}
use Rattle.envelopes.specs.Shown.{envelope_answer}
use Rattle.envelopes.specs.declared.EnvelopeKind.{EnvelopeKind}

-- The identifier of the chunk with the blocks of a record kind.
abbrev pub kind_identifier : RecordKind → ℕ
kind_identifier Song = song_identifier
kind_identifier Instrument = inst_identifier
kind_identifier Pattern = patt_identifier
kind_identifier Sample = smpl_identifier
kind_identifier VolumeEnvelope = venv_identifier
kind_identifier PanningEnvelope = penv_identifier

-- The block of a record kind at a place lies within the data of its chunk. The module is accepted and has this layout. The chunk is
-- present, with its own identifier and the length in its header, and it is whole.
pub record InChunk (m : List ℕ) (kind : RecordKind) (at : ℕ) : Type 0 where
  pub layout : Layout
  pub opens : opened m ≡ Ok layout
  pub present : (chunk_of layout kind).present ≡ true
  pub header : HeaderAt m (chunk_of layout kind).at
  pub named : number32 m (chunk_of layout kind).at ≡ kind_identifier kind
  pub size : number32 m ((chunk_of layout kind).at + 4) ≡ (chunk_of layout kind).length
  pub after_header : (chunk_of layout kind).at + 8 ≤ at
  pub inside : at + size_of (block_kind_of kind) m at ≤ data_end (chunk_of layout kind)
  pub whole : data_end (chunk_of layout kind) ≤ length m

-- The frames of a sample whose block is at a place: as many bytes as the block says, after its flags and its number of frames, and within
-- the data of SMPL; a frame has 1, 2 or 4 bytes.
pub record FramesIn (m : List ℕ) (sample at : ℕ) : Type 0 where
  pub chunk : InChunk m Sample at
  pub width : (bytes_per_frame m at ≡ 1) ⊎ ((bytes_per_frame m at ≡ 2) ⊎ (bytes_per_frame m at ≡ 4))
  pub bytes : frames_part m sample ≡ part_of m (at + 8) (sample_frames m at * bytes_per_frame m at)
  pub size : length (frames_part m sample) ≡ sample_frames m at * bytes_per_frame m at
  pub inside : at + 8 + length (frames_part m sample) ≤ data_end chunk.layout.spans.smpl

-- Q10: the pattern with this block has this row and this track. Rows are counted from 0, tracks from 1.
abbrev pub HasCell : List ℕ → Block → ℕ → ℕ → Type 0
HasCell m b row track = (row < number16 m b.at) × (1 ≤ track) × (track ≤ b.tracks)

-- The cell there, from the cells of the pattern's packed bytes (C3).
abbrev pub stored_cell : List ℕ → Block → ℕ → ℕ → List ℕ
stored_cell m b row track =
    get_or (get_or (rows_of (number16 m b.at) b.tracks (cells_read (number16 m b.at) b.tracks (packed_bytes m b.at))) row []) (track - 1) empty_cell

-- Q9: the value that is shown for a point of an envelope, both counted from 0; 0 if there is no such point.
abbrev pub value_at : List ℕ → EnvelopeKind → ℕ → ℕ → ℤ
value_at m kind envelope point = get_or (envelope_answer m kind envelope).values point (pos 0)

-- A number from `least` to `most`.
abbrev pub Between : ℤ → ℤ → ℤ → Type 0
Between least most z = (least ≤ℤ z) × (z ≤ℤ most)
