-- The theorems about what queries answer, and the computed tables.
--
-- 12. The register samples P1 to P12: what the definitions give, as numbers, is what the register says.
-- 13. For every list of numbers: if a query finds the block of a song, an instrument, a pattern, a sample or an envelope, the module is
--     accepted, the chunk with such blocks is present, with its own identifier and the length in its header, the block lies within its
--     data, and these within the module.
-- 14. The first block of each kind is at the beginning of its chunk's data (for envelopes after their count). Each other block begins where
--     the one before it ends, and the last ends where the data end.
-- 15. The frames of a sample that is found are returned whole: as many bytes as its frames times the bytes of a frame, which are 1, 2 or 4,
--     after the block's flags and number, and within the data of SMPL. For a sample that is refused no byte is returned.
-- 16. The stream of a pattern that is found is as long as its block says, never cut, and the check accepts it with the pattern's rows and
--     the module's tracks. So unpacking it never gives 16 or 15: it gives 17 with too little room, else the length of the cells. A query
--     for a cell gives 18 exactly if the pattern has no such row or track; else it shows that cell of the stream's cells.
-- 17. The 44 bytes that are shown as the name of a module with NAME, the 44 of the name of a song that is found, its playlist, and the 30
--     of the name of an instrument that is found are bytes of the module, and none of them is past its end.
-- 18. Every shown value of a volume envelope is 0 to 64, and of a panning envelope −128 to 128, for every module and every point. In
--     version 2 the value that is shown for a point in use of a panning envelope is 4v − 128, with v the stored one, at most 64.
-- 24. Worked refusals: for some two hundred small inputs, written out, the answers of the check of a module, the queries and the calls on
--     streams are the number and the place that document 01 says. Each number from 2 to 18 occurs, and for each two consecutive faults in
--     document 01's order there is an input with both. Every list of more than 16,777,216 numbers gives 1 at 0, whatever else is wrong.
--
-- The check is `module_verdict`, which the contract cites. A query finds a block by `found`, and what a query shows are the answers that the
-- contracts of the queries cite.
use Prim.Native.Nat.{ℕ, ◌+◌, ◌*◌, ◌≤◌, ◌<◌}
use Rattle.std.specs.Prelude.{Ok, Err}
use mathlib.Core.Path.{◌≡◌}
use mathlib.Core.Logic.{◌↔◌}
use mathlib.Core.List.{List, [], map}
use mathlib.Core.Bool.{true}
use lib.ListN.{length}
use lib.IntN.{pos, negsuc, ◌-ℤ◌}
use Rattle.refusal.specs.Numbers.{refusal}
use Rattle.refusal.specs.declared.Reason.TheVariants.{NotThere}
use Rattle.refusal.specs.declared.Refusal.{Refusal}
use Rattle.refusal.specs.Lengths.{length_if}
use Rattle.cells.specs.Cells.{cell_bytes}
use Rattle.cells.specs.Shown.{shown_cell}
use Rattle.numbers.specs.Numbers.{number16, part_of}
use Rattle.packed_rows.specs.Answers.{check_answer}
use Rattle.layout.specs.declared.Layout.{Layout}
use Rattle.blocks.specs.StoredFields.{song_length, pattern_packed_length, packed_bytes, envelope_sections, envelope_value}
use Rattle.blocks.specs.Sizes.{size_of, first_block}
use Rattle.blocks.specs.Filling.{data_end}
use Rattle.blocks.specs.RecordKinds.{block_kind_of, chunk_of}
use Rattle.blocks.specs.declared.RecordKind.{RecordKind}
use Rattle.blocks.specs.declared.RecordKind.TheVariants.{Song, Instrument, Pattern, Sample, PanningEnvelope}
use Rattle.module.specs.Verdicts.{opened, module_verdict}
use Rattle.queries.specs.Finding.{first_of, found}
use Rattle.queries.specs.declared.Block.{Block}
use Rattle.samples.specs.Shown.{frames_part}
use Rattle.envelopes.specs.declared.EnvelopeKind.TheVariants.{Volume, Panning}
use Rattle.patterns.specs.Shown.{cell_answer, cells_answer}
use Rattle.songs.specs.Shown.{song_answer, playlist_bytes}
use Rattle.summary.specs.Shown.{name_answer}
use Rattle.instruments.specs.Shown.{instrument_answer}
use Rattle.query_theorems.specs.Queries.{InChunk, FramesIn, HasCell, stored_cell, value_at, Between}
use Rattle.query_theorems.proofs.Samples as Samples
use Rattle.query_theorems.proofs.FoundBlocks as FoundBlocks
use Rattle.query_theorems.proofs.SampleFrames as SampleFrames
use Rattle.query_theorems.proofs.FoundPatterns as FoundPatterns
use Rattle.query_theorems.proofs.ShownBytes as ShownBytes
use Rattle.query_theorems.proofs.EnvelopeValues as EnvelopeValues
use Rattle.query_theorems.proofs.WorkedRefusals as WorkedRefusals

-- Theorem 12.
pub samples-agree : map (λ (s : Samples.Sample). s.found) Samples.samples ≡ map (λ (s : Samples.Sample). s.registered) Samples.samples
samples-agree = Samples.samples-agree

-- Theorem 13.
pub block-in-chunk : (m : List ℕ) (kind : RecordKind) (number : ℕ) (b : Block) → found m kind number ≡ Ok b → InChunk m kind b.at
block-in-chunk = FoundBlocks.block-in-chunk

-- Theorem 14.
pub first-block : (m : List ℕ) (l : Layout) (kind : RecordKind) (b : Block) → opened m ≡ Ok l
    → found m kind (first_of kind) ≡ Ok b
    → b.at ≡ first_block (block_kind_of kind) (chunk_of l kind)
first-block = FoundBlocks.first-block

pub next-block : (m : List ℕ) (kind : RecordKind) (number : ℕ) (b : Block) → found m kind number ≡ Ok b → (c : Block)
    → found m kind (number + 1) ≡ Ok c
    → c.at ≡ b.at + size_of (block_kind_of kind) m b.at
next-block = FoundBlocks.next-block

pub last_block : (m : List ℕ) (kind : RecordKind) (number : ℕ) (b : Block) → found m kind number ≡ Ok b
    → (l : Layout) (r : Refusal) → opened m ≡ Ok l → found m kind (number + 1) ≡ Err r
    → b.at + size_of (block_kind_of kind) m b.at ≡ data_end (chunk_of l kind)
last_block = FoundBlocks.last_block

-- Theorem 15.
pub frames-whole : (m : List ℕ) (sample : ℕ) (b : Block) → found m Sample sample ≡ Ok b → FramesIn m sample b.at
frames-whole = SampleFrames.frames-in

pub frames-refused : (m : List ℕ) (sample : ℕ) (r : Refusal) → found m Sample sample ≡ Err r → frames_part m sample ≡ []
frames-refused = SampleFrames.frames-refused

-- Theorem 16.
module _ (m : List ℕ) (pattern : ℕ) (b : Block) (there : found m Pattern pattern ≡ Ok b) where
  pub packed-whole : length (packed_bytes m b.at) ≡ pattern_packed_length m b.at
  packed-whole = FoundPatterns.packed-whole m pattern b there

  pub stream-accepted : check_answer (packed_bytes m b.at) (number16 m b.at) b.tracks ≡ Ok tt
  stream-accepted = FoundPatterns.stream-accepted m pattern b there

  pub unpack-length : (room : ℕ) → cells_answer m pattern room ≡ length_if (cell_bytes (number16 m b.at) b.tracks) room
  unpack-length = FoundPatterns.unpack-length m pattern b there

  pub cell-not-there : (row track : ℕ) → (cell_answer m pattern row track ≡ Err (refusal NotThere 0)) ↔ (HasCell m b row track → ⊥)
  cell-not-there = FoundPatterns.cell-not-there m pattern b there

  pub cell-shown : (row track : ℕ) → HasCell m b row track → cell_answer m pattern row track ≡ Ok (shown_cell (stored_cell m b row track))
  cell-shown = FoundPatterns.cell-shown m pattern b there

-- Theorem 17.
pub module-name : (m : List ℕ) (l : Layout) → opened m ≡ Ok l → l.spans.name.present ≡ true → (name_answer m).name ≡ part_of m (l.spans.name.at + 8) 44
module-name = ShownBytes.module-name

pub song-name : (m : List ℕ) (song : ℕ) (b : Block) → found m Song song ≡ Ok b → (song_answer m song).name ≡ part_of m b.at 44
song-name = ShownBytes.song-name

pub playlist-bytes : (m : List ℕ) (song : ℕ) (b : Block) → found m Song song ≡ Ok b → playlist_bytes m b.at ≡ part_of m (b.at + 46) (2 * song_length m b.at)
playlist-bytes = ShownBytes.playlist-bytes

pub instrument-name : (m : List ℕ) (instrument : ℕ) (b : Block) → found m Instrument instrument ≡ Ok b
    → (instrument_answer m instrument).name ≡ part_of m b.at 30
instrument-name = ShownBytes.instrument-name

-- Theorem 18.
pub volume-values : (m : List ℕ) (envelope point : ℕ) → Between (pos 0) (pos 64) (value_at m Volume envelope point)
volume-values = EnvelopeValues.volume-values

pub panning-values : (m : List ℕ) (envelope point : ℕ) → Between (negsuc 127) (pos 128) (value_at m Panning envelope point)
panning-values = EnvelopeValues.panning-values

pub panning-scaled : (m : List ℕ) (envelope : ℕ) (b : Block) → found m PanningEnvelope envelope ≡ Ok b → b.version ≡ 2
    → (point : ℕ) → point ≤ envelope_sections m b.at
    → (envelope_value m b.at point ≤ 64) × (value_at m Panning envelope point ≡ pos (4 * envelope_value m b.at point) -ℤ pos 128)
panning-scaled = EnvelopeValues.panning-scaled

-- Theorem 24.
pub refusals-agree : map (λ (w : WorkedRefusals.Worked). w.found) WorkedRefusals.worked ≡ map (λ (w : WorkedRefusals.Worked). w.said) WorkedRefusals.worked
refusals-agree = WorkedRefusals.refusals-agree

pub too-long : (m : List ℕ) → 16777216 < length m → module_verdict m ≡ Err (record { number = 1; place = 0 })
too-long = WorkedRefusals.too-long
