-- FORMAT.md, Q1 and Q2 (document 01, "Refusal numbers and their order"): the block of the record that a query is about.
use Rattle.std.specs.Prelude.{ℕ, ◌-◌, List, [], ◌∷◌, Bool, cond, ◌&&◌, leb, ltb, Result, Ok, Err}
use Rattle.refusal.specs.declared.Refusal.{Refusal}
use Rattle.refusal.specs.Numbers.{refusal, accepted_numbers, refused_numbers}
use Rattle.refusal.specs.Lengths.{refused_length, length_if, output_of}
use Rattle.refusal.specs.declared.LengthAnswer.{LengthAnswer}
use Rattle.refusal.specs.declared.Reason.TheVariants.{NotThere}
use Rattle.layout.specs.declared.Layout.{Layout}
use Rattle.blocks.specs.Sizes.{block_at}
use Rattle.blocks.specs.RecordKinds.{block_kind_of, chunk_of, count_of}
use Rattle.blocks.specs.declared.RecordKind.{RecordKind}
use Rattle.blocks.specs.declared.RecordKind.TheVariants.{Song, Instrument, Pattern, Sample, VolumeEnvelope, PanningEnvelope}
use Rattle.module.specs.Verdicts.{opened}
use Rattle.queries.specs.declared.Block.{Block}

-- Q2: instruments and samples are counted from 1, all else from 0.
abbrev pub first_of : RecordKind → ℕ
first_of Song = 0
first_of Instrument = 1
first_of Pattern = 0
first_of Sample = 1
first_of VolumeEnvelope = 0
first_of PanningEnvelope = 0

-- Whether the module has a record with this number.
abbrev pub there : List ℕ → Layout → RecordKind → ℕ → Bool
there m l kind number = leb (first_of kind) number && ltb (number - first_of kind) (count_of m l kind)

-- The block of the record, with the version and the tracks by which it is shown.
abbrev pub block_of : List ℕ → Layout → RecordKind → ℕ → Block
block_of m l kind number = record {
  at = block_at m (block_kind_of kind) (chunk_of l kind) (number - first_of kind);
  version = l.version;
  tracks = l.tracks;
}

-- Q1: the block, or 18 if there is no such record.
abbrev pub found_in : List ℕ → Layout → RecordKind → ℕ → Result Block Refusal
found_in m l kind number = cond (there m l kind number) (Ok (block_of m l kind number)) (Err (refusal NotThere 0))

abbrev pub found_if : List ℕ → RecordKind → ℕ → Result Layout Refusal → Result Block Refusal
found_if m kind number (Ok l) = found_in m l kind number
found_if m kind number (Err r) = Err r

-- Q1: the module's own refusal, then 18.
abbrev pub found : List ℕ → RecordKind → ℕ → Result Block Refusal
found m kind number = found_if m kind number (opened m)

-- The place of the block that was found, 0 on a refusal.
abbrev pub place_in : Result Block Refusal → ℕ
place_in (Ok b) = b.at
place_in (Err r) = 0

-- The result of finding a block, in numbers: the values are the block's place, the version and the tracks.
abbrev pub found_numbers : Result Block Refusal → List ℕ
found_numbers (Ok b) = accepted_numbers (b.at ∷ b.version ∷ b.tracks ∷ [])
found_numbers (Err r) = refused_numbers r 3

-- Q1 and F8: the answer of a query that fills a lent output, and what the output then holds: the refusal of finding the block, then 17.
abbrev pub answer_found : (ℕ → ℕ) → ℕ → Result Block Refusal → LengthAnswer
answer_found needed room (Ok b) = length_if (needed b.at) room
answer_found needed room (Err r) = refused_length r

abbrev pub output_found : (ℕ → ℕ) → (ℕ → List ℕ) → List ℕ → Result Block Refusal → List ℕ
output_found needed bytes out (Ok b) = output_of (needed b.at) (bytes b.at) out
output_found needed bytes out (Err r) = out
