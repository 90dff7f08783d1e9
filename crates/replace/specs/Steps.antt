-- Definitions that the contracts of private functions cite: the result as it is written, and what is known about the blocks of an accepted
-- module.
use Rattle.std.specs.Prelude.{ℕ, ◌+◌, ◌-◌, ◌≤◌, List, ◌++◌, map, cond, length, take, drop, ltb}
use Rattle.vocabulary.specs.Lists.{joined, Every}
use Rattle.numbers.specs.Numbers.{bytes32, put_at}
use Rattle.layout.specs.declared.ChunkSpan.{ChunkSpan}
use Rattle.blocks.specs.Sizes.{size_of, places_from, first_block}
use Rattle.blocks.specs.Filling.{data_end}
use Rattle.blocks.specs.declared.BlockKind.TheVariants.{Instrument, Sample}
use Rattle.replace.specs.Replaced.{new_block, rewritten_instrument}

-- The module up to the sample's block, with another length of SMPL's data.
abbrev pub front_with : List ℕ → ChunkSpan → ℕ → ℕ → List ℕ
front_with m smpl at content = put_at (bytes32 content) (smpl.at + 4) (take at m)

-- The length of SMPL's data with the block at a place replaced.
abbrev pub content_length : List ℕ → ChunkSpan → ℕ → List ℕ → ℕ
content_length m smpl at new = smpl.length - size_of Sample m at + length (new_block new)

-- The module with the block at a place replaced, and the length of SMPL's data.
abbrev pub block_replaced : List ℕ → ChunkSpan → ℕ → List ℕ → List ℕ
block_replaced m smpl at new = front_with m smpl at (content_length m smpl at new) ++ (new_block new ++ drop (at + size_of Sample m at) m)

-- The block at a place is inside the data of SMPL, which are inside the module.
pub record SampleIn (m : List ℕ) (smpl : ChunkSpan) (at : ℕ) : Type 0 where
  pub starts : smpl.at + 8 ≤ at
  pub ends : at + size_of Sample m at ≤ data_end smpl
  pub inside : data_end smpl ≤ length m
  pub limit : length m ≤ 16777216

-- The places of n instruments of INST, each inside the module.
abbrev pub instrument_places : List ℕ → ChunkSpan → ℕ → List ℕ
instrument_places m inst n = places_from (size_of Instrument m) n (first_block Instrument inst)

abbrev pub InstrumentsIn : List ℕ → ChunkSpan → ℕ → Type 0
InstrumentsIn m inst n = Every (λ at. at + 50 ≤ length m) (instrument_places m inst n)

-- The new data of INST.
abbrev pub instruments_written : List ℕ → ChunkSpan → ℕ → ℕ → ℕ → List ℕ
instruments_written m inst n sample frames = joined (map (rewritten_instrument m sample frames) (instrument_places m inst n))

-- The place of INST's data after a block of SMPL of one length is replaced by one of another: what comes after the block moves.
abbrev pub place_afterwards : ChunkSpan → ChunkSpan → ℕ → ℕ → ℕ
place_afterwards inst smpl old new = cond (ltb inst.at smpl.at) (inst.at + 8) (inst.at + 8 - old + new)
