-- Definitions that the contracts of private functions cite: the repacked module as its bytes up to PATT's length, that length and the
-- rewritten data, and its bytes after PATT; and what is known about the patterns of an accepted module.
use Rattle.std.specs.Prelude.{ℕ, zero, suc, ◌+◌, ◌≤◌, ◌≡◌, List, ◌++◌, map, length, take, drop, Ok}
use Rattle.vocabulary.specs.Lists.{joined}
use Rattle.numbers.specs.Numbers.{bytes32}
use Rattle.layout.specs.declared.ChunkSpan.{ChunkSpan}
use Rattle.blocks.specs.Sizes.{size_of, place_after, places_from, first_block}
use Rattle.blocks.specs.Filling.{data_end}
use Rattle.blocks.specs.declared.BlockKind.TheVariants.{Pattern}
use Rattle.module.specs.Streams.{stream_verdict}
use Rattle.repack.specs.Repacked.{repacked_block}

-- The rewritten blocks of n patterns from a place on.
abbrev pub rewritten_blocks : List ℕ → ℕ → ℕ → ℕ → List ℕ
rewritten_blocks m tracks n at = joined (map (repacked_block m tracks) (places_from (size_of Pattern m) n at))

-- The module with PATT's data replaced: the module up to PATT's end, and all of it.
abbrev pub rewritten_front : List ℕ → ChunkSpan → List ℕ → List ℕ
rewritten_front m chunk rewritten = take (chunk.at + 4) m ++ (bytes32 (length rewritten) ++ rewritten)

abbrev pub replaced : List ℕ → ChunkSpan → List ℕ → List ℕ
replaced m chunk rewritten = take (chunk.at + 4) m ++ (bytes32 (length rewritten) ++ (rewritten ++ drop (data_end chunk) m))

-- The n patterns from a place on have sound streams.
abbrev pub StreamsSound : List ℕ → ℕ → ℕ → ℕ → Type 0
StreamsSound m tracks zero at = Unit {0}
StreamsSound m tracks (suc n) at = (stream_verdict m tracks at ≡ Ok tt) × StreamsSound m tracks n (at + size_of Pattern m at)

-- The n patterns from a place on end at `end`, inside the module, and have sound streams.
pub record PatternsTo (m : List ℕ) (tracks n at end : ℕ) : Type 0 where
  pub sound : StreamsSound m tracks n at
  pub ends : place_after (size_of Pattern m) n at ≡ end
  pub inside : end ≤ length m

-- The patterns of a chunk fill it, and have sound streams.
abbrev pub PatternsIn : List ℕ → ChunkSpan → ℕ → ℕ → Type 0
PatternsIn m chunk n tracks = PatternsTo m tracks n (first_block Pattern chunk) (data_end chunk)
