use lib.ListN.{length}
use Prim.Native.Nat.{◌-◌, ◌≤◌}
use Rattle.blocks.specs.Sizes.{size_of, place_after}
use Rattle.blocks.specs.declared.BlockKind.TheVariants.{Pattern}
use Rattle.repack.specs.Steps.{rewritten_blocks}
use Rattle.repack.proofs.PassingPatterns.{WritingBlocks}
use Rattle.repack.proofs.write_data.Given as goal

abbrev pub invariant-loop : goal.invariant-loop
invariant-loop l =
    WritingBlocks l.m l.tracks l.patterns l.initial.at (place_after (size_of Pattern l.m) l.patterns l.initial.at) l.initial.out l.out l.at l.to
    (l.patterns - l.counter)
    × (length (rewritten_blocks l.m l.tracks l.patterns l.initial.at) ≤ length l.initial.out)
