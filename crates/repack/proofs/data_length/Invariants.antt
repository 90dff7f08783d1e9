use Prim.Native.Nat.{◌-◌}
use Rattle.blocks.specs.Sizes.{size_of, place_after}
use Rattle.blocks.specs.declared.BlockKind.TheVariants.{Pattern}
use Rattle.repack.proofs.PassingPatterns.{Counting}
use Rattle.repack.proofs.data_length.Given as goal

abbrev pub invariant-loop : goal.invariant-loop
invariant-loop l =
    Counting l.m l.tracks l.patterns l.initial.at (place_after (size_of Pattern l.m) l.patterns l.initial.at) l.at l.length
    (l.patterns - l.counter)
