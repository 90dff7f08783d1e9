use Prim.Native.Nat.{◌-◌}
use Rattle.blocks.specs.Sizes.{size_of}
use Rattle.blocks.proofs.Leading.{Leading}
use Rattle.records.specs.Records.{record_at}
use Rattle.records.specs.Steps.{ValuesScale}
use Rattle.acceptance.proofs.Ahead.{AheadBlocks}
use Rattle.records.proofs.write_blocks.Given as goal

abbrev pub invariant-loop : goal.invariant-loop
invariant-loop l =
    AheadBlocks (record_at l.m l.version l.kind) (size_of l.blocks l.m) (ValuesScale l.m l.version l.kind) l.count l.start l.initial.out l.out l.at l.to
    (l.count - l.counter)
    × Leading (size_of l.blocks l.m) l.count l.start (l.count - l.counter) l.at
