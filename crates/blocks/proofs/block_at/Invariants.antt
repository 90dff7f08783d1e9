use Rattle.std.proofs.Common.{◌≡◌, ◌+◌, ◌*◌, ◌<◌}
use Rattle.blocks.specs.Sizes.{block_at}
use Rattle.blocks.proofs.block_at.Given as goal

abbrev pub invariant-loop : goal.invariant-loop
invariant-loop l = (l.at ≡ block_at l.m l.kind l.fn.chunk l.counter) × (l.at < 0x200000000 + l.counter * 0x800000000)
