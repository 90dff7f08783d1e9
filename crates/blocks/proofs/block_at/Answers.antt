use borrow.Author.Rules.{rules}
use Rattle.blocks.specs.Sizes.{size_of, first_block}
use Rattle.blocks.proofs.Walking.{walk-turn}
use Rattle.blocks.proofs.block_at.Goals as goal

pub loop-preserved : goal.loop-preserved
loop-preserved c =
    let a = c.args in
    (walk-turn (size_of a.kind a.m.now) c.loop.counter (first_block a.kind a.chunk) c.loop.invariant.0 c.size-at.ensures.0, search rules)
