use borrow.Author.Rules.{rules}
use Rattle.blocks.specs.Sizes.{size_of, first_block}
use Rattle.blocks.proofs.BlockSizes.{size-some}
use Rattle.blocks.proofs.Walking.{walk-turn, walk-over}
use Rattle.blocks.proofs.fills.Goals as goal

pub returns-then-end-at : goal.returns-then-end-at
returns-then-end-at c =
    let a = c.args in
    let sizes = size_of a.kind a.m.now in
    let start = first_block a.kind a.chunk in
    rw (← c.data_end-end.ensures)
    (walk-over sizes c.loop.counter start c.loop.invariant.0 a.count c.loop-test.true (size-some a.kind a.m.now c.loop.at) c.if-end-at.true)

pub loop-preserved : goal.loop-preserved
loop-preserved c =
    let a = c.args in
    (walk-turn (size_of a.kind a.m.now) c.loop.counter (first_block a.kind a.chunk) c.loop.invariant.0 c.size-at.ensures.0, search rules)
