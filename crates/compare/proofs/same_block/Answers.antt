use Rattle.compare.proofs.SameBlocks.{stored_same}
use Rattle.compare.proofs.same_block.Goals as goal

pub returns : goal.returns
returns c =
    let size = c.size-n in
    stored_same c.args.kind c.args.m.now c.args.k.now c.args.at c.args.to size.result
    c.size-o.result size.ensures.0 c.size-o.ensures.0 _ _
    c.part.ensures.0 c.part-2.ensures.0 c.equal.ensures
