use borrow.Author.Rules.{rules}
use Rattle.repack.proofs.WritingBlock.{block-long, rows_fit, even-block, odd-block}
use Rattle.byte_copy.proofs.Copying.{copied-in}
use Rattle.repack.proofs.write_block.Goals as goal

pub slice_bounds-repack_stream-count : goal.slice_bounds-repack_stream-count
slice_bounds-repack_stream-count c =
    let long = block-long c.args.m.now c.args.tracks c.args.at c.requires.0 c.requires.1 in
    search rules

pub returns-then-n-eq0 : goal.returns-then-n-eq0
returns-then-n-eq0 c =
    let part = c.part in
    let repack-stream = c.repack_stream-n in
    even-block c.args.m.now c.args.tracks c.args.at c.requires.0 c.requires.1
    c.args.out.now c.requires.2 part.ensures.0 (copied-in _ _ _ c.copy.ensures (rows_fit c.args.m.now c.args.tracks c.args.at c.requires.0 c.requires.1
    c.args.out.now c.requires.2 c.part.ensures.0)) repack-stream.ensures
    c.put32.ensures c.if-n-eq0.true

pub bounds-out-end : goal.bounds-out-end
bounds-out-end c =
    let long = block-long c.args.m.now c.args.tracks c.args.at c.requires.0 c.requires.1 in
    search rules

pub returns : goal.returns
returns c =
    let part = c.part in
    let repack-stream = c.repack_stream-n in
    odd-block c.args.m.now c.args.tracks c.args.at c.requires.0 c.requires.1
    c.args.out.now c.requires.2 part.ensures.0 (copied-in _ _ _ c.copy.ensures (rows_fit c.args.m.now c.args.tracks c.args.at c.requires.0 c.requires.1
    c.args.out.now c.requires.2 c.part.ensures.0)) repack-stream.ensures
    c.put32.ensures c.if-n-eq0.false
