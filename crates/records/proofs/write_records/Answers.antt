use borrow.Author.Rules.{rules}
use Rattle.records.proofs.Accepting.{records-same, records-ready, records-written}
use Rattle.records.proofs.write_records.Goals as goal

pub write_blocks-requires : goal.write_blocks-requires
write_blocks-requires c =
    let m = c.args.m.now in
    let l = c.args.l in
    let kind = c.args.kind in
    let block-kind = c.from-blocks in
    let Chunk-of = c.chunk_of in
    let block_at = c.block_at-start in
    let count_of = c.count_of-count in (
      search rules,
      records-ready m l kind _ _ _ _ block-kind.ensures Chunk-of.ensures block_at.ensures.0 count_of.ensures
          c.requires.0,
      rw (records-same m l kind _ _ _ _ block-kind.ensures Chunk-of.ensures block_at.ensures.0 count_of.ensures)
          c.requires.1,
    )

pub returns : goal.returns
returns c =
    let block-kind = c.from-blocks in
    let Chunk-of = c.chunk_of in
    let block_at = c.block_at-start in
    let count_of = c.count_of-count in
    records-written c.args.m.now c.args.l c.args.kind _ _ _ _ block-kind.ensures Chunk-of.ensures
    block_at.ensures.0 count_of.ensures c.args.out.now c.write_blocks.ensures
