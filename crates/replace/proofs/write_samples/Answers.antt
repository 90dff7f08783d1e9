use native.Mathlib.Omega.{arith}
use Rattle.replace.proofs.WritingSample.{content-small, front-room, block_start, block-part, rest-start, rest_part, samples-written}
use Rattle.byte_copy.proofs.Copying.{copied-in}
use Rattle.replace.proofs.write_samples.Goals as goal

pub overflow_cast-content-2 : goal.overflow_cast-content-2
overflow_cast-content-2 c =
    omega (
      arith,
      content-small c.args.m.now c.args.smpl c.args.at c.args.new.now c.requires.0
          c.size-old.ensures.0 c.requires.1,
    )

pub write_front-requires : goal.write_front-requires
write_front-requires c = (
  c.requires.0,
  front-room c.args.m.now c.args.smpl c.args.at c.args.new.now c.requires.0
      c.size-old.ensures.0 c.args.out.now c.requires.2,
)

pub slice_bounds-write_block-count : goal.slice_bounds-write_block-count
slice_bounds-write_block-count c =
    let size = c.size-old in
    block_start c.args.m.now c.args.smpl c.args.at c.args.new.now c.requires.0
    size.ensures.0 c.args.out.now c.requires.2 c.write_front.ensures

pub write_block-requires : goal.write_block-requires
write_block-requires c =
    let size = c.size-old in (
      c.requires.1,
      block-part c.args.m.now c.args.smpl c.args.at c.args.new.now c.requires.0
          size.ensures.0 c.args.out.now c.requires.2 c.write_front.ensures,
    )

pub slice_bounds-copy-count-2 : goal.slice_bounds-copy-count-2
slice_bounds-copy-count-2 c =
    let size = c.size-old in
    let write-front = c.write_front in
    rest-start c.args.m.now c.args.smpl c.args.at c.args.new.now c.requires.0
    size.ensures.0 c.args.out.now c.requires.2 write-front.ensures
    c.write_block.ensures

pub returns : goal.returns
returns c =
    let size = c.size-old in
    let write-front = c.write_front in
    let write-block = c.write_block in
    samples-written c.args.m.now c.args.smpl c.args.at c.args.new.now c.requires.0
    size.ensures.0 c.args.out.now c.requires.2 write-front.ensures write-block.ensures
    (copied-in _ _ _ c.copy.ensures (let size = c.size-old in
    let write-front = c.write_front in
    let write-block = c.write_block in
    rest_part c.args.m.now c.args.smpl c.args.at c.args.new.now c.requires.0
    size.ensures.0 c.args.out.now c.requires.2 write-front.ensures write-block.ensures))
