use borrow.Author.Rules.{rules}
use Rattle.blocks.specs.Sizes.{first_block}
use Rattle.blocks.specs.declared.BlockKind.TheVariants.{Pattern}
use Rattle.repack.specs.Steps.{rewritten_blocks}
use native.Mathlib.Omega.{arith}
use mathlib.Core.Path.{refl, sym}
use Rattle.repack.proofs.PassingPatterns.{data-shorter}
use Rattle.repack.proofs.WritingModule.{front-size, start-room, front-written}
use Rattle.byte_copy.proofs.Copying.{copied-in}
use Rattle.repack.proofs.write_front.Goals as goal

pub slice_bounds-copy-end : goal.slice_bounds-copy-end
slice_bounds-copy-end c =
    let m = c.args.m.now in
    let chunk = c.args.chunk in
    sym (front-size m chunk (rewritten_blocks m c.args.tracks c.args.patterns (first_block Pattern chunk)) c.requires.0.inside)

pub copy-requires : goal.copy-requires
copy-requires c =
    let m = c.args.m.now in
    let chunk = c.args.chunk in
    let blocks = rewritten_blocks m c.args.tracks c.args.patterns (first_block Pattern chunk) in
    let room = start-room m chunk blocks c.requires.0.inside c.args.out.now c.requires.1 in
    omega (arith, front-size m chunk blocks c.requires.0.inside)

pub slice_bounds-write_data-count : goal.slice_bounds-write_data-count
slice_bounds-write_data-count c =
    let m = c.args.m.now in
    let chunk = c.args.chunk in
    let room = start-room m chunk (rewritten_blocks m c.args.tracks c.args.patterns (first_block Pattern chunk))
    c.requires.0.inside c.args.out.now c.requires.1 in
    search rules

pub write_data-rewritten-requires : goal.write_data-rewritten-requires
write_data-rewritten-requires c =
    let m = c.args.m.now in
    let chunk = c.args.chunk in (
      c.requires.0,
      let room = start-room m chunk (rewritten_blocks m c.args.tracks c.args.patterns (first_block Pattern chunk))
          c.requires.0.inside c.args.out.now c.requires.1 in
          search rules,
    )

pub overflow_cast-rewritten : goal.overflow_cast-rewritten
overflow_cast-rewritten c =
    let shorter = data-shorter c.args.chunk c.requires.0 refl in
    omega (arith, c.write_data-rewritten.ensures.0)

pub overflow_add-result : goal.overflow_add-result
overflow_add-result c =
    let m = c.args.m.now in
    let chunk = c.args.chunk in
    let write-data = c.write_data-rewritten in
    let room = start-room m chunk (rewritten_blocks m c.args.tracks c.args.patterns (first_block Pattern chunk))
    c.requires.0.inside c.args.out.now c.requires.1 in
    omega (arith, write-data.ensures.0)

pub returns : goal.returns
returns c =
    let m = c.args.m.now in
    let chunk = c.args.chunk in
    let write-data = c.write_data-rewritten in
    front-written m chunk (rewritten_blocks m c.args.tracks c.args.patterns (first_block Pattern chunk))
    c.requires.0.inside c.args.out.now c.requires.1 (copied-in _ _ _ c.copy.ensures (let m = c.args.m.now in
    let chunk = c.args.chunk in
    let blocks = rewritten_blocks m c.args.tracks c.args.patterns (first_block Pattern chunk) in
    let room = start-room m chunk blocks c.requires.0.inside c.args.out.now c.requires.1 in
    omega (arith, front-size m chunk blocks c.requires.0.inside))) write-data.ensures
    c.put32.ensures
