use borrow.Author.Rules.{rules}
use Rattle.blocks.specs.Sizes.{first_block}
use Rattle.blocks.specs.declared.BlockKind.TheVariants.{Pattern}
use Rattle.repack.proofs.WritingModule.{front-room, rest-length, rest-room, module-written}
use Rattle.repack.specs.Steps.{rewritten_blocks}
use native.Mathlib.Omega.{arith}
use Rattle.byte_copy.proofs.Copying.{copied-in}
use Rattle.repack.proofs.write_module.Goals as goal

pub write_front-end-requires : goal.write_front-end-requires
write_front-end-requires c =
    let m = c.args.m.now in
    let chunk = c.args.chunk in (
      c.requires.0,
      front-room m chunk (rewritten_blocks m c.args.tracks c.args.patterns (first_block Pattern chunk))
          c.requires.0.inside c.requires.1,
    )

pub slice_bounds-copy-count-2 : goal.slice_bounds-copy-count-2
slice_bounds-copy-count-2 c =
    let m = c.args.m.now in
    let chunk = c.args.chunk in
    let write-front = c.write_front-end in
    let room = rest-room m chunk (rewritten_blocks m c.args.tracks c.args.patterns (first_block Pattern chunk))
    c.requires.0.inside c.args.out.now c.requires.1 write-front.ensures in
    search rules

pub copy-requires : goal.copy-requires
copy-requires c =
    let m = c.args.m.now in
    let chunk = c.args.chunk in
    let blocks = rewritten_blocks m c.args.tracks c.args.patterns (first_block Pattern chunk) in
    let out = c.args.out.now in
    let write-front = c.write_front-end in
    let room = rest-room m chunk blocks c.requires.0.inside out c.requires.1 write-front.ensures in
    omega (arith, rest-length m chunk blocks c.requires.0.inside out c.requires.1 write-front.ensures)

pub overflow_add-result : goal.overflow_add-result
overflow_add-result c =
    let m = c.args.m.now in
    let chunk = c.args.chunk in
    let write-front = c.write_front-end in
    let room = rest-room m chunk (rewritten_blocks m c.args.tracks c.args.patterns (first_block Pattern chunk))
    c.requires.0.inside c.args.out.now c.requires.1 write-front.ensures in
    search rules

pub returns : goal.returns
returns c =
    let m = c.args.m.now in
    let chunk = c.args.chunk in
    let write-front = c.write_front-end in
    module-written m chunk (rewritten_blocks m c.args.tracks c.args.patterns (first_block Pattern chunk))
    c.requires.0.inside c.args.out.now c.requires.1 write-front.ensures
    (copied-in _ _ _ c.copy.ensures (let m = c.args.m.now in
    let chunk = c.args.chunk in
    let blocks = rewritten_blocks m c.args.tracks c.args.patterns (first_block Pattern chunk) in
    let out = c.args.out.now in
    let write-front = c.write_front-end in
    let room = rest-room m chunk blocks c.requires.0.inside out c.requires.1 write-front.ensures in
    omega (arith, rest-length m chunk blocks c.requires.0.inside out c.requires.1 write-front.ensures)))
