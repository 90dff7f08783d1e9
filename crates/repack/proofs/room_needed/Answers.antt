use mathlib.Core.Path.{refl}
use native.Mathlib.Omega.{arith}
use Rattle.blocks.specs.Sizes.{first_block}
use Rattle.blocks.specs.declared.BlockKind.TheVariants.{Pattern}
use Rattle.repack.proofs.PassingPatterns.{data-shorter}
use Rattle.repack.proofs.WritingModule.{room-enough, room-counted}
use Rattle.repack.specs.Steps.{rewritten_blocks}
use Rattle.repack.proofs.room_needed.Goals as goal

pub returns-then-m-room : goal.returns-then-m-room
returns-then-m-room c =
    let m = c.args.m.now in
    let chunk = c.args.chunk in
    room-enough m chunk (rewritten_blocks m c.args.tracks c.args.patterns (first_block Pattern chunk))
    c.requires.inside (data-shorter chunk c.requires refl) c.if-m-room.true

pub overflow_add-result : goal.overflow_add-result
overflow_add-result c =
    let inside = c.requires.inside in
    omega (arith, c.data_length-rewritten.ensures, data-shorter c.args.chunk c.requires refl)

pub returns : goal.returns
returns c =
    let m = c.args.m.now in
    let chunk = c.args.chunk in
    room-counted m chunk (rewritten_blocks m c.args.tracks c.args.patterns (first_block Pattern chunk))
    c.requires.inside c.data_length-rewritten.ensures
