use Prim.Native.Nat.{◌+◌, ◌-◌, ◌<◌}
use mathlib.Core.Path.{◌≡◌}
use native.Mathlib.Nat.{sub-zero}
use native.Mathlib.Omega.{arith}
use Rattle.blocks.proofs.Leading.{leading-first, leading-turn}
use Rattle.acceptance.proofs.Ahead.{blocks-first, blocks-inside, blocks-each, blocks-small}
use Rattle.acceptance.proofs.Ahead.{blocks-part, blocks-turn, blocks_last}
use Rattle.records.proofs.write_blocks.Goals as goal

pub loop-init : goal.loop-init
loop-init c = rw (sub-zero c.args.count) (blocks-first c.args.out.now c.requires.1 c.requires.2, leading-first)

pub slice_bounds-write_record-count : goal.slice_bounds-write_record-count
slice_bounds-write_record-count c = blocks-inside c.args.out.now c.loop.out c.loop.invariant.0

pub write_record-to-requires : goal.write_record-to-requires
write_record-to-requires c =
    let out = c.args.out.now in
    let loop = c.loop in
    let some : 0 < c.args.count - loop.counter = omega arith in
    (blocks-each out loop.out loop.invariant.0 some, blocks-part out loop.out loop.invariant.0 some)

pub overflow_add-to : goal.overflow_add-to
overflow_add-to c =
    let loop = c.loop in
    let small = blocks-small c.args.out.now loop.out loop.invariant.0 (omega arith) in
    omega (arith, small, c.write_record-to.ensures.0)

pub overflow_add-at : goal.overflow_add-at
overflow_add-at c =
    omega (arith, c.loop.invariant.1.room, c.requires.0, c.ranges.count.fits, c.loop-test.true, c.size-at.ensures.1)

pub loop-preserved : goal.loop-preserved
loop-preserved c =
    let loop = c.loop in
    let some : 0 < c.args.count - loop.counter = omega arith in
    let less : c.args.count - (loop.counter + 1) ≡ c.args.count - loop.counter - 1 = omega arith in
    rw less (
      blocks-turn c.args.out.now loop.out loop.invariant.0 some _ c.write_record-to.ensures c.size-at.ensures.0,
      leading-turn loop.invariant.1 some c.size-at.ensures,
    )

pub returns : goal.returns
returns c = blocks_last c.args.out.now c.loop.out c.loop.invariant.0 (omega arith)
