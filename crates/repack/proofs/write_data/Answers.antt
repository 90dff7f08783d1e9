use Prim.Native.Nat.{◌+◌, ◌-◌, ◌<◌}
use mathlib.Core.Path.{◌≡◌}
use native.Mathlib.Nat.{sub-zero}
use native.Mathlib.Omega.{arith}
use Rattle.repack.proofs.PassingPatterns.{pattern-ready, patterns-from, blocks-first, blocks-enough}
use Rattle.repack.proofs.PassingPatterns.{blocks-inside, blocks-room, blocks-part, blocks-small}
use Rattle.repack.proofs.PassingPatterns.{blocks-turn, blocks_last}
use Rattle.repack.proofs.write_data.Goals as goal

pub loop-init : goal.loop-init
loop-init c =
    let chunk = c.args.chunk in (
      rw (sub-zero c.args.patterns) (blocks-first c.args.out.now (patterns-from chunk c.requires.0 c.block_at-at.ensures.0)),
      blocks-enough c.args.m.now chunk c.args.patterns c.args.tracks c.requires.1
          c.block_at-at.ensures.0,
    )

pub slice_bounds-write_block-count : goal.slice_bounds-write_block-count
slice_bounds-write_block-count c = blocks-inside _ c.loop.out c.loop.invariant.0 c.loop.invariant.1

pub write_block-to-requires : goal.write_block-to-requires
write_block-to-requires c =
    let loop = c.loop in
    let some : 0 < c.args.patterns - loop.counter = omega arith in
    let ready = pattern-ready (c.args.patterns - loop.counter) some loop.invariant.0.rest in
    (ready.0, ready.2, blocks-part _ loop.out loop.invariant.0 loop.invariant.1 some)

pub overflow_add-to : goal.overflow_add-to
overflow_add-to c =
    let loop = c.loop in
    let room = blocks-room _ loop.out loop.invariant.0 loop.invariant.1 (omega arith) in
    omega (arith, room, c.write_block-to.ensures.0)

pub overflow_add-at : goal.overflow_add-at
overflow_add-at c =
    let loop = c.loop in
    let small = blocks-small _ loop.out loop.invariant.0 loop.invariant.1 (omega arith) c.size-at.ensures.0 in
    omega arith

pub loop-preserved : goal.loop-preserved
loop-preserved c =
    let loop = c.loop in
    let less : c.args.patterns - (loop.counter + 1) ≡ c.args.patterns - loop.counter - 1 = omega arith in (
      rw less (blocks-turn _ loop.out loop.invariant.0 loop.invariant.1 _ (omega arith) c.write_block-to.ensures c.size-at.ensures.0),
      loop.invariant.1,
    )

pub returns : goal.returns
returns c =
    let loop = c.loop in
    blocks_last c.args.m.now c.args.chunk c.args.patterns c.args.tracks _ loop.out
    loop.invariant.0 c.block_at-at.ensures.0 (omega arith)
