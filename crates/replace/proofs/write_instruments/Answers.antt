use Prim.Native.Nat.{◌+◌, ◌-◌, ◌<◌}
use mathlib.Core.Path.{◌≡◌}
use native.Mathlib.Nat.{sub-zero}
use native.Mathlib.Omega.{arith}
use Rattle.acceptance.proofs.Ahead.{blocks-inside, blocks-part, blocks-small}
use Rattle.replace.proofs.WritingInstruments.{instrument-size, clearing-begins, clearing-inside, clearing-small, clearing-turn, clearing-ends}
use Rattle.replace.proofs.write_instruments.Goals as goal

pub loop-init : goal.loop-init
loop-init c =
    rw (sub-zero c.args.instruments)
    (clearing-begins c.args.inst c.block_at-at.ensures.0 c.args.out.now c.requires.0 c.requires.1)

pub slice_bounds-write_instrument-count : goal.slice_bounds-write_instrument-count
slice_bounds-write_instrument-count c = blocks-inside c.args.out.now c.loop.out c.loop.invariant.blocks

pub write_instrument-cleared-requires : goal.write_instrument-cleared-requires
write_instrument-cleared-requires c =
    let out = c.args.out.now in
    let loop = c.loop in
    let some : 0 < c.args.instruments - loop.counter = omega arith in
    let inside = clearing-inside out loop.out loop.invariant some in (
      inside,
      omega (
        arith,
        blocks-part out loop.out loop.invariant.blocks some,
        instrument-size c.args.m.now c.args.sample c.args.frames loop.at inside,
      ),
    )

pub overflow_add-cleared : goal.overflow_add-cleared
overflow_add-cleared c =
    let loop = c.loop in
    let some : 0 < c.args.instruments - loop.counter = omega arith in
    omega (arith, clearing-small c.args.out.now loop.out loop.invariant some c.write_instrument-cleared.ensures.0)

pub overflow_add-to : goal.overflow_add-to
overflow_add-to c =
    let out = c.args.out.now in
    let loop = c.loop in
    let some : 0 < c.args.instruments - loop.counter = omega arith in
    omega (
      arith,
      blocks-small out loop.out loop.invariant.blocks some,
      instrument-size c.args.m.now c.args.sample c.args.frames loop.at (clearing-inside out loop.out loop.invariant some),
    )

pub overflow_add-at : goal.overflow_add-at
overflow_add-at c =
    let loop = c.loop in
    let some : 0 < c.args.instruments - loop.counter = omega arith in
    omega (arith, clearing-inside c.args.out.now loop.out loop.invariant some)

pub loop-preserved : goal.loop-preserved
loop-preserved c =
    let loop = c.loop in
    let less : c.args.instruments - (loop.counter + 1) ≡ c.args.instruments - loop.counter - 1 = omega arith in
    rw less (clearing-turn c.args.out.now loop.out loop.invariant (omega arith) _ c.write_instrument-cleared.ensures)

pub returns : goal.returns
returns c =
    let loop = c.loop in
    clearing-ends c.args.inst c.block_at-at.ensures.0 c.args.out.now loop.out loop.invariant (omega arith)
