use Prim.Native.Nat.{◌+◌, ◌-◌, ◌*◌}
use mathlib.Core.Path.{◌≡◌, refl}
use native.Mathlib.Omega.{arith}
use Rattle.blocks.specs.Sizes.{places_from}
use Rattle.acceptance.proofs.Ahead.{every_any, blocks-first, blocks-inside, blocks-part, blocks-turn}
use Rattle.records.proofs.WritingRecords.{points-size, points-last}
use Rattle.records.proofs.write_points.Goals as goal

pub loop-point-init : goal.loop-point-init
loop-point-init c =
    let args = c.args in
    blocks-first args.out.now (every_any (λ p. tt) (places_from (λ p. 1) 32 0))
    (omega (arith, points-size args.m.now args.kind args.version args.at, c.requires.1))

pub slice_bounds-write_point-count : goal.slice_bounds-write_point-count
slice_bounds-write_point-count c = blocks-inside c.args.out.now c.loop-point.out c.loop-point.invariant

pub write_point-requires : goal.write_point-requires
write_point-requires c =
    let loop = c.loop-point in (
      c.envelope_sections-sections.ensures,
      c.requires.0,
      blocks-part c.args.out.now loop.out loop.invariant (omega arith),
    )

pub loop-point-preserved : goal.loop-point-preserved
loop-point-preserved c =
    let loop = c.loop-point in
    let less : 32 - (loop.point + 1) ≡ 32 - loop.point - 1 = omega arith in
    let next : 4 * (loop.point + 1) ≡ 4 * loop.point + 4 = omega arith in
    rw (less, next) (blocks-turn c.args.out.now loop.out loop.invariant (omega arith) _ (refl, c.write_point.ensures) refl)

pub returns : goal.returns
returns c =
    let loop = c.loop-point in
    let args = c.args in
    points-last args.m.now args.kind args.version args.at args.out.now loop.out loop.invariant (omega arith)
