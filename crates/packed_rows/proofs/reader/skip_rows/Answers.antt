use Prim.Native.Nat.{◌+◌, ◌*◌, ◌-◌}
use native.Mathlib.Omega.{arith}
use Rattle.packed_rows.proofs.SkippingRows.{skips-last, skips-ahead, skips-turn}
use Rattle.packed_rows.proofs.reader.skip_rows.Goals as goal

pub skip_row-at-requires : goal.skip_row-at-requires
skip_row-at-requires c =
    let loop = c.loop in (
      c.requires.tracks * 6,
      skips-ahead c.args.s.now c.args.n c.requires loop.at _ (loop.invariant c.requires) (c.args.n - (loop.counter + 1)) (omega arith),
    )

pub loop-preserved : goal.loop-preserved
loop-preserved c =
    let loop = c.loop in
    λ all.
    skips-turn c.args.s.now c.args.n all loop.at _ (loop.invariant all) (c.args.n - (loop.counter + 1)) (omega arith)
    c.skip_row-at.result c.skip_row-at.ensures

pub returns : goal.returns
returns c =
    let loop = c.loop in
    λ all. skips-last c.args.s.now c.args.n all loop.at _ (loop.invariant all) (omega arith)
