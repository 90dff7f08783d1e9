use Prim.Native.Nat.{◌+◌}
use native.Mathlib.Omega.{arith}
use Rattle.packed_rows.proofs.Counting.{word-filled}
use Rattle.packed_rows.proofs.packer.filled.Goals as goal

pub returns : goal.returns
returns c =
    let quad = c.quad in
    word-filled c.args.cells.now c.args.at (quad.result + c.quad-2.result) c.requires
    (omega (arith, quad.ensures.0, c.quad-2.ensures.0))
