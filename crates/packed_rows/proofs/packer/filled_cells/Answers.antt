use Prim.Native.Nat.{◌+◌, ◌*◌}
use mathlib.Core.Path.{◌≡◌}
use native.Mathlib.Omega.{arith}
use Rattle.packed_rows.proofs.Counting.{byte_one, counts-turn}
use Rattle.packed_rows.proofs.packer.filled_cells.Goals as goal

pub loop-cell-preserved : goal.loop-cell-preserved
loop-cell-preserved c =
    let next : (c.loop-cell.cell + 1) * 6 ≡ c.loop-cell.cell * 6 + 6 = omega arith in
    rw (byte_one c.filled.result, c.filled.ensures, next) (counts-turn _ _ _ _ c.loop-cell.invariant (omega arith))
