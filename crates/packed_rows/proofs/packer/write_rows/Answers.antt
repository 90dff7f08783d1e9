use Prim.Native.Nat.{◌+◌, ◌*◌, ◌≤◌}
use lib.ListN.{length-take, length-drop}
use native.Mathlib.Nat.{mul-le-mul}
use native.Mathlib.Omega.{arith}
use Rattle.packed_rows.proofs.Writing.{rows-room, rows-turn}
use Rattle.packed_rows.proofs.packer.write_rows.Goals as goal

pub write_row-at-requires : goal.write_row-at-requires
write_row-at-requires c =
    let loop = c.loop-row in
    let room = rows-room c.args.cells.now loop.row c.args.rows c.args.tracks (omega arith) loop.invariant.1 in
    let next : loop.row + 1 ≤ c.args.rows = omega arith in
    let wide : c.args.tracks * 6 ≤ c.args.tracks * 6 = omega arith in
    let inside = mul-le-mul next wide in
    (simp (length-take, length-drop) (omega arith), omega arith, omega arith, omega arith)

pub loop-row-preserved : goal.loop-row-preserved
loop-row-preserved c =
    let loop = c.loop-row in (
      omega arith,
      rows-turn c.args.cells.now loop.row c.args.rows c.args.tracks (omega arith) loop.invariant.1
          c.write_row-at.auto.out c.write_row-at.ensures.0 c.write_row-at.ensures.1,
    )
