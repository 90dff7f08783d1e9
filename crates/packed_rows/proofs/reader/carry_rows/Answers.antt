use Prim.Native.Nat.{◌+◌, ◌*◌, ◌-◌}
use mathlib.Core.Path.{◌≡◌}
use native.Mathlib.Nat.{zero-mul, sub-zero}
use native.Mathlib.Omega.{arith}
use Rattle.packed_rows.proofs.CarryingRows.{rows-first, rows-ahead, rows-turn, rows_last}
use Rattle.packed_rows.proofs.reader.carry_rows.Goals as goal

pub loop-row-init : goal.loop-row-init
loop-row-init c = rw (zero-mul (c.args.tracks * 6), sub-zero c.args.rows) (rows-first _ _ _ _ c.requires.0 c.requires.1)

pub carry_row-at-requires : goal.carry_row-at-requires
carry_row-at-requires c =
    let loop = c.loop-row in
    rows-ahead _ _ _ _ _ _ _ loop.invariant (c.args.rows - (loop.row + 1)) (omega arith) _ (omega arith)

pub loop-row-preserved : goal.loop-row-preserved
loop-row-preserved c =
    let loop = c.loop-row in
    let width = c.args.tracks * 6 in
    let next : (loop.row + 1) * width ≡ loop.row * width + width = omega arith in
    rw next
    (rows-turn _ _ _ _ _ _ _ loop.invariant (c.args.rows - (loop.row + 1)) (omega arith) _ (omega arith) _ c.carry_row-at.result
    c.carry_row-at.ensures)

pub returns : goal.returns
returns c = rows_last _ _ _ _ _ _ _ c.loop-row.invariant (omega arith)
