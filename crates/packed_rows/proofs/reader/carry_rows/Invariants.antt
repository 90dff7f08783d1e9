use Prim.Native.Nat.{◌*◌, ◌-◌}
use Rattle.packed_rows.proofs.CarryingRows.{CarryingRows}
use Rattle.packed_rows.proofs.reader.carry_rows.Given as goal

abbrev pub invariant-loop-row : goal.invariant-loop-row
invariant-loop-row l = CarryingRows l.s l.rows l.tracks l.out l.at (l.row * (l.tracks * 6)) (l.rows - l.row)
