use mathlib.Core.Path.{refl}
use native.Mathlib.Omega.{arith}
use Rattle.packed_rows.proofs.ListingCells.{cell-count, cell-turn, cell-last}
use Rattle.packed_rows.proofs.comparer.list_cell.Goals as goal

pub overflow_add-n : goal.overflow_add-n
overflow_add-n c = omega (arith, cell-count c.loop-field.invariant)

pub overflow_add-count : goal.overflow_add-count
overflow_add-count c = omega (arith, cell-count c.loop-field.invariant)

pub loop-field-preserved : goal.loop-field-preserved
loop-field-preserved c =
    let list = c.list-count in
    cell-turn c.loop-field.invariant (omega arith) _ list.result _ refl list.ensures.0 list.ensures.2

pub returns : goal.returns
returns c = cell-last c.loop-field.invariant (omega arith)
