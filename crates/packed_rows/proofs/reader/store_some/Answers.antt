use Prim.Native.Nat.{◌+◌, ◌%◌}
use mathlib.Core.Path.{ap, refl}
use borrow.Author.Rules.{rules}
use native.Mathlib.Omega.{arith}
use Rattle.packed_rows.proofs.Fields.{stores-turn}
use Rattle.packed_rows.proofs.reader.store_some.Goals as goal

pub loop-field-preserved : goal.loop-field-preserved
loop-field-preserved c =
    let loop = c.loop-field in
    let pick = c.pick in
    stores-turn _ _ _ _ _ _ _ _ _ _ loop.invariant (omega arith) (search rules) (loop.rest % 2) pick.result _ refl
    pick.ensures (ap (loop.next +◌) c.from-next.ensures)
