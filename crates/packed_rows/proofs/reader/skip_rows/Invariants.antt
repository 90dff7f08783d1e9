use Prim.Native.Nat.{◌-◌}
use Rattle.packed_rows.specs.Steps.{MoreRows}
use Rattle.packed_rows.proofs.SkippingRows.{SkippingRows}
use Rattle.packed_rows.proofs.reader.skip_rows.Given as goal

abbrev pub invariant-loop : goal.invariant-loop
invariant-loop l = (all : MoreRows l.s l.n) → SkippingRows l.s l.n all l.at (l.n - l.counter)
