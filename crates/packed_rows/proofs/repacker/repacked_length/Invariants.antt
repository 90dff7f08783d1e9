use Prim.Native.Nat.{◌-◌}
use Rattle.packed_rows.proofs.Repacking.{CountingRows}
use Rattle.packed_rows.proofs.repacker.repacked_length.Given as goal

abbrev pub invariant-loop : goal.invariant-loop
invariant-loop l = CountingRows l.s l.rows l.tracks l.at l.length (l.rows - l.counter)
