use Prim.Native.Nat.{◌-◌}
use mathlib.Core.Path.{◌≡◌}
use lib.ListN.{length}
use Rattle.packed_rows.proofs.Repacking.{RepackingRows}
use Rattle.packed_rows.proofs.repacker.repack_rows.Given as goal

abbrev pub invariant-loop : goal.invariant-loop
invariant-loop l = (length l.list ≡ 256) × RepackingRows l.s l.rows l.tracks l.initial.out l.out l.at l.to (l.rows - l.counter)
