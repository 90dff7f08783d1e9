use Prim.Native.Nat.{◌-◌}
use Rattle.compare.proofs.WalkingRecords.{Common}
use Rattle.compare.proofs.list_common.Given as goal

abbrev pub invariant-loop-number : goal.invariant-loop-number
invariant-loop-number l =
    Common l.m l.l l.k l.j l.kind l.common l.n l.initial.out l.out l.at l.to l.number l.count (l.number-end - l.number)
