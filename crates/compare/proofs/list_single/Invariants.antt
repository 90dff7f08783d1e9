use Rattle.compare.proofs.WalkingRecords.{Single}
use Rattle.compare.proofs.list_single.Given as goal

abbrev pub invariant-loop-number : goal.invariant-loop-number
invariant-loop-number l = Single l.kind l.start l.end l.n l.initial.out l.out l.count l.number
