use Rattle.compare.proofs.ListingAll.{KindsFrom}
use Rattle.compare.proofs.list_all.Given as goal

abbrev pub invariant-loop-kind : goal.invariant-loop-kind
invariant-loop-kind l = KindsFrom l.m l.l l.k l.j l.fn.out l.out l.n l.kind-index
