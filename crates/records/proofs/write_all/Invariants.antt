use Rattle.records.proofs.Accepting.{KindsFrom}
use Rattle.records.proofs.write_all.Given as goal

abbrev pub invariant-loop-kind : goal.invariant-loop-kind
invariant-loop-kind l = KindsFrom l.m l.l l.fn.out l.out l.to l.kind-index
