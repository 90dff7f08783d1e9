use Rattle.numbers.specs.Numbers.{byte_at}
use Rattle.numbers.proofs.Each.{Filling}
use Rattle.numbers.proofs.copy.Given as goal

abbrev pub invariant-loop-i : goal.invariant-loop-i
invariant-loop-i l = Filling (byte_at l.m) l.first l.initial.out l.out l.i
