use Prim.Native.Nat.{◌-◌}
use Rattle.replace.proofs.WritingInstruments.{Clearing}
use Rattle.replace.proofs.write_instruments.Given as goal

abbrev pub invariant-loop : goal.invariant-loop
invariant-loop l =
    Clearing l.m l.sample l.frames l.instruments l.initial.at l.initial.out l.out l.at l.to l.cleared (l.instruments - l.counter)
