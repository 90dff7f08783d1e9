use Prim.Native.Nat.{ℕ, ◌-◌, ◌≤◌}
use lib.ListN.{length}
use Rattle.numbers.specs.Numbers.{SmallPlace}
use Rattle.layout.specs.Steps.{OthersTo}
use Rattle.layout.proofs.walk.skip_others.Given as goal

abbrev pub invariant-loop-at : goal.invariant-loop-at
invariant-loop-at l = ((n : ℕ) × OthersTo l.m n l.start l.at) × (l.start ≤ l.at) × SmallPlace l.at

abbrev pub decreases-loop-at : goal.decreases-loop-at
decreases-loop-at l = length l.m - l.at
