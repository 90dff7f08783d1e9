use mathlib.Core.Path.{◌≡◌}
use mathlib.Core.Bool.{◌&&◌}
use lib.ListN.{drop}
use Rattle.differences.specs.Differences.{equal_bytes}
use Rattle.differences.proofs.equal_all.Given as goal

abbrev pub invariant-loop-i : goal.invariant-loop-i
invariant-loop-i l = (l.same && equal_bytes (drop l.i l.a) (drop l.i l.b)) ≡ equal_bytes l.a l.b
