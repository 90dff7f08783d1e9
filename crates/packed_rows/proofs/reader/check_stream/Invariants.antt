use Prim.Native.Nat.{◌≤◌, ◌-◌}
use mathlib.Core.Path.{◌≡◌}
use lib.ListN.{length, drop}
use Rattle.packed_rows.specs.Stream.{reading, read_stream}
use Rattle.packed_rows.specs.Answers.{verdict_of_reading}
use Rattle.packed_rows.proofs.reader.check_stream.Given as goal

abbrev pub invariant-loop-left : goal.invariant-loop-left
invariant-loop-left l =
    (l.at ≤ length l.s) × (verdict_of_reading (reading l.tracks l.left l.at (drop l.at l.s)) ≡ verdict_of_reading (read_stream l.rows l.tracks l.s))

abbrev pub decreases-loop-left : goal.decreases-loop-left
decreases-loop-left l = length l.s - l.at
