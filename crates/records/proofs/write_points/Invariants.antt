use Prim.Native.Nat.{ℕ, ◌-◌, ◌*◌}
use Rattle.records.specs.Steps.{point_record}
use Rattle.acceptance.proofs.Ahead.{AheadBlocks}
use Rattle.records.proofs.write_points.Given as goal

abbrev pub invariant-loop-point : goal.invariant-loop-point
invariant-loop-point l =
    AheadBlocks (point_record l.m l.kind l.version l.at) (λ (p : ℕ). 1) (λ (p : ℕ). Unit {0}) 32 0 l.initial.out l.out l.point (4 * l.point)
    (32 - l.point)
