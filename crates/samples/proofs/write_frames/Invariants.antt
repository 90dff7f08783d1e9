use Prim.Native.Nat.{ℕ, ◌+◌, ◌*◌}
use Rattle.samples.specs.Shown.{frame16}
use Rattle.samples.proofs.WritingFrames.{Writing}
use Rattle.samples.proofs.write_frames.Given as goal

abbrev pub invariant-loop-i : goal.invariant-loop-i
invariant-loop-i l = Writing (λ (k : ℕ). frame16 l.m l.bytes (l.at + 8 + k * l.bytes)) l.frames l.out l.i
