use Prim.Native.Nat.{◌+◌}
use mathlib.Core.Path.{◌≡◌}
use lib.ListN.{length}
use Rattle.cells.specs.Cells.{non_zeros}
use Rattle.packed_rows.proofs.Counting.{blocks_left}
use Rattle.packed_rows.proofs.packer.non_zero_bytes.Given as goal

abbrev pub invariant-loop-block : goal.invariant-loop-block
invariant-loop-block l = l.count + length (non_zeros (blocks_left l.blocks l.rest l.block-index)) ≡ length (non_zeros l.bytes)
