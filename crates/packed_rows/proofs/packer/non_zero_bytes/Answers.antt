use Prim.Native.Nat.{◌/◌}
use native.Mathlib.Omega.{arith}
use lib.ListN.{length}
use Rattle.packed_rows.proofs.Counting.{blocks-parts, blocks-next, blocks-past}
use Rattle.packed_rows.proofs.Storing.{non-zeros-most}
use Rattle.packed_rows.proofs.packer.non_zero_bytes.Goals as goal

pub loop-block-init : goal.loop-block-init
loop-block-init c =
    let bytes = c.args.bytes.now in
    rw (c.as_chunks.ensures.front, c.as_chunks.ensures.back, blocks-parts 192 (length bytes / 192) bytes) (omega arith)

pub overflow_add-count : goal.overflow_add-count
overflow_add-count c =
    omega (
      arith,
      blocks-next c.as_chunks.result.0.now c.as_chunks.result.1.now c.loop-block.block-index c.loop-block-test.true,
      non-zeros-most c.args.bytes.now,
    )

pub loop-block-preserved : goal.loop-block-preserved
loop-block-preserved c =
    omega (arith, blocks-next c.as_chunks.result.0.now c.as_chunks.result.1.now c.loop-block.block-index c.loop-block-test.true)

pub overflow_add-result : goal.overflow_add-result
overflow_add-result c =
    let last = rw (blocks-past c.as_chunks.result.0.now c.as_chunks.result.1.now c.loop-block.block-index c.loop-block-test.false) at c.loop-block.invariant in
    omega (arith, non-zeros-most c.args.bytes.now)
