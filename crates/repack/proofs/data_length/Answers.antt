use Prim.Native.Nat.{◌+◌, ◌-◌}
use mathlib.Core.Path.{◌≡◌, refl}
use native.Mathlib.Nat.{sub-zero}
use native.Mathlib.Omega.{arith}
use Rattle.repack.proofs.PassingPatterns.{pattern-ready, patterns-from, counting-first, counting-turn}
use Rattle.repack.proofs.PassingPatterns.{counting-small, counting-last, data-shorter}
use Rattle.repack.proofs.data_length.Goals as goal

pub loop-init : goal.loop-init
loop-init c = rw (sub-zero c.args.patterns) (counting-first (patterns-from c.args.chunk c.requires c.block_at-at.ensures.0))

pub block_length-length-requires : goal.block_length-length-requires
block_length-length-requires c =
    let loop = c.loop in
    let ready = pattern-ready (c.args.patterns - loop.counter) (omega arith) loop.invariant.rest in
    (ready.0, ready.2)

pub overflow_add-length : goal.overflow_add-length
overflow_add-length c =
    let small = counting-small c.loop.invariant (omega arith) c.block_length-length.ensures refl in
    omega (arith, small.0, data-shorter c.args.chunk c.requires c.block_at-at.ensures.0)

pub overflow_add-at : goal.overflow_add-at
overflow_add-at c =
    let small = counting-small c.loop.invariant (omega arith) c.block_length-length.ensures c.size-at.ensures.0 in
    omega (arith, small.1)

pub loop-preserved : goal.loop-preserved
loop-preserved c =
    let left = c.args.patterns - c.loop.counter in
    let less : c.args.patterns - (c.loop.counter + 1) ≡ left - 1 = omega arith in
    rw less (counting-turn c.loop.invariant (omega arith) c.block_length-length.ensures c.size-at.ensures.0)

pub returns : goal.returns
returns c = counting-last c.loop.invariant c.args.chunk c.block_at-at.ensures.0 (omega arith)
