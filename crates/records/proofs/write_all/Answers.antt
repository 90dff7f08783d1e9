use native.Mathlib.Omega.{arith}
use Rattle.records.proofs.Accepting.{all-lengths, kinds-first, kinds-inside, kinds-part, kinds-small, kinds-turn, kinds-last}
use Rattle.records.proofs.write_all.Goals as goal

pub write_summary-requires : goal.write_summary-requires
write_summary-requires c = omega (arith, all-lengths c.args.m.now c.args.l, c.requires.1)

pub loop-kind-init : goal.loop-kind-init
loop-kind-init c = kinds-first c.args.m.now c.args.l c.args.out.now _ c.write_summary.ensures

pub slice_bounds-write_records-count : goal.slice_bounds-write_records-count
slice_bounds-write_records-count c = kinds-inside c.args.m.now c.args.l c.loop-kind.kind-index c.requires.1 c.loop-kind.invariant

pub write_records-to-requires : goal.write_records-to-requires
write_records-to-requires c =
    (c.requires.0, kinds-part c.args.m.now c.args.l c.loop-kind.kind-index c.requires.1 c.loop-kind.invariant c.loop-kind-test.true)

pub overflow_add-to : goal.overflow_add-to
overflow_add-to c =
    omega (
      arith,
      kinds-small c.args.m.now c.args.l c.loop-kind.kind-index c.requires.1 c.loop-kind.invariant c.loop-kind-test.true,
      c.write_records-to.ensures.0,
    )

pub loop-kind-preserved : goal.loop-kind-preserved
loop-kind-preserved c =
    kinds-turn c.args.m.now c.args.l c.loop-kind.kind-index c.requires.1 c.loop-kind.invariant c.loop-kind-test.true _ c.write_records-to.ensures

pub returns : goal.returns
returns c = kinds-last c.args.m.now c.args.l c.loop-kind.kind-index c.requires.1 c.loop-kind.invariant c.loop-kind-test.false
