use native.Mathlib.Omega.{arith}
use Rattle.packed_rows.proofs.Carrying.{skipping-inside, skipping-ready, skipping-turn, skipping-last}
use Rattle.packed_rows.proofs.reader.skip_row.Goals as goal

pub bounds-s-at : goal.bounds-s-at
bounds-s-at c =
    let loop = c.loop-at in
    omega (
      arith,
      skipping-inside c.args.s.now c.args.start c.requires.0 c.requires.1 loop.at
          (loop.invariant c.requires.0 c.requires.1),
    )

pub bounds-s-at-in-loop-at : goal.bounds-s-at-in-loop-at
bounds-s-at-in-loop-at c =
    let loop = c.loop-at in
    omega (
      arith,
      skipping-ready c.args.s.now c.args.start c.requires.0 c.requires.1 loop.at
          (loop.invariant c.requires.0 c.requires.1) c.loop-at-test.true,
    )

pub loop-at-preserved : goal.loop-at-preserved
loop-at-preserved c =
    let loop = c.loop-at in
    λ size ahead.
    skipping-turn c.args.s.now c.args.start size ahead loop.at (loop.invariant size ahead)
    c.loop-at-test.true c.entry_length-at.result c.entry_length-at.ensures.0

pub overflow_add-result : goal.overflow_add-result
overflow_add-result c =
    let loop = c.loop-at in
    omega (
      arith,
      skipping-inside c.args.s.now c.args.start c.requires.0 c.requires.1 loop.at
          (loop.invariant c.requires.0 c.requires.1),
    )

pub returns : goal.returns
returns c =
    let loop = c.loop-at in
    λ size ahead.
    skipping-last c.args.s.now c.args.start size ahead loop.at (loop.invariant size ahead) c.loop-at-test.false
