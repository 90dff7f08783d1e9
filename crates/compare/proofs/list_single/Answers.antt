use native.Mathlib.Omega.{arith}
use Rattle.compare.proofs.WalkingRecords.{single-first, single-turn, single-last}
use Rattle.compare.proofs.list_single.Goals as goal

pub loop-number-init : goal.loop-number-init
loop-number-init c = single-first c.requires.0

pub overflow_add-n : goal.overflow_add-n
overflow_add-n c = omega (arith, c.requires, c.loop-number-test.true, c.loop-number.invariant.counts)

pub overflow_add-count : goal.overflow_add-count
overflow_add-count c =
    let loop = c.loop-number in
    let loop-test = c.loop-number-test in
    omega (arith, c.requires, loop-test.true, loop.invariant.counts, c.list_whole-count.ensures.1)

pub loop-number-preserved : goal.loop-number-preserved
loop-number-preserved c =
    let loop = c.loop-number in
    let loop-test = c.loop-number-test in
    let list-whole = c.list_whole-count in
    single-turn loop.invariant loop-test.true _ _ list-whole.ensures.0 list-whole.ensures.2

pub returns : goal.returns
returns c = single-last c.loop-number.invariant c.requires.1 c.loop-number-test.false
