use Prim.Native.Nat.{◌+◌, ◌-◌}
use mathlib.Core.Path.{◌≡◌}
use native.Mathlib.Omega.{arith}
use Rattle.numbers.proofs.AllBytes.{slice-bytes}
use Rattle.compare.proofs.EntryCounts.{count_small}
use Rattle.compare.proofs.WalkingRecords.{first-low, walked-first, common-first, common-small, common-number}
use Rattle.compare.proofs.WalkingRecords.{common-at, common-to, common-there, common-count, common-turn, common-last}
use Rattle.compare.proofs.list_common.Goals as goal

pub overflow_add-number-end : goal.overflow_add-number-end
overflow_add-number-end c =
    let bytes = slice-bytes c.args.m.now c.type_inv.m in
    omega (
      arith,
      c.requires.1,
      count_small c.args.m.now bytes c.args.l c.requires.0.first c.args.kind,
      first-low c.args.kind,
      c.first_of-first.ensures,
    )

pub loop-number-init : goal.loop-number-init
loop-number-init c =
    let kind = c.args.kind in
    let block-kind = c.from-blocks in
    let first = c.first_of-first in
    let all : first.result + c.args.common - first.result ≡ c.args.common = omega arith in
    rw all
    (common-first first.ensures
    (walked-first c.args.m.now c.args.l kind block-kind.ensures c.chunk_of.ensures first.ensures c.block_at-at.ensures)
    (walked-first c.args.k.now c.args.j kind block-kind.ensures c.chunk_of-2.ensures first.ensures c.block_at-to.ensures))

pub overflow_cast-number : goal.overflow_cast-number
overflow_cast-number c =
    omega (
      arith,
      common-number c.loop-number.invariant (slice-bytes c.args.m.now c.type_inv.m) c.requires.0
          c.requires.1 c.requires.2 (omega arith),
    )

pub overflow_add-n : goal.overflow_add-n
overflow_add-n c =
    omega (arith, common-small c.loop-number.invariant c.requires.3)

pub list_block-count-requires : goal.list_block-count-requires
list_block-count-requires c =
    let loop = c.loop-number in (
      common-there loop.invariant (slice-bytes c.args.m.now c.type_inv.m) c.requires.0 c.requires.1
          c.requires.2 (omega arith),
      common-small loop.invariant c.requires.3,
    )

pub overflow_add-count : goal.overflow_add-count
overflow_add-count c =
    let loop = c.loop-number in
    omega (
      arith,
      common-count loop.invariant (slice-bytes c.args.m.now c.type_inv.m) c.requires.0 c.requires.1
          c.requires.2 (omega arith) _ _ c.list_block-count.ensures c.requires.3,
    )

pub overflow_add-at : goal.overflow_add-at
overflow_add-at c =
    let loop = c.loop-number in
    omega (
      arith,
      common-at loop.invariant (slice-bytes c.args.m.now c.type_inv.m) c.requires.0 c.requires.1
          c.requires.2,
      c.size-at.ensures.1,
    )

pub overflow_add-to : goal.overflow_add-to
overflow_add-to c =
    let loop = c.loop-number in
    omega (
      arith,
      common-to loop.invariant (slice-bytes c.args.m.now c.type_inv.m) c.requires.0 c.requires.1
          c.requires.2,
      c.size-to.ensures.1,
    )

pub loop-number-preserved : goal.loop-number-preserved
loop-number-preserved c =
    let block-kind = c.from-blocks in
    let loop = c.loop-number in
    let list-block = c.list_block-count in
    let end = c.first_of-first.result + c.args.common in
    let less : end - (loop.number + 1) ≡ end - loop.number - 1 = omega arith in
    rw less
    (common-turn loop.invariant (slice-bytes c.args.m.now c.type_inv.m) c.requires.0 c.requires.1
    c.requires.2 (omega arith) _ _ list-block.ensures block-kind.ensures c.size-at.ensures
    c.size-to.ensures)

pub returns : goal.returns
returns c = common-last c.loop-number.invariant (omega arith)
