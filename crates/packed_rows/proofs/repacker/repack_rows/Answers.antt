use Prim.Native.Nat.{◌+◌, ◌-◌}
use mathlib.Core.Path.{◌∙◌}
use borrow.Author.Rules.{rules}
use native.Mathlib.Nat.{sub-zero}
use native.Mathlib.Omega.{arith}
use Rattle.packed_rows.proofs.StreamLength.{packed-length}
use Rattle.packed_rows.specs.Steps.{rows_read}
use Rattle.packed_rows.proofs.Repacking.{row-ahead, row_next, repacking-first, repacking-room, repacking-turn, repacking-last}
use Rattle.packed_rows.proofs.repacker.repack_rows.Goals as goal

pub loop-init : goal.loop-init
loop-init c = (search rules, rw (sub-zero c.args.rows) (repacking-first _ _ _ _ c.requires.0))

pub load_row-at-requires : goal.load_row-at-requires
load_row-at-requires c =
    let loop = c.loop in
    row-ahead _ _ _ _ _ loop.invariant.1.reads (c.args.rows - (loop.counter + 1)) (omega arith) _ (loop.auto.line ∙ c.requires.1)

pub write_row-to-requires : goal.write_row-to-requires
write_row-to-requires c =
    let loop = c.loop in
    let left = c.args.rows - (loop.counter + 1) in
    let wide = loop.auto.line ∙ c.requires.1 in
    let next = row_next _ _ _ _ _ loop.invariant.1.reads left (omega arith) _ wide c.load_row-at.result c.load_row-at.new.row
    c.load_row-at.ensures in
    let room = repacking-room _ _ _ _ _ _ _ _ loop.invariant.1 left _ _ next in (
      c.load_row-at.auto.row ∙ wide,
      c.requires.2,
      omega arith,
      omega (
        arith,
        packed-length (rows_read c.args.s.now c.args.rows c.args.tracks),
        loop.invariant.1.writing.room,
        c.requires.3,
      ),
    )

pub loop-preserved : goal.loop-preserved
loop-preserved c =
    let loop = c.loop in
    let left = c.args.rows - (loop.counter + 1) in
    let next = row_next _ _ _ _ _ loop.invariant.1.reads left (omega arith) _ (loop.auto.line ∙ c.requires.1)
    c.load_row-at.result c.load_row-at.new.row c.load_row-at.ensures in (
      c.write_row-to.auto.list ∙ loop.invariant.0,
      repacking-turn _ _ _ _ _ _ _ _ loop.invariant.1 left _ _ next c.write_row-to.new.out c.write_row-to.result
          c.write_row-to.auto.out c.write_row-to.ensures.0 c.write_row-to.ensures.1,
    )

pub returns : goal.returns
returns c =
    let loop = c.loop in
    repacking-last _ _ _ _ _ _ _ _ loop.invariant.1 c.requires.3 (omega arith)
