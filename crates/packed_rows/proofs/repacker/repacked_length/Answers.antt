use Prim.Native.Nat.{◌+◌, ◌-◌}
use mathlib.Core.Path.{◌∙◌}
use native.Mathlib.Nat.{sub-zero}
use native.Mathlib.Omega.{arith}
use Rattle.packed_rows.proofs.Repacking.{row-ahead, row_next, counting-first, counting-room, counting-turn, counting-last, repacked-small}
use Rattle.packed_rows.proofs.repacker.repacked_length.Goals as goal

pub loop-init : goal.loop-init
loop-init c = rw (sub-zero c.args.rows) (counting-first _ _ _ c.requires.0)

pub load_row-at-requires : goal.load_row-at-requires
load_row-at-requires c =
    let loop = c.loop in
    row-ahead _ _ _ _ _ loop.invariant.reads (c.args.rows - (loop.counter + 1)) (omega arith) _ (loop.auto.line ∙ c.requires.1)

pub overflow_add-length : goal.overflow_add-length
overflow_add-length c =
    let loop = c.loop in
    let left = c.args.rows - (loop.counter + 1) in
    let wide = loop.auto.line ∙ c.requires.1 in
    let next = row_next _ _ _ _ _ loop.invariant.reads left (omega arith) _ wide c.load_row-at.result c.load_row-at.new.row
    c.load_row-at.ensures in
    omega (
      arith,
      repacked-small c.args.s.now c.args.rows c.args.tracks c.requires.0 c.requires.2 c.requires.3,
      counting-room _ _ _ _ _ _ loop.invariant left (omega arith) _ _ next _ (c.load_row-at.auto.row ∙ wide)
          c.packed_length-length.ensures,
    )

pub loop-preserved : goal.loop-preserved
loop-preserved c =
    let loop = c.loop in
    let left = c.args.rows - (loop.counter + 1) in
    let wide = loop.auto.line ∙ c.requires.1 in
    let next = row_next _ _ _ _ _ loop.invariant.reads left (omega arith) _ wide c.load_row-at.result c.load_row-at.new.row
    c.load_row-at.ensures in
    counting-turn _ _ _ _ _ _ loop.invariant left (omega arith) _ _ next _ (c.load_row-at.auto.row ∙ wide)
    c.packed_length-length.ensures

pub returns : goal.returns
returns c = counting-last _ _ _ _ _ _ c.loop.invariant (omega arith)
