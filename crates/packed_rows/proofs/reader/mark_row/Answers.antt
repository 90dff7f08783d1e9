use Prim.Native.Nat.{◌-◌, ◌/◌}
use mathlib.Core.Path.{refl, ◌∙◌}
use lib.ListN.{length-set}
use native.Mathlib.Omega.{arith}
use Rattle.packed_rows.proofs.Carrying.{skipping-inside, skipping-ready}
use Rattle.packed_rows.proofs.MarkingRows.{marking-skips, marking-inside, marking-turn, marking-last}
use Rattle.packed_rows.proofs.reader.mark_row.Goals as goal

pub bounds-s-at : goal.bounds-s-at
bounds-s-at c =
    let state = c.loop-at.invariant.1 c.requires.0.0 c.requires.0.1 in
    omega (arith, skipping-inside _ _ c.requires.0.0 c.requires.0.1 _ (marking-skips state))

pub bounds-s-at-in-loop-at-2 : goal.bounds-s-at-in-loop-at-2
bounds-s-at-in-loop-at-2 c =
    let loop = c.loop-at in
    let state = loop.invariant.1 c.requires.0.0 c.requires.0.1 in
    let ready =
    skipping-ready _ _ c.requires.0.0 c.requires.0.1 _ (marking-skips state)
    c.loop-at-test.true in
    omega arith

pub loop-at-preserved : goal.loop-at-preserved
loop-at-preserved c =
    let loop = c.loop-at in
    let track = c.from-track in
    let state = loop.invariant.1 c.requires.0.0 c.requires.0.1 in
    let inside =
    marking-inside state c.loop-at-test.true c.requires.0.2 (loop.invariant.0 ∙ c.requires.1) track.result track.ensures in (
      length-set loop.marks ((track.result - 1) / 8) 1 ∙ loop.invariant.0,
      λ size ahead.
          marking-turn (loop.invariant.1 size ahead) c.loop-at-test.true track.result c.entry_length-at.result _ track.ensures
          c.entry_length-at.ensures.0 inside refl,
    )

pub returns : goal.returns
returns c =
    let loop = c.loop-at in (
      λ size ahead. marking-last (loop.invariant.1 size ahead) c.loop-at-test.false,
      (loop.invariant.1 c.requires.0.0 c.requires.0.1).kept,
    )
