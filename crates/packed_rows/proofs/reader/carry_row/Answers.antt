use mathlib.Core.Path.{◌∙◌, refl}
use native.Mathlib.Omega.{arith}
use Rattle.packed_rows.proofs.Carrying.{carrying-inside, carrying-ready, carrying-cell, carrying-turn, carrying-last}
use Rattle.packed_rows.proofs.reader.carry_row.Goals as goal

pub bounds-s-at : goal.bounds-s-at
bounds-s-at c =
    let loop = c.loop-at in
    omega (
      arith,
      carrying-inside c.args.s.now c.args.start c.args.row.now c.requires loop.row loop.at
          (loop.invariant.1 c.requires) loop.invariant.0,
    )

pub bounds-s-at-in-loop-at-2 : goal.bounds-s-at-in-loop-at-2
bounds-s-at-in-loop-at-2 c =
    let loop = c.loop-at in
    omega (
      arith,
      carrying-ready c.args.s.now c.args.start c.args.row.now c.requires loop.row loop.at
          (loop.invariant.1 c.requires) loop.invariant.0 c.loop-at-test.true,
    )

pub store_fields-requires : goal.store_fields-requires
store_fields-requires c =
    let s = c.args.s.now in
    let start = c.args.start in
    let row = c.args.row.now in
    let loop = c.loop-at in
    let ready =
    carrying-ready s start row c.requires loop.row loop.at (loop.invariant.1 c.requires) loop.invariant.0 c.loop-at-test.true in
    let cell =
    carrying-cell s start row c.requires loop.row loop.at (loop.invariant.1 c.requires) loop.invariant.0 c.loop-at-test.true in
    (omega arith, omega arith)

pub loop-at-preserved : goal.loop-at-preserved
loop-at-preserved c =
    let loop = c.loop-at in
    let track = c.from-track in (
      c.store_fields.auto.out ∙ loop.invariant.0,
      λ ahead.
          carrying-turn c.args.s.now c.args.start c.args.row.now ahead loop.row loop.at
          (loop.invariant.1 ahead) loop.invariant.0 c.loop-at-test.true track.result _ c.entry_length-at.result _ track.ensures
          refl c.entry_length-at.ensures.0 c.store_fields.ensures,
    )

pub overflow_add-result : goal.overflow_add-result
overflow_add-result c =
    let loop = c.loop-at in
    omega (
      arith,
      carrying-inside c.args.s.now c.args.start c.args.row.now c.requires loop.row loop.at
          (loop.invariant.1 c.requires) loop.invariant.0,
    )

pub returns : goal.returns
returns c =
    let loop = c.loop-at in
    λ ahead.
    carrying-last c.args.s.now c.args.start c.args.row.now ahead loop.row loop.at
    (loop.invariant.1 ahead) loop.invariant.0 c.loop-at-test.false
