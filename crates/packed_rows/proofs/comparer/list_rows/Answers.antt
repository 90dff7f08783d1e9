use Prim.Native.Nat.{◌*◌, ◌≤◌}
use mathlib.Core.Path.{◌∙◌, refl}
use native.Mathlib.Omega.{arith}
use lib.ListN.{length}
use Rattle.packed_rows.proofs.ListingRows.{left-inside, left-ahead, rows-small, rows-wide}
use Rattle.packed_rows.proofs.ListingRows.{rows-marked, rows_empty, rows-turn}
use Rattle.packed_rows.proofs.comparer.list_rows.Goals as goal

pub bounds-a-at : goal.bounds-a-at
bounds-a-at c =
    omega (arith, left-inside c.requires.0 c.loop-row.invariant.first-left c.loop-row-test.true)

pub bounds-b-to : goal.bounds-b-to
bounds-b-to c =
    omega (
      arith,
      left-inside c.requires.1 c.loop-row.invariant.second-left c.loop-row-test.true,
    )

pub mark_row-requires : goal.mark_row-requires
mark_row-requires c =
    let tracks = c.args.tracks in
    let loop = c.loop-row in (
      (
        tracks * 6,
        left-ahead c.requires.0 loop.invariant.first-left c.loop-row-test.true (tracks * 6) refl,
        omega arith,
      ),
      loop.invariant.marks-long,
    )

pub mark_row-requires-in-loop-row : goal.mark_row-requires-in-loop-row
mark_row-requires-in-loop-row c =
    let tracks = c.args.tracks in
    let loop = c.loop-row in
    let loop-test = c.loop-row-test in (
      (tracks * 6, left-ahead c.requires.1 loop.invariant.second-left loop-test.true (tracks * 6) refl, omega arith),
      c.mark_row.auto.marks ∙ loop.invariant.marks-long,
    )

pub carry_row-at-requires : goal.carry_row-at-requires
carry_row-at-requires c =
    let loop = c.loop-row in
    let loop-test = c.loop-row-test in
    left-ahead c.requires.0 loop.invariant.first-left loop-test.true (length loop.first) (rows-wide loop.invariant).0

pub carry_row-to-requires : goal.carry_row-to-requires
carry_row-to-requires c =
    let loop = c.loop-row in
    let loop-test = c.loop-row-test in
    left-ahead c.requires.1 loop.invariant.second-left loop-test.true (length loop.second) (rows-wide loop.invariant).1

pub list_row-count-requires : goal.list_row-count-requires
list_row-count-requires c =
    let loop = c.loop-row in
    let loop-test = c.loop-row-test in
    let wide = rows-wide loop.invariant in
    let small = rows-small loop.invariant c.requires.4 c.requires.5 in
    let marked =
    rows-marked loop.invariant c.requires.0 c.requires.1 loop-test.true c.carry_row-at.new.row
    c.carry_row-to.new.row c.carry_row-at.result c.carry_row-to.result c.carry_row-at.ensures c.carry_row-to.ensures
    c.mark_row.new.marks c.mark_row-in-loop-row.new.marks c.mark_row.ensures c.mark_row-in-loop-row.ensures in (
      c.requires.5,
      c.carry_row-at.auto.row ∙ wide.0,
      c.carry_row-to.auto.row ∙ wide.1,
      omega (arith, small),
      c.mark_row-in-loop-row.auto.marks ∙ c.mark_row.auto.marks ∙ loop.invariant.marks-long,
      marked.0,
      marked.1,
      rows_empty loop.invariant c.requires.0 c.requires.1 loop-test.true c.carry_row-at.new.row
          c.carry_row-to.new.row c.carry_row-at.result c.carry_row-to.result c.carry_row-at.ensures c.carry_row-to.ensures,
    )

pub overflow_add-count : goal.overflow_add-count
overflow_add-count c =
    let loop = c.loop-row in
    let list-row = c.list_row-count in
    let small = rows-small loop.invariant c.requires.4 c.requires.5 in
    let most : list-row.result ≤ c.args.tracks * 6 = list-row.ensures.1 in
    omega (arith, small, most, c.requires.5)

pub loop-row-preserved : goal.loop-row-preserved
loop-row-preserved c =
    let loop = c.loop-row in
    let loop-test = c.loop-row-test in
    rows-turn loop.invariant c.requires.0 c.requires.1 loop-test.true c.carry_row-at.new.row
    c.carry_row-to.new.row c.carry_row-at.result c.carry_row-to.result c.carry_row-at.ensures c.carry_row-to.ensures
    c.list_row-count.result c.list_row-count.ensures.0 c.list_row-count.ensures.2 c.list_row-count.ensures.3 c.list_row-count.ensures.4
    (c.list_row-count.auto.marks ∙ c.mark_row-in-loop-row.auto.marks ∙ c.mark_row.auto.marks ∙ loop.invariant.marks-long)
