use Prim.Native.Nat.{◌+◌, ◌*◌, ◌<◌, min}
use mathlib.Core.Path.{◌≡◌}
use native.Mathlib.Omega.{arith}
use Rattle.packed_rows.proofs.ListingGroups.{rows-zeros, groups-count, groups-last}
use Rattle.packed_rows.proofs.ListingGroups.{group-order, group-fits, group-zeros, groups-turn}
use Rattle.packed_rows.proofs.comparer.list_row.Goals as goal

pub returns-then-empty : goal.returns-then-empty
returns-then-empty c =
    let zeros = c.requires.7 c.if-empty.true in
    rows-zeros c.args.tracks c.args.pattern c.args.row c.args.n c.args.a.now c.args.b.now c.args.out.now zeros.0 zeros.1

pub overflow_add-n : goal.overflow_add-n
overflow_add-n c = omega (arith, groups-count c.loop-group.invariant)

pub list_group-count-requires : goal.list_group-count-requires
list_group-count-requires c =
    let start = c.loop-group.group * 8 in
    let here : min start c.args.tracks ≡ start = omega arith in
    let state = rw here at c.loop-group.invariant in
    let inside : start < c.args.tracks = omega arith in
    let end : c.min-end.result ≡ min (start + 8) c.args.tracks = omega (arith, c.min-end.ensures) in
    let fits = group-fits state inside end c.requires.1 c.requires.2 in
    let most = groups-count state in (
      group-order state inside end,
      omega (arith, end),
      fits.0,
      fits.1,
      omega arith,
      state.marks-long,
      group-zeros state inside end c.requires.5 c.requires.6,
    )

pub overflow_add-count : goal.overflow_add-count
overflow_add-count c =
    let most = groups-count c.loop-group.invariant in
    omega (arith, c.list_group-count.ensures.1, c.min-end.ensures)

pub loop-group-preserved : goal.loop-group-preserved
loop-group-preserved c =
    let start = c.loop-group.group * 8 in
    let here : min start c.args.tracks ≡ start = omega arith in
    let state = rw here at c.loop-group.invariant in
    let group = c.list_group-count in
    let next : min ((c.loop-group.group + 1) * 8) c.args.tracks ≡ c.min-end.result = omega (arith, c.min-end.ensures) in
    rw next
    (groups-turn state (omega arith) (omega (arith, c.min-end.ensures)) _ _ _ _ group.result group.ensures.0 group.ensures.2 group.ensures.3
    group.ensures.4 group.ensures.5)

pub returns : goal.returns
returns c = groups-last c.loop-group.invariant c.requires.1 c.requires.2 (omega arith)
