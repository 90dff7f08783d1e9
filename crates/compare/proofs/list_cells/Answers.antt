use borrow.Author.Rules.{rules}
use mathlib.Core.Path.{ap}
use Prim.Native.Nat.{◌*◌}
use Rattle.compare.proofs.ComparedPatterns.{none-listed, never-refused, cells-listed}
use Rattle.compare.proofs.list_cells.Goals as goal

pub returns-then-equal : goal.returns-then-equal
returns-then-equal c =
    let equal = c.equal in
    none-listed c.args.m.now c.args.l c.args.k.now c.args.j c.args.number
    c.args.at c.args.to c.args.n c.args.out.now c.requires.1 c.requires.2 _ _
    c.packed_bytes-a.ensures.0 c.packed_bytes-b.ensures.0 equal.result
    equal.ensures c.if-equal.true

pub compare-requires : goal.compare-requires
compare-requires c = search rules

pub unwrap-requires : goal.unwrap-requires
unwrap-requires c =
    let pattern-rows = c.pattern_rows-rows in
    let compare = c.compare in
    never-refused c.args.m.now c.args.l c.args.k.now c.args.j c.args.number
    c.args.at c.args.to c.args.n c.args.out.now c.requires.1 c.requires.2 _ _
    c.packed_bytes-a.ensures.0 c.packed_bytes-b.ensures.0 c.requires.0 pattern-rows.result pattern-rows.ensures
    compare.result compare.ensures.0.0

pub returns : goal.returns
returns c =
    let pattern-rows = c.pattern_rows-rows in
    let smaller = c.min-start in
    let compare = c.compare in
    cells-listed c.args.m.now c.args.l c.args.k.now c.args.j c.args.number
    c.args.at c.args.to c.args.n c.args.out.now c.requires.1 c.requires.2 _ _
    c.packed_bytes-a.ensures.0 c.packed_bytes-b.ensures.0 c.requires.0 pattern-rows.result pattern-rows.ensures
    compare.result compare.ensures.0.0 c.unwrap.result (10 * smaller.result) _ c.unwrap.ensures
    (ap (10 *◌) smaller.ensures) compare.ensures.1
