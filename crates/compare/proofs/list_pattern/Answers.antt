use Rattle.compare.proofs.ComparedPatterns.{tracks-differ, rows-differ, sizes-listed}
use Rattle.compare.proofs.list_pattern.Goals as goal

pub returns-then-l-j : goal.returns-then-l-j
returns-then-l-j c =
    let m = c.args.m.now in
    let l = c.args.l in
    let k = c.args.k.now in
    let j = c.args.j in
    let number = c.args.number in
    let at_arg = c.args.at in
    let to = c.args.to in
    sizes-listed m l k j number at_arg to c.args.n c.args.out.now
    (tracks-differ m l k j number at_arg to c.if-l-j.true) c.list_whole.ensures

pub returns-then-pattern_rows : goal.returns-then-pattern_rows
returns-then-pattern_rows c =
    let m = c.args.m.now in
    let l = c.args.l in
    let k = c.args.k.now in
    let j = c.args.j in
    let number = c.args.number in
    let at_arg = c.args.at in
    let to = c.args.to in
    let pattern-rows = c.pattern_rows in
    let pattern-rows2 = c.pattern_rows-2 in
    sizes-listed m l k j number at_arg to c.args.n c.args.out.now
    (rows-differ m l k j number at_arg to pattern-rows.result pattern-rows2.result pattern-rows.ensures
    pattern-rows2.ensures c.if-pattern_rows.true) c.list_whole-then-pattern_rows.ensures
