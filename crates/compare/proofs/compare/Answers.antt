use mathlib.Core.Path.{refl, sym, ◌∙◌}
use Rattle.compare.proofs.Comparing.{by_first}
use Rattle.compare.proofs.compare.Goals as goal

pub compare_second-requires : goal.compare_second-requires
compare_second-requires c = sym c.open.ensures.0 ∙ c.in-Ok.is

pub returns-in-Ok : goal.returns-in-Ok
returns-in-Ok c =
    let «open» = c.open in
    by_first c.args.m.now c.args.k.now c.args.out.now (sym «open».ensures.0 ∙ c.in-Ok.is)
    c.compare_second.ensures

pub returns-in-Err : goal.returns-in-Err
returns-in-Err c =
    let «open» = c.open in
    by_first c.args.m.now c.args.k.now c.args.out.now
    (sym «open».ensures.0 ∙ c.in-Err.is) (c.refused.ensures, refl)
