use mathlib.Core.Path.{refl, sym, ◌∙◌}
use Rattle.compare.proofs.Comparing.{by-second}
use Rattle.compare.proofs.compare_second.Goals as goal

pub compare_opened-requires : goal.compare_opened-requires
compare_opened-requires c =
    let «open» = c.open in
    record { first = c.requires; second = sym «open».ensures.0 ∙ c.in-Ok.is }

pub returns-in-Ok : goal.returns-in-Ok
returns-in-Ok c =
    let «open» = c.open in
    by-second c.args.m.now c.args.l c.args.k.now c.args.out.now
    (sym «open».ensures.0 ∙ c.in-Ok.is) c.compare_opened.ensures

pub returns-in-Err : goal.returns-in-Err
returns-in-Err c =
    let «open» = c.open in
    by-second c.args.m.now c.args.l c.args.k.now c.args.out.now
    (sym «open».ensures.0 ∙ c.in-Err.is) (c.refused.ensures, refl)
