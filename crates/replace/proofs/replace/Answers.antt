use mathlib.Core.Path.{refl, sym, ◌∙◌}
use Rattle.replace.proofs.Answering.{by-outline}
use Rattle.replace.proofs.replace.Goals as goal

pub replace_opened-requires : goal.replace_opened-requires
replace_opened-requires c = sym c.open.ensures.0 ∙ c.in-Ok.is

pub returns-in-Ok : goal.returns-in-Ok
returns-in-Ok c =
    let «open» = c.open in
    by-outline c.args.m.now c.args.sample c.args.new.now c.args.out.now
    (sym «open».ensures.0 ∙ c.in-Ok.is) c.replace_opened.ensures

pub returns-in-Err : goal.returns-in-Err
returns-in-Err c =
    let «open» = c.open in
    by-outline c.args.m.now c.args.sample c.args.new.now c.args.out.now
    (sym «open».ensures.0 ∙ c.in-Err.is) (c.refused.ensures, refl)
