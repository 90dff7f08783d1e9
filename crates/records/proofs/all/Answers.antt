use mathlib.Core.Path.{refl, sym, ◌∙◌}
use Rattle.module.proofs.OpenedOutputs.{by-opened}
use Rattle.records.specs.Records.{all_records}
use Rattle.records.proofs.all.Goals as goal

pub all_opened-requires : goal.all_opened-requires
all_opened-requires c = sym c.open.ensures.0 ∙ c.in-Ok.is

pub returns-in-Ok : goal.returns-in-Ok
returns-in-Ok c =
    let m = c.args.m.now in
    let «open» = c.open in
    by-opened (all_records m) m c.args.out.now _ (sym «open».ensures.0 ∙ c.in-Ok.is)
    c.all_opened.ensures

pub returns-in-Err : goal.returns-in-Err
returns-in-Err c =
    let m = c.args.m.now in
    let «open» = c.open in
    by-opened (all_records m) m c.args.out.now _ (sym «open».ensures.0 ∙ c.in-Err.is)
    (c.from.ensures, refl)
