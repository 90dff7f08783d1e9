use mathlib.Core.Path.{refl, sym, ◌∙◌}
use Rattle.module.proofs.OpenedOutputs.{by-opened}
use Rattle.repack.specs.Repacked.{repacked_module}
use Rattle.repack.proofs.repack.Goals as goal

pub repack_opened-requires : goal.repack_opened-requires
repack_opened-requires c = sym c.open.ensures.0 ∙ c.in-Ok.is

pub returns-in-Ok : goal.returns-in-Ok
returns-in-Ok c =
    let m = c.args.m.now in
    let «open» = c.open in
    by-opened (repacked_module m) m c.args.out.now _ (sym «open».ensures.0 ∙ c.in-Ok.is)
    c.repack_opened.ensures

pub returns-in-Err : goal.returns-in-Err
returns-in-Err c =
    let m = c.args.m.now in
    let «open» = c.open in
    by-opened (repacked_module m) m c.args.out.now _ (sym «open».ensures.0 ∙ c.in-Err.is)
    (c.from.ensures, refl)
