use mathlib.Core.Path.{ap, ◌∙◌}
use Rattle.refusal.specs.declared.Refusal.{Refusal}
use Rattle.compare.specs.Compared.{refused_compare}
use Rattle.compare.proofs.Comparing.{opened-lacks, opened-done}
use Rattle.compare.proofs.compare_opened.Goals as goal

pub returns-then-out-needed : goal.returns-then-out-needed
returns-then-out-needed c =
    let count-all = c.count_all-needed in
    opened-lacks c.args.m.now c.args.l c.args.k.now c.args.j c.args.out.now
    count-all.result count-all.ensures.0 c.if-out-needed.true c.refused.result
    (c.refused.ensures ∙ ap (λ (r : Refusal). refused_compare r) c.refuse.ensures)

pub returns : goal.returns
returns c =
    let count-all = c.count_all-needed in
    let outcome-of = c.from in
    let list_all = c.list_all in
    opened-done c.args.m.now c.args.l c.args.k.now c.args.j c.args.out.now
    count-all.result count-all.ensures.0 c.if-out-needed.false _ _ _ outcome-of.ensures list_all.ensures.0
    list_all.ensures.2
