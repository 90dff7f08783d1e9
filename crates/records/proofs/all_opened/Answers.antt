use native.Mathlib.Omega.{arith}
use mathlib.Core.Path.{◌∙◌, ap}
use Rattle.refusal.specs.declared.Refusal.{Refusal}
use Rattle.refusal.specs.Lengths.{refused_length}
use Rattle.refusal.proofs.FilledOutputs.{all-lacking, all-enough}
use Rattle.records.specs.Records.{all_records}
use Rattle.records.proofs.all_opened.Goals as goal

pub returns-then-out-needed : goal.returns-then-out-needed
returns-then-out-needed c =
    let all-length = c.all_length-needed in
    all-lacking (all_records c.args.m.now c.args.l) c.args.out.now all-length.result
    all-length.ensures c.if-out-needed.true _
    (c.from.ensures ∙ ap (λ (r : Refusal). refused_length r) c.refuse.ensures)

pub write_all-requires : goal.write_all-requires
write_all-requires c =
    (c.requires, omega (arith, c.all_length-needed.ensures, c.if-out-needed.false))

pub returns : goal.returns
returns c =
    let all-length = c.all_length-needed in
    let write-all = c.write_all in
    all-enough (all_records c.args.m.now c.args.l) c.args.out.now
    (omega (arith, all-length.ensures, c.if-out-needed.false)) write-all.result _ _ c.from-2.ensures write-all.ensures
