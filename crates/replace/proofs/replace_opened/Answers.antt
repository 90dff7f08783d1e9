use mathlib.Core.Path.{ap, ◌∙◌}
use Rattle.refusal.specs.declared.Refusal.{Refusal}
use Rattle.replace.specs.Replaced.{refused_replace}
use Rattle.replace.proofs.Answering.{sample-found, sample-lacking, lacks-sample}
use Rattle.replace.proofs.replace_opened.Goals as goal

pub replace_at-requires : goal.replace_at-requires
replace_at-requires c =
    let m = c.args.m.now in
    let l = c.args.l in
    let sample = c.args.sample in
    let find-in = c.find_in in (
      c.requires,
      (sample-found m l sample find-in.ensures.0.0 c.in-Ok.is).0,
      (sample-found m l sample find-in.ensures.0.0 c.in-Ok.is).1,
    )

pub returns-in-Ok : goal.returns-in-Ok
returns-in-Ok c = c.replace_at.ensures

pub returns-in-Err : goal.returns-in-Err
returns-in-Err c =
    let m = c.args.m.now in
    let l = c.args.l in
    let sample = c.args.sample in
    let find-in = c.find_in in
    lacks-sample m l sample c.args.new.now c.args.out.now
    (sample-lacking m l sample find-in.ensures.0.0 c.in-Err.is).0
    (c.refused.ensures
    ∙ ap (λ (r : Refusal). refused_replace r) (sample-lacking m l sample find-in.ensures.0.0 c.in-Err.is).1)
