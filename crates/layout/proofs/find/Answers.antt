use mathlib.Core.Path.{◌∙◌, sym}
use Rattle.refusal.proofs.Outcomes.{is-answer}
use Rattle.layout.proofs.Outlining.{outline-whole}
use Rattle.layout.specs.Outlines.{outline_numbers}
use Rattle.layout.proofs.find.Goals as goal

pub returns : goal.returns
returns c =
    is-answer outline_numbers (c.with_mandatory.ensures
    ∙ sym (outline-whole c.args.m.now c.in_ok-p.p (sym c.check_header.ensures ∙ c.in_ok-check_header.was)
    (sym c.walk_chunks.ensures ∙ c.in_ok-p.was)))
