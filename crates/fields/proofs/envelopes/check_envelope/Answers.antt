use mathlib.Core.Path.{◌∙◌}
use Rattle.refusal.proofs.Outcomes.{passed-on}
use Rattle.fields.proofs.FieldOrder.{head-stopped, points-stopped, values-follow}
use Rattle.fields.proofs.envelopes.check_envelope.Goals as goal

pub returns-in_err-check_head : goal.returns-in_err-check_head
returns-in_err-check_head c =
    passed-on c.from_residual.result c.from_residual.ensures.1
    ∙ head-stopped c.args.m.now c.args.instruments c.args.signed c.args.at
    c.check_head.ensures c.in_err-check_head.was

pub returns-in_err-check_points : goal.returns-in_err-check_points
returns-in_err-check_points c =
    let check-head = c.check_head in
    let envelope-sections = c.envelope_sections-sections in
    let envelope-flags = c.envelope_flags in
    passed-on c.from_residual-in_err-check_points.result c.from_residual-in_err-check_points.ensures.1
    ∙ points-stopped c.args.m.now c.args.instruments c.args.signed c.args.at
    check-head.ensures c.in_ok-check_head.was envelope-flags.ensures envelope-sections.ensures
    c.check_points.ensures c.in_err-check_points.was

pub returns : goal.returns
returns c =
    let check-head = c.check_head in
    let envelope-sections = c.envelope_sections-sections in
    let envelope-flags = c.envelope_flags in
    values-follow c.args.m.now c.args.instruments c.args.signed c.args.at check-head.ensures
    c.in_ok-check_head.was envelope-flags.ensures envelope-sections.ensures
    c.check_points.ensures c.in_ok-check_points.was c.check_values.ensures
