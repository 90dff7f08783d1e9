use mathlib.Core.Path.{sym, ◌∙◌}
use Rattle.refusal.proofs.Outcomes.{passed-on}
use Rattle.blocks.proofs.Passing.{passing-turn, passing-stopped}
use Rattle.fields.proofs.check_envelopes.Goals as goal

pub returns-in_err-check_envelope : goal.returns-in_err-check_envelope
returns-in_err-check_envelope c =
    passed-on c.from_residual.result c.from_residual.ensures.1
    ∙ passing-stopped c.loop-at.invariant c.in-Some.ensures.steps.0 (sym c.check_envelope.ensures ∙ c.in_err-check_envelope.was)

pub loop-at-preserved : goal.loop-at-preserved
loop-at-preserved c = passing-turn c.loop-at.invariant c.in-Some.ensures.steps.0 (sym c.check_envelope.ensures ∙ c.in_ok-check_envelope.was)
