use mathlib.Core.Path.{sym, ◌∙◌}
use Rattle.refusal.proofs.RuleLists.{FirstHold, broken-append}
use Rattle.blocks.specs.Filling.{block_rules}
use Rattle.refusal.specs.Numbers.{verdict_numbers}
use Rattle.refusal.proofs.Outcomes.{is-answer, passed-on}
use Rattle.blocks.proofs.check.Goals as goal

-- After each test that does not refuse, one more of the rules holds.
pub returns-in_err-check_flags : goal.returns-in_err-check_flags
returns-in_err-check_flags c =
    let rules = block_rules c.args.m.now c.args.l in
    let after-songs : FirstHold 1 rules = simp (← c.fills.ensures, c.if-not-fills.false) in
    let after-instruments : FirstHold 2 rules = after-songs ∙ simp (← c.fills-2.ensures, c.if-not-fills-2.false) in
    let after-patterns : FirstHold 3 rules = after-instruments ∙ simp (← c.fills-3.ensures, c.if-not-fills-3.false) in
    let after-samples : FirstHold 4 rules = after-patterns ∙ simp (← c.fills-4.ensures, c.if-not-fills-4.false) in
    is-answer verdict_numbers
    (passed-on c.from_residual.result c.from_residual.ensures.1
    ∙ (simp (broken-append, ← c.check_flags.ensures, c.in_err-check_flags.was))
    ∙ sym after-samples)

pub returns : goal.returns
returns c =
    let rules = block_rules c.args.m.now c.args.l in
    let after-songs : FirstHold 1 rules = simp (← c.fills.ensures, c.if-not-fills.false) in
    let after-instruments : FirstHold 2 rules = after-songs ∙ simp (← c.fills-2.ensures, c.if-not-fills-2.false) in
    let after-patterns : FirstHold 3 rules = after-instruments ∙ simp (← c.fills-3.ensures, c.if-not-fills-3.false) in
    let after-samples : FirstHold 4 rules = after-patterns ∙ simp (← c.fills-4.ensures, c.if-not-fills-4.false) in
    is-answer verdict_numbers ((simp (broken-append, ← c.check_flags.ensures, c.in_ok-check_flags.was) c.check_envelopes.ensures) ∙ sym after-samples)
