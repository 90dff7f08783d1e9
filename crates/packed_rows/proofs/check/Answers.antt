use Rattle.refusal.specs.Numbers.{verdict_numbers}
use Rattle.refusal.proofs.Outcomes.{is-answer}
use Rattle.packed_rows.proofs.check.Goals as goal

pub returns-then-not-sizes_fit : goal.returns-then-not-sizes_fit
returns-then-not-sizes_fit c = is-answer verdict_numbers (simp (← c.sizes_fit.ensures, c.if-not-sizes_fit.true, c.refuse.ensures))

pub returns : goal.returns
returns c = is-answer verdict_numbers (simp (← c.sizes_fit.ensures, c.if-not-sizes_fit.false, c.check_stream.ensures))
