use mathlib.Core.Path.{◌∙◌}
use Rattle.refusal.specs.Numbers.{verdict_numbers}
use Rattle.refusal.proofs.RuleLists.{broken-append}
use Rattle.refusal.proofs.Outcomes.{is-answer, passed-on}
use Rattle.fields.proofs.check.Goals as goal

pub returns-in_err-check_songs : goal.returns-in_err-check_songs
returns-in_err-check_songs c =
    is-answer verdict_numbers
    (passed-on c.from_residual.result c.from_residual.ensures.1
    ∙ simp (broken-append, ← c.check_songs.ensures, c.in_err-check_songs.was))

pub returns-in_err-check_instruments : goal.returns-in_err-check_instruments
returns-in_err-check_instruments c =
    let residual = c.from_residual-in_err-check_instruments in
    is-answer verdict_numbers
    (passed-on residual.result residual.ensures.1
    ∙ simp (broken-append, ← c.check_songs.ensures, c.in_ok-check_songs.was, ← c.check_instruments.ensures, c.in_err-check_instruments.was))

pub returns-in_err-check_envelopes : goal.returns-in_err-check_envelopes
returns-in_err-check_envelopes c =
    let residual = c.from_residual-in_err-check_envelopes in
    is-answer verdict_numbers
    (passed-on residual.result residual.ensures.1
    ∙ simp (
      broken-append,
      ← c.check_songs.ensures,
      c.in_ok-check_songs.was,
      ← c.check_instruments.ensures,
      c.in_ok-check_instruments.was,
      ← c.check_envelopes.ensures,
      c.in_err-check_envelopes.was,
    ))

pub returns : goal.returns
returns c =
    is-answer verdict_numbers
    (simp (
      broken-append,
      ← c.check_songs.ensures,
      c.in_ok-check_songs.was,
      ← c.check_instruments.ensures,
      c.in_ok-check_instruments.was,
      ← c.check_envelopes.ensures,
      c.in_ok-check_envelopes.was,
    ) c.check_envelopes-2.ensures)
