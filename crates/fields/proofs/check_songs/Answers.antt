use mathlib.Core.Path.{sym, ◌∙◌}
use Rattle.refusal.proofs.Outcomes.{passed-on}
use Rattle.blocks.proofs.Passing.{passing-turn, passing-stopped}
use Rattle.fields.proofs.check_songs.Goals as goal

pub returns-in_err-check_song : goal.returns-in_err-check_song
returns-in_err-check_song c =
    passed-on c.from_residual.result c.from_residual.ensures.1
    ∙ passing-stopped c.loop-at.invariant c.in-Some.ensures.steps.0 (sym c.check_song.ensures ∙ c.in_err-check_song.was)

pub loop-at-preserved : goal.loop-at-preserved
loop-at-preserved c = passing-turn c.loop-at.invariant c.in-Some.ensures.steps.0 (sym c.check_song.ensures ∙ c.in_ok-check_song.was)
