use borrow.Author.Tests.{lt-ltb}
use Rattle.blocks.proofs.Passing.{steps-turn}
use Rattle.fields.proofs.check_song.Goals as goal

pub loop-entry-preserved : goal.loop-entry-preserved
loop-entry-preserved c =
    steps-turn c.loop-entry.invariant (rw (← c.song_length-entry-end.ensures) c.loop-entry-test.true)
    (simp (← c.song_entry.ensures, lt-ltb _ _ c.if-patterns-song_entry.false))
