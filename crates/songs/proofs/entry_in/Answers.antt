use borrow.Author.Tests.{lt-ltb, le-ltb}
use Rattle.songs.proofs.entry_in.Goals as goal

pub returns-then-song_length-entry : goal.returns-then-song_length-entry
returns-then-song_length-entry c =
    simp (← c.song_length.ensures, le-ltb _ _ c.if-song_length-entry.true, c.no_entry.ensures, c.refuse.ensures)

pub returns : goal.returns
returns c =
    simp (
      ← c.song_length.ensures,
      lt-ltb _ _ c.if-song_length-entry.false,
      c.from.ensures,
      c.song_entry.ensures,
    )
