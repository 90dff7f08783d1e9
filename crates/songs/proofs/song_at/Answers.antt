use Rattle.songs.proofs.song_at.Goals as goal

pub returns : goal.returns
returns c = simp (c.from.ensures, c.name.ensures, c.song_length.ensures)
