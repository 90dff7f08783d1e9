use Rattle.dbm0.proofs.dbm0_song.Goals as goal

pub returns : goal.returns
returns c = c.song.ensures
