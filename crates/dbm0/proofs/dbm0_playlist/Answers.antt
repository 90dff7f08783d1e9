use Rattle.dbm0.proofs.dbm0_playlist.Goals as goal

pub returns : goal.returns
returns c = c.playlist.ensures
