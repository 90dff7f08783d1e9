use Rattle.songs.proofs.no_entry.Goals as goal

pub returns : goal.returns
returns c = rw c.from.ensures
