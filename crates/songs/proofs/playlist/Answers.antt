use Rattle.queries.proofs.Answering.{placed}
use Rattle.songs.proofs.playlist.Goals as goal

pub write_playlist-requires : goal.write_playlist-requires
write_playlist-requires c = placed _ _ c.in-Ok.is c.find.ensures.1

pub returns-in-Ok : goal.returns-in-Ok
returns-in-Ok c =
    let find = c.find in
    let write-playlist = c.write_playlist in (
      simp (← find.ensures.0.0, c.in-Ok.is, write-playlist.ensures.0),
      simp (← find.ensures.0.0, c.in-Ok.is, write-playlist.ensures.1),
    )

pub returns-in-Err : goal.returns-in-Err
returns-in-Err c =
    let find = c.find in
    (simp (← find.ensures.0.0, c.in-Err.is, c.from.ensures), simp (← find.ensures.0.0, c.in-Err.is))
