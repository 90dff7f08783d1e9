use Rattle.songs.proofs.Playlists.{playlist-lacks, playlist-fits}
use mathlib.Core.Path.{sym}
use lib.Seq.{length-take-le}
use Rattle.songs.proofs.write_playlist.Goals as goal

pub returns-then-out-needed : goal.returns-then-out-needed
returns-then-out-needed c =
    rw (c.from.ensures, c.refuse.ensures)
    (playlist-lacks _ _ _ _ c.song_length.ensures c.if-out-needed.true)

pub slice_bounds-copy-end-2 : goal.slice_bounds-copy-end-2
slice_bounds-copy-end-2 c = sym (length-take-le _ c.args.out.now c.if-out-needed.false)

pub returns : goal.returns
returns c =
    let song-length = c.song_length in
    rw c.from-2.ensures
    (playlist-fits _ _ _ _ song-length.ensures _ c.copy.ensures c.if-out-needed.false)
