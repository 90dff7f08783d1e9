-- Songs: what the queries show of the encoding of a song in the module is the song.
use Prim.Native.Nat.{ℕ, ◌+◌, ◌*◌, ◌<◌}
use mathlib.Core.Path.{◌≡◌, ◌∙◌}
use mathlib.Core.List.{List, ◌++◌, map}
use native.Mathlib.Omega.{arith}
use native.Mathlib.Nat.{add_assoc}
use lib.ListN.{length, get_or, length-append}
use lib.Dec.{ltb}
use borrow.Author.Tests.{ltb-true}
use Rattle.vocabulary.specs.Lists.{joined}
use Rattle.refusal.specs.Lengths.{length_if, output_of}
use Rattle.numbers.specs.Numbers.{bytes_from, bytes16}
use Rattle.blocks.specs.StoredFields.{song_length, song_entry}
use Rattle.blocks.specs.Sizes.{size_of}
use Rattle.blocks.specs.declared.BlockKind.TheVariants.{Song as SongBlock}
use Rattle.acceptance.proofs.Locating.{PartAt, number16-at}
use Rattle.acceptance.proofs.Cutting.{Sized, part-first, part-rest}
use Rattle.songs.specs.Shown.{shown_song, entry_in, playlist_bytes, playlist_size}
use Rattle.showing_theorems.proofs.SameBytes.{same_if}
use Rattle.format.specs.Description.{Song}
use Rattle.format.specs.Encoding.{song_bytes}
use Rattle.format.specs.WellFormed.{SongFits}
use Rattle.format.specs.Shown.{described_song, described_entry, playlist_length, playlist_written}
use Rattle.format.proofs.ReadingBlocks.{song-size, song-length, song-entry}
use Rattle.format.proofs.ShownBlocks.{bytes-at}

module _ {patterns : ℕ} (s : Song) (f : SongFits patterns s) where
  pub song-sized : Sized SongBlock (song_bytes s)
  unfolding size_of
  song-sized = rw (song-length s f.name.0) (song-size s f.name.0)

  module _ {m : List ℕ} {at : ℕ} (p : PartAt m at (song_bytes s)) where
    count : song_length m at ≡ length s.playlist
    count = number16-at p 44 (omega (arith, song-size s f.name.0)) ∙ song-length s f.name.0

    name : bytes_from m at 44 ≡ s.name
    name = bytes-at (part-first s.name (bytes16 (length s.playlist) ++ joined (map bytes16 s.playlist)) p) 44 f.name.0

    pub song-shown : shown_song m at ≡ described_song s
    song-shown = rw (name, count)

    pattern : (entry : ℕ) → entry < length s.playlist → song_entry m at entry ≡ get_or s.playlist entry 0
    pattern entry h = simp add_assoc (number16-at p (46 + 2 * entry) (omega (arith, song-size s f.name.0)) ∙ song-entry s f.name.0 entry h)

    pub entry-shown : (entry : ℕ) → entry_in m at entry ≡ described_entry entry s
    entry-shown entry = rw count (same_if (ltb entry (length s.playlist)) _ (λ h. rw (pattern entry (ltb-true entry _ h))))

    playlist : playlist_bytes m at ≡ joined (map bytes16 s.playlist)
    playlist =
        let following : PartAt m (at + 44) (bytes16 (length s.playlist) ++ joined (map bytes16 s.playlist)) =
        rw f.name.0 at (part-rest s.name (bytes16 (length s.playlist) ++ joined (map bytes16 s.playlist)) p) in
        let entries : PartAt m (at + 46) (joined (map bytes16 s.playlist)) =
        simp add_assoc at (part-rest (bytes16 (length s.playlist)) (joined (map bytes16 s.playlist)) following) in
        rw count (bytes-at entries (2 * length s.playlist)
        (omega (
          arith,
          song-size s f.name.0,
          length-append s.name (bytes16 (length s.playlist) ++ joined (map bytes16 s.playlist)),
          f.name.0,
        )))

    pub playlist-shown : (room : ℕ) → length_if (playlist_size m at) room ≡ playlist_length room s
    playlist-shown room = rw count

    pub playlist-written : (out : List ℕ) → output_of (playlist_size m at) (playlist_bytes m at) out ≡ playlist_written out s
    playlist-written out = rw (playlist, count)
