-- Songs: name, length, entries and playlist are in the song's block.
use Prim.Native.Nat.{ℕ, ◌+◌, ◌*◌, ◌<◌}
use mathlib.Core.Path.{◌≡◌, refl}
use mathlib.Core.List.{List}
use native.Mathlib.Omega.{arith}
use native.Mathlib.Nat.{add_assoc}
use lib.Dec.{ltb}
use borrow.Author.Tests.{ltb-true}
use Rattle.refusal.specs.Lengths.{output_of}
use Rattle.blocks.specs.StoredFields.{song_length, song_entry}
use Rattle.blocks.specs.Sizes.{size_of}
use Rattle.blocks.specs.declared.BlockKind.TheVariants.{Song as SongBlock}
use Rattle.blocks.specs.declared.RecordKind.TheVariants.{Song}
use Rattle.queries.specs.Finding.{answer_found, output_found}
use Rattle.songs.specs.Shown.{shown_song, song_if, song_answer, entry_in, entry_if, entry_answer, playlist_bytes}
use Rattle.songs.specs.Shown.{playlist_size, playlist_answer, playlist_output}
use Rattle.showing_theorems.proofs.Alike.{SameBlock, Alike}
use Rattle.showing_theorems.proofs.SameBytes.{same_if, same-16, same-front, same_bytes}
use Rattle.showing_theorems.proofs.AlikeAnswers.{by-finding}

module _ {m n : List ℕ} {at to : ℕ} (s : SameBlock SongBlock m n at to) where
  length-same : song_length n to ≡ song_length m at
  unfolding size_of
  length-same = same-16 s 44 (omega arith)

  pub song-same : shown_song n to ≡ shown_song m at
  unfolding size_of
  song-same = rw (same-front s 44 (omega arith), length-same)

  pattern-same : (entry : ℕ) → entry < song_length m at → song_entry n to entry ≡ song_entry m at entry
  unfolding size_of
  pattern-same entry h = simp add_assoc (same-16 s (46 + 2 * entry) (omega arith))

  entry-same : (entry : ℕ) → entry_in n to entry ≡ entry_in m at entry
  entry-same entry = rw length-same (same_if (ltb entry (song_length m at)) _ (λ h. rw (pattern-same entry (ltb-true entry _ h))))

  pub playlist-same : playlist_bytes n to ≡ playlist_bytes m at
  unfolding size_of
  playlist-same = rw length-same (same_bytes s 46 (2 * song_length m at) (omega arith))

  output-same : (out : List ℕ) → output_of (playlist_size n to) (playlist_bytes n to) out ≡ output_of (playlist_size m at) (playlist_bytes m at) out
  output-same out = rw (playlist-same, length-same)

module _ {m n : List ℕ} (a : Alike m n) (song : ℕ) where
  pub same-song : song_answer n song ≡ song_answer m song
  same-song = by-finding a Song song (song_if m) (song_if n) (λ r. refl) (λ b c e v t s. song-same s)

  pub same-entry : (entry : ℕ) → entry_answer n song entry ≡ entry_answer m song entry
  same-entry entry = by-finding a Song song (entry_if m entry) (entry_if n entry) (λ r. refl) (λ b c e v t s. entry-same s entry)

  pub same-playlist : (room : ℕ) → playlist_answer n song room ≡ playlist_answer m song room
  same-playlist room =
      by-finding a Song song (answer_found (playlist_size m) room) (answer_found (playlist_size n) room) (λ r. refl)
      (λ b c e v t s. rw (length-same s))

  pub same-playlist-output : (out : List ℕ) → playlist_output n song out ≡ playlist_output m song out
  same-playlist-output out =
      by-finding a Song song (output_found (playlist_size m) (playlist_bytes m) out)
      (output_found (playlist_size n) (playlist_bytes n) out) (λ r. refl) (λ b c e v t s. output-same s out)
