-- FORMAT.md, B2, Q3 and Q7 (document 01, "Layout"): a song as it is shown. Each answer begins with the refusal's number and place, 0 and 0
-- if there is none; on a refusal all other fields are 0.
use Rattle.std.specs.Prelude.{ℕ, ◌+◌, ◌*◌, List, cond, replicate, ltb, Result, Ok, Err}
use Rattle.queries.specs.declared.Block.{Block}
use Rattle.refusal.specs.Numbers.{refusal, no_refusal, refused_outcome}
use Rattle.refusal.specs.declared.Reason.TheVariants.{NotThere}
use Rattle.refusal.specs.declared.Refusal.{Refusal}
use Rattle.refusal.specs.declared.LengthAnswer.{LengthAnswer}
use Rattle.numbers.specs.Numbers.{bytes_from}
use Rattle.blocks.specs.StoredFields.{song_name, song_length, song_entry}
use Rattle.blocks.specs.declared.RecordKind.TheVariants.{Song}
use Rattle.queries.specs.Finding.{found, answer_found, output_found}
use Rattle.songs.specs.declared.SongAnswer.{SongAnswer}
use Rattle.songs.specs.declared.EntryAnswer.{EntryAnswer}

abbrev pub no_song : Refusal → SongAnswer
no_song r = record { outcome = refused_outcome r; name = replicate 44 0; length = 0 }

-- B2, Q7: a song as it is shown: name 44, length 2.
abbrev pub shown_song : List ℕ → ℕ → SongAnswer
shown_song m at = record { outcome = no_refusal; name = song_name m at; length = song_length m at }

abbrev pub song_if : List ℕ → Result Block Refusal → SongAnswer
song_if m (Ok b) = shown_song m b.at
song_if m (Err r) = no_song r

-- Q1: the module's own refusal, then 18, else the song.
abbrev pub song_answer : List ℕ → ℕ → SongAnswer
song_answer m song = song_if m (found m Song song)

abbrev pub no_entry : Refusal → EntryAnswer
no_entry r = record { outcome = refused_outcome r; pattern = 0 }

-- B2, Q7: an entry of the playlist: the entries come after the length, 2 bytes each; 18 past the last.
abbrev pub entry_in : List ℕ → ℕ → ℕ → EntryAnswer
entry_in m at entry =
    cond (ltb entry (song_length m at))
    (record { outcome = no_refusal; pattern = song_entry m at entry })
    (no_entry (refusal NotThere 0))

abbrev pub entry_if : List ℕ → ℕ → Result Block Refusal → EntryAnswer
entry_if m entry (Ok b) = entry_in m b.at entry
entry_if m entry (Err r) = no_entry r

abbrev pub entry_answer : List ℕ → ℕ → ℕ → EntryAnswer
entry_answer m song entry = entry_if m entry (found m Song song)

-- Q7: a playlist as it is stored: its entries, 2 bytes each.
abbrev pub playlist_size : List ℕ → ℕ → ℕ
playlist_size m at = 2 * song_length m at

abbrev pub playlist_bytes : List ℕ → ℕ → List ℕ
playlist_bytes m at = bytes_from m (at + 46) (playlist_size m at)

-- Q1: the module's own refusal, then 18, then 17, else the length of the playlist; and what the output then holds (F8).
abbrev pub playlist_answer : List ℕ → ℕ → ℕ → LengthAnswer
playlist_answer m song room = answer_found (playlist_size m) room (found m Song song)

abbrev pub playlist_output : List ℕ → ℕ → List ℕ → List ℕ
playlist_output m song out = output_found (playlist_size m) (playlist_bytes m) out (found m Song song)
