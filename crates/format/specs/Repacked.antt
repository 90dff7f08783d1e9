-- FORMAT.md, D7: a repacked description: its patterns have the packer's entries (W1 to W3) and zeros for fillers, and all else is
-- unchanged.
use Rattle.std.specs.Prelude.{ℕ, ◌%◌, List, map, length, replicate}
use Rattle.packed_rows.specs.Entries.{Entry, rows_from, stream_of}
use Rattle.packed_rows.specs.Packer.{packed_entries}
use Rattle.format.specs.Description.{Pattern, Chunk, NAME, INFO, SONG, INST, PATT, SMPL, VENV, PENV, Other, Description}

-- Rows of entries, with a filler 0 if the length of their stream is odd.
abbrev pub with_filler : List (List Entry) → Pattern
with_filler rows = record { rows = rows; filler = replicate (length (stream_of rows) % 2) 0 }

-- X3: the packer's entries for the cells of the pattern.
abbrev pub repacked_pattern : ℕ → Pattern → Pattern
repacked_pattern tracks p = with_filler (map packed_entries (rows_from tracks p.rows))

-- X1, X2: PATT has the repacked patterns, and every other chunk is unchanged.
abbrev pub repacked_chunk : ℕ → Chunk → Chunk
repacked_chunk tracks (NAME name) = NAME name
repacked_chunk tracks (INFO info) = INFO info
repacked_chunk tracks (SONG songs) = SONG songs
repacked_chunk tracks (INST instruments) = INST instruments
repacked_chunk tracks (PATT patterns) = PATT (map (repacked_pattern tracks) patterns)
repacked_chunk tracks (SMPL samples) = SMPL samples
repacked_chunk tracks (VENV envelopes) = VENV envelopes
repacked_chunk tracks (PENV envelopes) = PENV envelopes
repacked_chunk tracks (Other letters bytes) = Other letters bytes

abbrev pub repacked_description : ℕ → Description → Description
repacked_description tracks d = record { version = d.version; revision = d.revision; reserved = d.reserved; chunks = map (repacked_chunk tracks) d.chunks }
