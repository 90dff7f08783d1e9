-- Worked refusals (document 01, "Refusal numbers and their order"), as the rows of one table under one statement: for small inputs, what
-- the definitions give is the number and the place that document 01 says. Each number from 2 to 18 occurs, and for each two consecutive
-- faults in document 01's order there is an input with both, and the refusal is the one that comes first. Number 1 is not computed: it is
-- a theorem about all lists that are too long, below.
--
-- The numbers and places are counted from document 01 and from the lengths in `SmallModules`; each part of the table says where its chunks
-- begin. 0 0 is accepted.
use Prim.Native.Nat.{ℕ, ◌<◌}
use Rattle.std.specs.Prelude.{Result, Err}
use Rattle.refusal.specs.declared.Refusal.{Refusal}
use Rattle.refusal.specs.Lengths.{value_numbers}
use Rattle.cells.specs.declared.Cell.{Cell}
use mathlib.Core.Path.{◌≡◌, refl}
use mathlib.Core.List.{List, [], ◌∷◌, ◌++◌, map}
use lib.ListN.{length, take, replicate}
use borrow.Author.Tests.{lt-leb}
use Rattle.vocabulary.specs.Lists.{joined}
use Rattle.vocabulary.specs.Letters.{name_letters, info_letters, song_letters, inst_letters, patt_letters, smpl_letters, venv_letters, penv_letters}
use Rattle.refusal.specs.Numbers.{outcome_numbers}
use Rattle.refusal.specs.declared.Outcome.{Outcome}
use Rattle.numbers.specs.Numbers.{byte_at, number16, number32}
use Rattle.packed_rows.specs.Stream.{read_from, reading, cells_read}
use Rattle.packed_rows.specs.Answers.{unpack_answer, pack_answer, repack_stream_answer, cell_of, cell_numbers}
use Rattle.layout.specs.Chunks.{chunks_from, chunks}
use Rattle.layout.specs.Outlines.{outline_numbers}
use Rattle.blocks.specs.Sizes.{size_of}
use Rattle.blocks.specs.declared.RecordKind.TheVariants.{Instrument}
use Rattle.module.specs.Verdicts.{opened, module_verdict}
use Rattle.queries.specs.Finding.{found_numbers, found as found_block}
use Rattle.samples.specs.Shown.{sample_answer, frames_answer, frame_answer, all_frames_answer}
use Rattle.envelopes.specs.Shown.{count_answer, envelope_answer}
use Rattle.envelopes.specs.declared.EnvelopeKind.TheVariants.{Volume, Panning}
use Rattle.patterns.specs.Shown.{rows_answer, cell_answer, cells_answer as pattern_answer}
use Rattle.songs.specs.Shown.{song_answer, entry_answer, playlist_answer}
use Rattle.summary.specs.Shown.{version_answer, name_answer, info_answer}
use Rattle.instruments.specs.Shown.{instrument_answer}
use Rattle.query_theorems.proofs.Tables.{same_each, same-rows}
use Rattle.query_theorems.proofs.SmallModules.{checked, module_checked, chunk, module_of, info, content, song}
use Rattle.query_theorems.proofs.SmallModules.{full_instrument, instrument, pattern, sample, envelope, one_envelope}

-- A row of the table: what the definitions give, and the number and the place that document 01 says.
pub record Worked : Type 0 where
  pub found : List ℕ
  pub said : List ℕ

gives : List ℕ → ℕ → ℕ → Worked
gives found number place = record { found = found; said = number ∷ place ∷ [] }

-- The answer of the check of a module.
check_gives : List ℕ → ℕ → ℕ → Worked
unfolding gives module_checked
check_gives m number place = gives (module_checked m) number place

-- The header: 2, 3; and 3 before the faults of chunks. 0x44 0x42 0x4D 0x30 is DBM0.
headers : List Worked
unfolding check_gives module_of
headers =
    check_gives [] 2 0
    ∷ check_gives (0x44 ∷ 0x42 ∷ 0x4D ∷ 0x30 ∷ 3 ∷ 0 ∷ 0 ∷ []) 2 0
    ∷ check_gives (0x44 ∷ 0x42 ∷ 0x4D ∷ 0x31 ∷ 3 ∷ 0 ∷ 0 ∷ 0 ∷ []) 2 0
    -- 2 before 3: DBM1, and version 4.
    ∷ check_gives (0x44 ∷ 0x42 ∷ 0x4D ∷ 0x31 ∷ 4 ∷ 0 ∷ 0 ∷ 0 ∷ []) 2 0
    ∷ check_gives (module_of 1 []) 3 4
    ∷ check_gives (module_of 4 []) 3 4
    -- Revisions $0A and $A0.
    ∷ check_gives (0x44 ∷ 0x42 ∷ 0x4D ∷ 0x30 ∷ 3 ∷ 0x0A ∷ 0 ∷ 0 ∷ []) 3 4
    ∷ check_gives (0x44 ∷ 0x42 ∷ 0x4D ∷ 0x30 ∷ 3 ∷ 0xA0 ∷ 0 ∷ 0 ∷ []) 3 4
    -- 3 before 4: a byte is left after the header.
    ∷ check_gives (module_of 4 ((0 ∷ []) ∷ [])) 3 4
    ∷ []

-- A chunk whose header states this length (below 256), whatever follows it.
chunk_saying : ℕ → List ℕ → List ℕ → List ℕ
chunk_saying size letters bytes = letters ++ (0 ∷ 0 ∷ 0 ∷ size ∷ bytes)

-- Identifiers that are not covered: XXXX, and two that are not four letters: @XXX, with @ just before A, and XXX[, with [ just after Z.
other : List ℕ
other = replicate 4 0x58

before_a : List ℕ
before_a = 0x40 ∷ replicate 3 0x58

after_z : List ℕ
after_z = 0x58 ∷ 0x58 ∷ 0x58 ∷ 0x5B ∷ []

-- NAME with `size` zeros: with 44 it has 52 bytes, so that after a NAME at 8 the next chunk begins at 60.
name : ℕ → List ℕ
unfolding chunk
name size = chunk name_letters (replicate size 0)

-- INFO of a module without records; it is at 8, so that the next chunk begins at 26.
none_there : List ℕ
unfolding info
none_there = info 0 0 0 0 4

-- An empty chunk twice, at 26 and at 34; the end is at 42.
twice : List ℕ → List ℕ
unfolding module_of none_there chunk
twice letters = module_of 3 (none_there ∷ chunk letters [] ∷ chunk letters [] ∷ [])

-- An empty chunk at 8, before INFO.
early : List ℕ → List ℕ
unfolding module_of none_there chunk
early letters = module_of 3 (chunk letters [] ∷ none_there ∷ [])

-- Chunk by chunk: 4 (1 to 7 bytes left), 5, 4 (data past the end), 6, 7, 9. The first chunk begins at 8.
chunk_faults : List Worked
unfolding check_gives module_of chunk chunk_saying other before_a after_z name none_there twice early
chunk_faults =
    check_gives (module_of 3 ((0x58 ∷ []) ∷ [])) 4 8
    ∷ check_gives (module_of 3 ((0x58 ∷ 0x58 ∷ 0x58 ∷ 0x58 ∷ 0 ∷ 0 ∷ 0 ∷ []) ∷ [])) 4 8
    -- 4 (7 bytes left) before 5: none of them is a letter.
    ∷ check_gives (module_of 3 (replicate 7 0 ∷ [])) 4 8
    ∷ check_gives (module_of 3 (chunk before_a [] ∷ [])) 5 8
    ∷ check_gives (module_of 3 (none_there ∷ chunk after_z [] ∷ [])) 5 26
    -- 5 before 4 (data past the end).
    ∷ check_gives (module_of 3 (chunk_saying 1 after_z [] ∷ [])) 5 8
    ∷ check_gives (module_of 3 (chunk_saying 1 other [] ∷ [])) 4 8
    ∷ check_gives (module_of 3 (none_there ∷ chunk_saying 2 other (0 ∷ []) ∷ [])) 4 26
    -- 4 before 6, before 7 and before 9: INFO again, SONG before INFO, NAME of 43 bytes, each cut.
    ∷ check_gives (module_of 3 (none_there ∷ chunk_saying 10 info_letters (replicate 9 0) ∷ [])) 4 26
    ∷ check_gives (module_of 3 (chunk_saying 1 song_letters [] ∷ [])) 4 8
    ∷ check_gives (module_of 3 (chunk_saying 43 name_letters [] ∷ [])) 4 8
    -- 6, for each covered chunk. VENV and PENV without a count are 11, which comes later.
    ∷ check_gives (module_of 3 (name 44 ∷ name 44 ∷ [])) 6 60
    ∷ check_gives (module_of 3 (none_there ∷ none_there ∷ [])) 6 26
    ∷ check_gives (twice song_letters) 6 34
    ∷ check_gives (twice inst_letters) 6 34
    ∷ check_gives (twice patt_letters) 6 34
    ∷ check_gives (twice smpl_letters) 6 34
    ∷ check_gives (twice venv_letters) 6 34
    ∷ check_gives (twice penv_letters) 6 34
    -- Other chunks may repeat: the refusal is 8.
    ∷ check_gives (twice other) 8 42
    -- 6 before 9 and before 10: NAME again, of 43 bytes; INFO again, with 5 tracks.
    ∷ check_gives (module_of 3 (name 44 ∷ name 43 ∷ [])) 6 60
    ∷ check_gives (module_of 3 (none_there ∷ info 0 0 0 0 5 ∷ [])) 6 26
    -- 7, for each of the four.
    ∷ check_gives (early song_letters) 7 8
    ∷ check_gives (early inst_letters) 7 8
    ∷ check_gives (early patt_letters) 7 8
    ∷ check_gives (early smpl_letters) 7 8
    -- No input shows 6 and 7 of one chunk: if one of the four occurs twice before INFO, the first occurrence already gives 7.
    ∷ check_gives (module_of 3 (chunk song_letters [] ∷ chunk song_letters [] ∷ [])) 7 8
    ∷ check_gives (module_of 3 (name 44 ∷ name 44 ∷ chunk song_letters [] ∷ [])) 6 60
    -- 7 and 9 are faults of different chunks: the fault of the earlier chunk comes first, be it 7 or 9.
    ∷ check_gives (module_of 3 (chunk song_letters [] ∷ name 43 ∷ [])) 7 8
    ∷ check_gives (module_of 3 (name 43 ∷ chunk song_letters [] ∷ [])) 9 8
    -- 9: NAME of 43 and of 45 bytes; INFO of 9 bytes, at 60.
    ∷ check_gives (module_of 3 (name 43 ∷ [])) 9 8
    ∷ check_gives (module_of 3 (name 45 ∷ [])) 9 8
    ∷ check_gives (module_of 3 (name 44 ∷ chunk info_letters (replicate 9 0) ∷ [])) 9 60
    -- 9 before 10: INFO of 11 bytes, in which the tracks are 0.
    ∷ check_gives (module_of 3 (chunk info_letters (replicate 11 0) ∷ [])) 9 8
    ∷ []

-- 10 at each field of INFO, the lowest offset first: in each row this field and all after it are out of range. All mandatory chunks but
-- INFO are missing, so 10 comes before 8.
info_faults : List Worked
unfolding check_gives module_of info
info_faults =
    check_gives (module_of 3 (info 256 256 32768 1025 5 ∷ [])) 10 16
    ∷ check_gives (module_of 3 (info 255 256 32768 1025 5 ∷ [])) 10 18
    ∷ check_gives (module_of 3 (info 255 255 32768 1025 5 ∷ [])) 10 20
    ∷ check_gives (module_of 3 (info 255 255 32767 1025 5 ∷ [])) 10 22
    ∷ check_gives (module_of 3 (info 255 255 32767 1024 5 ∷ [])) 10 24
    -- The fault of an earlier chunk comes before that of a later one, although 10 is listed last: after INFO a byte is left (4), or INFO
    -- again (6).
    ∷ check_gives (module_of 3 (info 0 0 0 0 2 ∷ (0 ∷ []) ∷ [])) 10 24
    ∷ check_gives (module_of 3 (info 0 0 0 0 256 ∷ info 0 0 0 0 4 ∷ [])) 10 24
    ∷ []

-- The module of 58 bytes without records: INFO at 8, SONG at 26, INST at 34, PATT at 42, SMPL at 50.
smallest : List ℕ
unfolding content
smallest = content [] [] [] [] []

-- INFO and three empty chunks; the end is at 50.
three : List ℕ → List ℕ → List ℕ → List ℕ
unfolding module_of none_there chunk
three a b c = module_of 3 (none_there ∷ chunk a [] ∷ chunk b [] ∷ chunk c [] ∷ [])

-- 8, at the module's length.
missing : List Worked
unfolding check_gives module_of chunk info name smallest three
missing =
    check_gives smallest 0 0
    -- Document 01's example: the 58 bytes cut after INST.
    ∷ check_gives (take 42 smallest) 8 42
    ∷ check_gives (module_of 3 []) 8 8
    ∷ check_gives (module_of 3 (name 44 ∷ [])) 8 60
    -- Each of the four.
    ∷ check_gives (three inst_letters patt_letters smpl_letters) 8 50
    ∷ check_gives (three song_letters patt_letters smpl_letters) 8 50
    ∷ check_gives (three song_letters inst_letters smpl_letters) 8 50
    ∷ check_gives (three song_letters inst_letters patt_letters) 8 50
    -- 8 before 11: SONG has no song, and INFO says 1.
    ∷ check_gives (module_of 3 (info 0 0 1 0 4 ∷ chunk song_letters [] ∷ chunk inst_letters [] ∷ chunk patt_letters [] ∷ [])) 8 50
    ∷ []

-- The chunks in the reverse order of the checks from 11 on: INFO at 8, PENV at 26, then VENV, SMPL, PATT, INST and SONG.
reversed : List ℕ → List ℕ → List ℕ → List ℕ → List ℕ → List ℕ
unfolding module_of chunk
reversed numbers penv venv inst song =
    module_of 3
    (numbers
    ∷ penv
    ∷ venv
    ∷ chunk smpl_letters []
    ∷ chunk patt_letters []
    ∷ chunk inst_letters inst
    ∷ chunk song_letters song
    ∷ [])

-- PENV without data at 26, VENV at 34; if VENV has no data either, SMPL is at 42, PATT at 50, INST at 58 and SONG at 66, all empty.
unfilled : ℕ → ℕ → ℕ → ℕ → List ℕ → List ℕ
unfolding reversed info chunk
unfilled instruments samples songs patterns venv =
    reversed (info instruments samples songs patterns 4) (chunk penv_letters []) (chunk venv_letters venv) [] []

-- An instrument with this sample, volume, panning and flags, without a loop.
plain : ℕ → ℕ → ℕ → ℕ → List ℕ
unfolding full_instrument
plain sample volume panning flags = full_instrument sample volume (replicate 4 0) (replicate 4 0) panning flags

-- 11 for SONG, INST, PATT, SMPL, VENV, PENV, at the chunk's header.
block_faults : List Worked
unfolding check_gives unfilled content plain chunk song sample
block_faults =
    -- In each row this chunk and all that are listed after it do not have what INFO says, or have no count.
    check_gives (unfilled 1 1 1 1 []) 11 66
    ∷ check_gives (unfilled 1 1 0 1 []) 11 58
    ∷ check_gives (unfilled 0 1 0 1 []) 11 50
    ∷ check_gives (unfilled 0 1 0 0 []) 11 42
    ∷ check_gives (unfilled 0 0 0 0 []) 11 34
    -- VENV with the count 0 is correct.
    ∷ check_gives (unfilled 0 0 0 0 (0 ∷ 0 ∷ [])) 11 26
    -- A byte too many in SONG at 26 and in INST at 34; in PATT at 42 a stream of one byte, without its filler.
    ∷ check_gives (content ((song [] ++ (0 ∷ [])) ∷ []) [] [] [] []) 11 26
    ∷ check_gives (content [] ((plain 0 0 0 0 ++ (0 ∷ [])) ∷ []) [] [] []) 11 34
    ∷ check_gives (content [] [] ((0 ∷ 1 ∷ 0 ∷ 0 ∷ 0 ∷ 1 ∷ 0 ∷ []) ∷ []) [] []) 11 42
    -- In SMPL at 50 a frame too few; flags 0 and 3; and flags 8 before VENV at 66, which has no count.
    ∷ check_gives (content [] [] [] (sample 1 2 (0 ∷ []) ∷ []) []) 11 50
    ∷ check_gives (content [] [] [] (sample 0 0 [] ∷ []) []) 11 50
    ∷ check_gives (content [] [] [] (sample 1 0 [] ∷ sample 3 0 [] ∷ []) []) 11 50
    ∷ check_gives (content [] [] [] (sample 8 0 [] ∷ []) (chunk venv_letters [] ∷ [])) 11 50
    -- In VENV at 58 the count 1 and no envelope.
    ∷ check_gives (content [] [] [] [] (chunk venv_letters (0 ∷ 1 ∷ []) ∷ [])) 11 58
    -- 11 before 12: PENV at 106 has no count; the song at 34 has an entry, at 80, and there is no pattern.
    ∷ check_gives (content (song (0 ∷ []) ∷ []) [] [] [] (chunk penv_letters [] ∷ [])) 11 106
    ∷ []

-- 12 and 13 of songs and instruments. Without songs the first instrument is at 42: sample at 72, volume at 74, panning at 88, flags at 90.
field_faults : List Worked
unfolding check_gives content song plain pattern
field_faults =
    -- A song at 34, its entries at 80 and 82; with one pattern, pattern 0 exists and pattern 1 does not.
    check_gives (content (song (0 ∷ []) ∷ []) [] [] [] []) 12 80
    ∷ check_gives (content (song (0 ∷ 1 ∷ []) ∷ []) [] (pattern 0 [] ∷ []) [] []) 12 82
    ∷ check_gives (content (song (1 ∷ 1 ∷ []) ∷ []) [] (pattern 0 [] ∷ []) [] []) 12 80
    -- A song without entries at 34, the next at 80: its entry is at 126.
    ∷ check_gives (content (song [] ∷ song (0 ∷ []) ∷ []) [] [] [] []) 12 126
    -- Sample, volume, panning, flags: in each row this field and all after it are wrong.
    ∷ check_gives (content [] (plain 1 65 129 4 ∷ []) [] [] []) 12 72
    ∷ check_gives (content [] (plain 0 65 129 4 ∷ []) [] [] []) 13 74
    ∷ check_gives (content [] (plain 0 64 129 4 ∷ []) [] [] []) 13 88
    ∷ check_gives (content [] (plain 0 64 128 4 ∷ []) [] [] []) 13 90
    -- Panning −129 and −128.
    ∷ check_gives (content [] (plain 0 64 0xFF7F 3 ∷ []) [] [] []) 13 88
    ∷ check_gives (content [] (plain 0 64 0xFF80 3 ∷ []) [] [] []) 0 0
    -- The second instrument is at 92, its sample at 122: the order is by field, and not 12 before 13.
    ∷ check_gives (content [] (plain 0 0 0 4 ∷ plain 1 0 0 0 ∷ []) [] [] []) 13 90
    ∷ check_gives (content [] (plain 0 0 0 0 ∷ plain 1 65 129 4 ∷ []) [] [] []) 12 122
    ∷ []

-- An envelope of this instrument without flags and with one point, of this value.
one_value : ℕ → ℕ → List ℕ
unfolding envelope
one_value instrument value = envelope instrument 0 0 0 0 0 0 (value ∷ [])

-- One instrument, one song, no pattern and no sample, reversed: PENV at 26, its envelope at 36 and its value at 46; VENV at 172, its
-- envelope at 182 and its value at 192; SMPL at 318, PATT at 326; INST at 334, the instrument at 342, its sample at 372 and its flags at
-- 390; SONG at 392, the song at 400, its entry at 446.
fields : List ℕ → List ℕ → List ℕ → List ℕ → List ℕ
unfolding reversed info one_envelope song
fields entries instrument venv penv =
    reversed (info 1 0 1 0 4) (one_envelope penv_letters penv) (one_envelope venv_letters venv) instrument (song entries)

-- 12 and 13 in the order SONG, INST, VENV, PENV, wherever the chunks are.
field_order : List Worked
unfolding check_gives fields plain one_value
field_order =
    check_gives (fields (0 ∷ []) (plain 1 65 129 4) (one_value 0 65) (one_value 2 129)) 12 446
    ∷ check_gives (fields [] (plain 1 65 129 4) (one_value 0 65) (one_value 2 129)) 12 372
    ∷ check_gives (fields [] (plain 0 0 0 4) (one_value 0 65) (one_value 2 129)) 13 390
    ∷ check_gives (fields [] (plain 0 0 0 0) (one_value 0 65) (one_value 2 129)) 12 182
    ∷ check_gives (fields [] (plain 0 0 0 0) (one_value 1 65) (one_value 2 129)) 13 192
    ∷ check_gives (fields [] (plain 0 0 0 0) (one_value 1 64) (one_value 2 129)) 12 36
    ∷ check_gives (fields [] (plain 0 0 0 0) (one_value 1 64) (one_value 1 129)) 13 46
    ∷ check_gives (fields [] (plain 0 0 0 0) (one_value 1 64) (one_value 1 128)) 0 0
    ∷ []

-- A module with one instrument and a chunk of one envelope after INFO: the chunk is at 26, the envelope at 36: instrument at 36, flags at
-- 38, sections at 39, S1 at 40, L1 at 41, L2 at 42, S2 at 43, the values of the first points at 46, 50, 54 and 58.
enveloped : ℕ → List ℕ → List ℕ → List ℕ
unfolding module_of info one_envelope chunk plain
enveloped version letters bytes =
    module_of version
    (info 1 0 0 0 4
    ∷ one_envelope letters bytes
    ∷ chunk song_letters []
    ∷ chunk inst_letters (plain 0 0 0 0)
    ∷ chunk patt_letters []
    ∷ chunk smpl_letters []
    ∷ [])

-- The check of a module with this volume envelope: instrument, flags, sections, S1, L1, L2, S2, values.
volume_gives : List ℕ → ℕ → ℕ → Worked
unfolding check_gives enveloped
volume_gives bytes number place = check_gives (enveloped 3 venv_letters bytes) number place

-- Within an envelope: instrument, flags, sections, S1, L1, L2, S2, values.
envelope_faults : List Worked
unfolding volume_gives envelope one_value
envelope_faults =
    -- In each row this field and all after it are wrong. The flags 0x1E have bits 1 to 3 and one that must be zero.
    volume_gives (envelope 0 0x1E 32 33 33 33 33 (65 ∷ [])) 12 36
    ∷ volume_gives (envelope 2 0x1E 32 33 33 33 33 (65 ∷ [])) 12 36
    ∷ volume_gives (envelope 1 0x1E 32 33 33 33 33 (65 ∷ [])) 13 38
    ∷ volume_gives (envelope 1 0x0E 32 33 33 33 33 (65 ∷ [])) 13 39
    ∷ volume_gives (envelope 1 0x0E 2 3 3 3 3 (65 ∷ [])) 13 40
    ∷ volume_gives (envelope 1 0x0E 2 2 3 3 3 (65 ∷ [])) 13 41
    ∷ volume_gives (envelope 1 0x0E 2 2 2 3 3 (65 ∷ [])) 13 42
    -- L1 over L2: at L2.
    ∷ volume_gives (envelope 1 0x0E 2 2 2 1 3 (65 ∷ [])) 13 42
    ∷ volume_gives (envelope 1 0x0E 2 2 2 2 3 (65 ∷ [])) 13 43
    ∷ volume_gives (envelope 1 0x0E 2 2 2 2 2 (65 ∷ 65 ∷ [])) 13 46
    ∷ volume_gives (envelope 1 0x0E 2 2 2 2 2 (64 ∷ 65 ∷ 65 ∷ [])) 13 50
    -- The points in use are sections + 1: the third is the last.
    ∷ volume_gives (envelope 1 0x0E 2 2 2 2 2 (64 ∷ 64 ∷ 65 ∷ [])) 13 54
    ∷ volume_gives (envelope 1 0x0E 2 2 2 2 2 (64 ∷ 64 ∷ 64 ∷ 65 ∷ [])) 0 0
    -- Bits 0, 1, 2 and 3 alone: with 0 nothing is checked, with 1 S1, with 2 L1 and L2, with 3 S2.
    ∷ volume_gives (envelope 1 1 2 3 3 3 3 []) 0 0
    ∷ volume_gives (envelope 1 2 2 3 3 3 3 []) 13 40
    ∷ volume_gives (envelope 1 4 2 3 3 3 3 []) 13 41
    ∷ volume_gives (envelope 1 8 2 3 3 3 3 []) 13 43
    -- PENV: the instrument; the flags; values in version 3 and in version 2.
    ∷ check_gives (enveloped 3 penv_letters (envelope 2 0x1E 32 33 33 33 33 (129 ∷ []))) 12 36
    ∷ check_gives (enveloped 3 penv_letters (envelope 1 0x1E 32 33 33 33 33 (129 ∷ []))) 13 38
    ∷ check_gives (enveloped 3 penv_letters (one_value 1 0xFF7F)) 13 46
    ∷ check_gives (enveloped 3 penv_letters (one_value 1 65)) 0 0
    ∷ check_gives (enveloped 2 penv_letters (one_value 1 65)) 13 46
    ∷ []

-- A looped instrument without a sample, with these flags.
loop_without_sample : ℕ → List ℕ
unfolding instrument
loop_without_sample flags = instrument 0 (replicate 4 0) (0 ∷ 0 ∷ 0 ∷ 1 ∷ []) flags

-- PATT at 26 has a pattern at 34 whose row end is missing; INST at 40 has a looped instrument without a sample, at 48.
patt_first : List ℕ
unfolding module_of info chunk pattern loop_without_sample
patt_first =
    module_of 3
    (info 1 0 0 1 4
    ∷ chunk patt_letters (pattern 1 [])
    ∷ chunk inst_letters (loop_without_sample 1)
    ∷ chunk song_letters []
    ∷ chunk smpl_letters []
    ∷ [])

-- 14 at the instrument's block, by instrument; then 15 at the pattern's block, by pattern. Without songs the first instrument is at 42, the
-- second at 92; without instruments as well the first pattern is at 50.
loop_and_stream_faults : List Worked
unfolding check_gives content loop_without_sample patt_first plain instrument sample pattern one_value one_envelope
loop_and_stream_faults =
    check_gives (content [] (loop_without_sample 1 ∷ loop_without_sample 1 ∷ []) [] [] []) 14 42
    ∷ check_gives (content [] (loop_without_sample 0 ∷ loop_without_sample 2 ∷ []) [] [] []) 14 92
    -- Two frames: a loop of two from 1 on ends after the sample, from 0 on it does not.
    ∷ check_gives (content [] (instrument 1 (0 ∷ 0 ∷ 0 ∷ 1 ∷ []) (0 ∷ 0 ∷ 0 ∷ 2 ∷ []) 1 ∷ []) [] (sample 1 2 (0 ∷ 0 ∷ []) ∷ []) []) 14 42
    ∷ check_gives (content [] (instrument 1 (0 ∷ 0 ∷ 0 ∷ 0 ∷ []) (0 ∷ 0 ∷ 0 ∷ 2 ∷ []) 1 ∷ []) [] (sample 1 2 (0 ∷ 0 ∷ []) ∷ []) []) 0 0
    -- 13 before 14: the flags of the second instrument, at 140; a value of PENV, which is at 108, its envelope at 118.
    ∷ check_gives (content [] (loop_without_sample 1 ∷ plain 0 0 0 4 ∷ []) [] [] []) 13 140
    ∷ check_gives (content [] (loop_without_sample 1 ∷ []) [] [] (one_envelope penv_letters (one_value 1 129) ∷ [])) 13 128
    -- 14 before 15.
    ∷ check_gives patt_first 14 48
    -- The first of two patterns; the second, at 56.
    ∷ check_gives (content [] [] (pattern 1 [] ∷ pattern 1 [] ∷ []) [] []) 15 50
    ∷ check_gives (content [] [] (pattern 0 [] ∷ pattern 1 [] ∷ []) [] []) 15 56
    -- The fault may be anywhere in the stream; and a filler is not a row end.
    ∷ check_gives (content [] [] (pattern 2 (0 ∷ 5 ∷ 1 ∷ 0 ∷ []) ∷ []) [] []) 15 50
    ∷ check_gives (content [] [] (pattern 2 (0 ∷ []) ∷ []) [] []) 15 50
    -- Bits 6 and 7 of a mask are not a fault; and they name no field, so that an entry with bit 0 and without a field is cut.
    ∷ check_gives (content [] [] (pattern 1 (1 ∷ 0x41 ∷ 0x47 ∷ 2 ∷ 0xC0 ∷ 0 ∷ []) ∷ []) [] []) 0 0
    ∷ check_gives (content [] [] (pattern 1 (2 ∷ 0xC0 ∷ 1 ∷ 0x41 ∷ []) ∷ []) [] []) 15 50
    ∷ []

-- The number and place of a query's answer; and for a cell that is refused, also that each of its values is 0.
answer_gives : Outcome → ℕ → ℕ → Worked
unfolding gives
answer_gives outcome = gives (outcome_numbers outcome)

cell_gives : Result Cell Refusal → ℕ → ℕ → Worked
cell_gives answer number place = record { found = cell_numbers answer; said = number ∷ place ∷ replicate 9 0 }

-- The 42 bytes with the module's own refusal, 8 at 42.
cut : List ℕ
unfolding smallest
cut = take 42 smallest

-- A stream of 2 rows and 4 tracks, with one entry of two fields: 6 bytes.
entry_stream : List ℕ
entry_stream = 0x02 ∷ 0x03 ∷ 0x47 ∷ 0x01 ∷ 0x00 ∷ 0x00 ∷ []

-- An accepted module with one record of each kind except envelopes: a song of one entry, an instrument, a pattern of 2 rows and 4 tracks,
-- and a sample of 2 frames.
one_of_each : List ℕ
unfolding content song plain pattern entry_stream sample
one_of_each = content (song (0 ∷ []) ∷ []) (plain 1 0 0 0 ∷ []) (pattern 2 entry_stream ∷ []) (sample 1 2 (0 ∷ 0 ∷ []) ∷ []) []

-- An accepted module with one volume envelope.
one_volume : List ℕ
unfolding enveloped one_value
one_volume = enveloped 3 venv_letters (one_value 1 0)

-- The module's own refusal, before 18 and 17: `cut` has none of the requested records, and there is no room.
own_refusals : List Worked
unfolding answer_gives cell_gives cut
own_refusals =
    answer_gives (version_answer cut).outcome 8 42
    ∷ answer_gives (name_answer cut).outcome 8 42
    ∷ answer_gives (info_answer cut).outcome 8 42
    ∷ answer_gives (song_answer cut 0).outcome 8 42
    ∷ answer_gives (entry_answer cut 0 0).outcome 8 42
    ∷ answer_gives (playlist_answer cut 0 0).outcome 8 42
    ∷ answer_gives (instrument_answer cut 0).outcome 8 42
    ∷ answer_gives (count_answer cut Panning).outcome 8 42
    ∷ answer_gives (envelope_answer cut Volume 0).outcome 8 42
    ∷ answer_gives (rows_answer cut 0).outcome 8 42
    ∷ cell_gives (cell_answer cut 0 0 0) 8 42
    ∷ answer_gives (pattern_answer cut 0 0).outcome 8 42
    ∷ answer_gives (sample_answer cut 0).outcome 8 42
    ∷ answer_gives (frames_answer cut 0).outcome 8 42
    ∷ answer_gives (frame_answer cut 0 0).outcome 8 42
    ∷ answer_gives (all_frames_answer cut 0 0).outcome 8 42
    ∷ []

-- 18 at 0, then 17 at the needed length. Instruments, samples and tracks are counted from 1, all else from 0.
queries : List Worked
unfolding check_gives answer_gives cell_gives one_of_each one_volume
queries =
    check_gives one_of_each 0 0
    ∷ answer_gives (song_answer one_of_each 1).outcome 18 0
    ∷ answer_gives (entry_answer one_of_each 0 1).outcome 18 0
    ∷ answer_gives (entry_answer one_of_each 1 0).outcome 18 0
    ∷ answer_gives (instrument_answer one_of_each 0).outcome 18 0
    ∷ answer_gives (instrument_answer one_of_each 2).outcome 18 0
    ∷ answer_gives (envelope_answer one_volume Volume 0).outcome 0 0
    ∷ answer_gives (envelope_answer one_volume Volume 1).outcome 18 0
    ∷ answer_gives (envelope_answer one_volume Panning 0).outcome 18 0
    ∷ answer_gives (rows_answer one_of_each 1).outcome 18 0
    ∷ answer_gives (sample_answer one_of_each 0).outcome 18 0
    ∷ answer_gives (sample_answer one_of_each 2).outcome 18 0
    ∷ answer_gives (frames_answer one_of_each 2).outcome 18 0
    ∷ answer_gives (frame_answer one_of_each 1 2).outcome 18 0
    ∷ answer_gives (frame_answer one_of_each 2 0).outcome 18 0
    -- A cell: no such pattern, row, track.
    ∷ cell_gives (cell_answer one_of_each 1 0 1) 18 0
    ∷ cell_gives (cell_answer one_of_each 0 2 1) 18 0
    ∷ cell_gives (cell_answer one_of_each 0 0 0) 18 0
    ∷ cell_gives (cell_answer one_of_each 0 0 5) 18 0
    -- 18 before 17: there is no room.
    ∷ answer_gives (playlist_answer one_of_each 1 0).outcome 18 0
    ∷ answer_gives (pattern_answer one_of_each 1 0).outcome 18 0
    ∷ answer_gives (all_frames_answer one_of_each 2 0).outcome 18 0
    -- 17: an entry of 2 bytes; 2 rows of 4 cells of 6 bytes; 2 frames of 2 bytes.
    ∷ answer_gives (playlist_answer one_of_each 0 1).outcome 17 2
    ∷ answer_gives (pattern_answer one_of_each 0 47).outcome 17 48
    ∷ answer_gives (all_frames_answer one_of_each 1 3).outcome 17 4
    -- With exactly that room there is no refusal.
    ∷ answer_gives (playlist_answer one_of_each 0 2).outcome 0 0
    ∷ answer_gives (pattern_answer one_of_each 0 48).outcome 0 0
    ∷ answer_gives (all_frames_answer one_of_each 1 4).outcome 0 0
    ∷ []

-- An accepted module with 1 song, 2 instruments, 3 patterns and 4 samples. INFO is at 8, SONG with 46 bytes of data at 26, INST with 100 at
-- 80, PATT with 36 at 188 and SMPL with 40 at 232.
many_of_each : List ℕ
unfolding content song plain pattern entry_stream sample
many_of_each =
    let i = plain 1 0 0 0 in
    let p = pattern 2 entry_stream in
    let s = sample 1 2 (0 ∷ 0 ∷ []) in
    content (song [] ∷ []) (i ∷ i ∷ []) (p ∷ p ∷ p ∷ []) (s ∷ s ∷ s ∷ s ∷ []) []

-- An outline, and a block that is found, in numbers: all values of an answer.
values : List Worked
unfolding many_of_each
values =
    record {
      found = outline_numbers (opened many_of_each);
      said =
          0 ∷ 0 ∷ 3 ∷ 0 ∷ 2 ∷ 4 ∷ 1 ∷ 3 ∷ 4
          ∷ 0 ∷ 0 ∷ 0 ∷ 1 ∷ 8 ∷ 10 ∷ 1 ∷ 26 ∷ 46 ∷ 1 ∷ 80 ∷ 100 ∷ 1 ∷ 188 ∷ 36 ∷ 1 ∷ 232 ∷ 40 ∷ 0 ∷ 0 ∷ 0 ∷ 0 ∷ 0 ∷ 0 ∷ [];
    }
    ∷ record { found = found_numbers (found_block many_of_each Instrument 2); said = 0 ∷ 0 ∷ 138 ∷ 3 ∷ 4 ∷ [] }
    ∷ record { found = found_numbers (found_block many_of_each Instrument 3); said = 18 ∷ 0 ∷ 0 ∷ 0 ∷ 0 ∷ [] }
    ∷ []

-- The number and place of the answers of unpacking, packing and repacking.
unpacked : List ℕ → ℕ → ℕ → ℕ → List ℕ
unpacked stream rows tracks room = take 2 (value_numbers (unpack_answer stream rows tracks room))

packed : List ℕ → ℕ → ℕ → ℕ → List ℕ
packed cells rows tracks room = take 2 (value_numbers (pack_answer cells rows tracks room))

repacked : List ℕ → ℕ → ℕ → ℕ → List ℕ
repacked stream rows tracks room = take 2 (value_numbers (repack_stream_answer stream rows tracks room))

-- A stream that is broken at its front: no mask follows the track.
broken : List ℕ
broken = 255 ∷ []

-- Streams: the check 16, 15; unpacking 16, 17, 15; packing 16, 17; repacking 16, 15, 17; a cell 16, 18, 15.
streams : List Worked
unfolding gives cell_gives checked unpacked packed repacked broken entry_stream
streams =
    -- 16 before 15: rows 65,536; tracks 2, 5 and 256.
    gives (checked 65536 4 broken) 16 0
    ∷ gives (checked 1 2 broken) 16 0
    ∷ gives (checked 1 5 broken) 16 0
    ∷ gives (checked 1 256 broken) 16 0
    -- 15 at the faulty entry: a track that does not exist, also with bits 6 and 7 set in the mask; cut within its fields, also with bit 6
    -- set; cut before its mask.
    ∷ gives (checked 2 4 (0 ∷ 5 ∷ 0 ∷ 0 ∷ [])) 15 1
    ∷ gives (checked 2 4 (0 ∷ 5 ∷ 0xC0 ∷ 0 ∷ [])) 15 1
    ∷ gives (checked 1 4 (1 ∷ 0 ∷ 2 ∷ 3 ∷ 0x47 ∷ [])) 15 2
    ∷ gives (checked 1 4 (1 ∷ 1 ∷ 0x47 ∷ 2 ∷ 0x43 ∷ 0x47 ∷ [])) 15 3
    ∷ gives (checked 2 4 (0 ∷ 1 ∷ [])) 15 1
    -- 15 at the first byte left over, and at the stream's length if row ends are missing.
    ∷ gives (checked 1 4 (1 ∷ 0 ∷ 0 ∷ 0 ∷ 5 ∷ [])) 15 3
    ∷ gives (checked 1 4 (1 ∷ 0 ∷ [])) 15 2
    ∷ gives (checked 1 4 (1 ∷ 0xC0 ∷ [])) 15 2
    -- Unpacking: 16 before 17 and before 15; 17 before 15; 15.
    ∷ gives (unpacked broken 65536 4 0) 16 0
    ∷ gives (unpacked broken 1 2 0) 16 0
    ∷ gives (unpacked broken 1 2 12) 16 0
    ∷ gives (unpacked broken 1 4 23) 17 24
    ∷ gives (unpacked broken 1 4 24) 15 0
    ∷ gives (unpacked entry_stream 2 4 47) 17 48
    ∷ gives (unpacked entry_stream 2 4 48) 0 0
    -- Packing: 16 for cells of a wrong length, for tracks 2, 5 and 256 and for rows 65,536; before 17, as there is no room.
    ∷ gives (packed (replicate 23 1) 1 4 0) 16 0
    ∷ gives (packed (replicate 25 1) 1 4 0) 16 0
    ∷ gives (packed (replicate 12 1) 1 2 0) 16 0
    ∷ gives (packed (replicate 30 1) 1 5 0) 16 0
    ∷ gives (packed [] 0 256 0) 16 0
    ∷ gives (packed [] 65536 4 0) 16 0
    -- 17: 1 row of 4 tracks without a zero field is 33 bytes; the stream of `entry_stream` is 6.
    ∷ gives (packed (replicate 24 1) 1 4 32) 17 33
    ∷ gives (packed (replicate 24 1) 1 4 33) 0 0
    ∷ gives (packed (cells_read 2 4 entry_stream) 2 4 5) 17 6
    -- Repacking: 16 before 15, 15 before 17, 17.
    ∷ gives (repacked broken 1 2 0) 16 0
    ∷ gives (repacked broken 1 4 0) 15 0
    ∷ gives (repacked entry_stream 2 4 5) 17 6
    ∷ gives (repacked entry_stream 2 4 6) 0 0
    -- A cell: 16 before 18; 18 before 15; 15.
    ∷ cell_gives (cell_of broken 1 2 1 1) 16 0
    ∷ cell_gives (cell_of broken 1 4 1 1) 18 0
    ∷ cell_gives (cell_of broken 1 4 0 0) 18 0
    ∷ cell_gives (cell_of broken 1 4 0 5) 18 0
    ∷ cell_gives (cell_of broken 1 4 0 1) 15 0
    ∷ []

-- The table.
pub worked : List Worked
unfolding headers chunk_faults info_faults missing block_faults field_faults field_order envelope_faults
    loop_and_stream_faults own_refusals queries values streams
worked =
    joined
    (headers
    ∷ chunk_faults
    ∷ info_faults
    ∷ missing
    ∷ block_faults
    ∷ field_faults
    ∷ field_order
    ∷ envelope_faults
    ∷ loop_and_stream_faults
    ∷ own_refusals
    ∷ queries
    ∷ values
    ∷ streams
    ∷ [])

-- The statement: both columns are equal.
pub refusals-agree : map (λ (w : Worked). w.found) worked ≡ map (λ (w : Worked). w.said) worked
unfolding worked same_each read_from reading byte_at number16 number32 chunks_from chunks size_of
refusals-agree = same-rows (map (λ (w : Worked). w.found) worked) (map (λ (w : Worked). w.said) worked) refl

-- Number 1: a list that is too long.
pub too-long : (m : List ℕ) → 16777216 < length m → module_verdict m ≡ Err (record { number = 1; place = 0 })
too-long m long = simp (lt-leb _ _ long)
