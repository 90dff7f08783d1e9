-- Worked comparisons of small modules and of streams, as one computed table: what the definitions give, and what document 02, K2, says, as
-- numbers. The places of refusals are counted by hand from the lengths in `SmallModules`. If a row is wrong, the checker does not say which:
-- shorten `worked_comparisons` until the row is left.
use Prim.Native.Nat.{ℕ, ◌*◌, ◌+◌}
use mathlib.Core.Path.{◌≡◌, refl}
use mathlib.Core.List.{List, [], ◌∷◌, ◌++◌, map}
use lib.ListN.{length, replicate}
use Rattle.vocabulary.specs.Lists.{joined}
use Rattle.refusal.specs.Lengths.{value_numbers}
use Rattle.vocabulary.specs.Letters.{name_letters, song_letters, inst_letters, patt_letters, smpl_letters, venv_letters, penv_letters}
use Rattle.numbers.specs.Numbers.{byte_at, number16, number32, put_at}
use Rattle.packed_rows.specs.Stream.{read_from, reading}
use Rattle.packed_rows.specs.Comparing.{compare_streams_answer, compare_streams_output}
use Rattle.layout.specs.Chunks.{chunks_from, chunks}
use Rattle.blocks.specs.Sizes.{size_of}
use Rattle.records.specs.Records.{record_at}
use Rattle.query_theorems.proofs.Tables.{same_each, same-rows}
use Rattle.query_theorems.proofs.SmallModules.{chunk, module_of, info, content, song, full_instrument, instrument, pattern, sample, envelope, one_envelope}
use Rattle.compare.specs.Compared.{compare_answer, compare_output}
use Rattle.compare.specs.declared.CompareAnswer.{CompareAnswer}

-- A row of the table.
pub record WorkedComparison : Type 0 where
  pub found : List ℕ
  pub said : List ℕ

-- The answer in numbers: number, place, and how many entries.
answer_numbers : CompareAnswer → List ℕ
answer_numbers a = a.outcome.number ∷ a.outcome.place ∷ a.entries ∷ []

answers : List ℕ → List ℕ → ℕ → ℕ → ℕ → ℕ → WorkedComparison
unfolding answer_numbers
answers m k room number place entries = record { found = answer_numbers (compare_answer m k room); said = number ∷ place ∷ entries ∷ [] }

-- An entry whose numbers are below 256.
entry : ℕ → ℕ → ℕ → ℕ → ℕ → List ℕ
entry kind number row track field = 0 ∷ kind ∷ 0 ∷ number ∷ 0 ∷ row ∷ 0 ∷ track ∷ 0 ∷ field ∷ []

-- The answer, and what an output of 170s that is 2 bytes longer than needed then holds: these entries, and the 170s after them.
lists : List ℕ → List ℕ → List (List ℕ) → WorkedComparison
unfolding answer_numbers
lists m k entries = record {
  found = answer_numbers (compare_answer m k (10 * length entries + 2)) ++ compare_output m k (replicate (10 * length entries + 2) 170);
  said = (0 ∷ 0 ∷ length entries ∷ []) ++ (joined entries ++ (170 ∷ 170 ∷ []));
}

-- What an output of 170s then holds.
outputs : List ℕ → List ℕ → ℕ → List ℕ → WorkedComparison
outputs m k room said = record { found = compare_output m k (replicate room 170); said = said }

-- Two streams with these rows and 4 tracks, as pattern 5: the answer in numbers, and the output.
streams : List ℕ → List ℕ → ℕ → ℕ → List ℕ → List ℕ → WorkedComparison
streams a b rows room answer said = record {
  found = value_numbers (compare_streams_answer a b rows 4 5) ++ compare_streams_output a b rows 4 5 (replicate room 170);
  said = answer ++ said;
}

-- Modules of 4 tracks with one thing each.
songs : List (List ℕ) → List ℕ
unfolding content pattern
songs all = content all [] (pattern 0 [] ∷ []) [] []

instruments : List (List ℕ) → List ℕ
unfolding content
instruments all = content [] all [] [] []

patterns : List (List ℕ) → List ℕ
unfolding content
patterns all = content [] [] all [] []

samples : List (List ℕ) → List ℕ
unfolding content
samples all = content [] [] [] all []

named : List ℕ → List ℕ
unfolding content chunk
named bytes = content [] [] [] [] (chunk name_letters (bytes ++ replicate 43 0) ∷ [])

-- A pattern of no rows, in a module of 6 tracks.
six_tracks : List ℕ
unfolding module_of info chunk pattern
six_tracks =
    module_of 3 (info 0 0 0 1 6 ∷ chunk song_letters [] ∷ chunk inst_letters [] ∷ chunk patt_letters (pattern 0 []) ∷ chunk smpl_letters [] ∷ [])

-- An instrument, and one envelope of it; for panning also with a version.
plain : List ℕ
unfolding instrument
plain = instrument 0 (replicate 4 0) (replicate 4 0) 0

enveloped : ℕ → List ℕ → List ℕ → List ℕ
unfolding module_of info chunk one_envelope plain
enveloped version letters bytes =
    module_of version
    (info 1 0 0 0 4 ∷ chunk song_letters [] ∷ chunk inst_letters plain ∷ chunk patt_letters [] ∷ chunk smpl_letters [] ∷ one_envelope letters bytes ∷ [])

volume : ℕ → ℕ → List ℕ → List ℕ
unfolding enveloped envelope
volume sections s1 values = enveloped 3 venv_letters (envelope 1 0 sections s1 0 0 0 values)

panning : ℕ → List ℕ → List ℕ
unfolding enveloped envelope
panning version values = enveloped version penv_letters (envelope 1 0 2 0 0 0 0 values)

-- An instrument whose loop is outside its sample: 14 at its block, which is at 42.
outside : List ℕ
unfolding content instrument sample
outside = content [] (instrument 1 (0 ∷ 0 ∷ 0 ∷ 2 ∷ []) (0 ∷ 0 ∷ 0 ∷ 2 ∷ []) 1 ∷ []) [] (sample 1 3 (7 ∷ 8 ∷ 9 ∷ []) ∷ []) []

-- The list of differences of two modules, kind by kind.
listed_rows : List WorkedComparison
unfolding lists entry songs instruments patterns samples named six_tracks volume panning song instrument full_instrument plain pattern sample
listed_rows =
    -- Nothing differs: a module and itself; a missing name and zeros; other packing; other upper bits in a mask.
    lists (samples (sample 1 1 (7 ∷ []) ∷ [])) (samples (sample 1 1 (7 ∷ []) ∷ [])) []
    ∷ lists (named (0 ∷ [])) (samples []) []
    ∷ lists (patterns (pattern 2 (2 ∷ 3 ∷ 0x47 ∷ 1 ∷ 0 ∷ 0 ∷ []) ∷ [])) (patterns (pattern 2 (2 ∷ 1 ∷ 0x47 ∷ 2 ∷ 2 ∷ 1 ∷ 0 ∷ 0 ∷ []) ∷ [])) []
    ∷ lists (patterns (pattern 1 (1 ∷ 0x41 ∷ 0x47 ∷ 0 ∷ []) ∷ [])) (patterns (pattern 1 (1 ∷ 0x81 ∷ 0x47 ∷ 0 ∷ []) ∷ [])) []
    -- 1: the name.
    ∷ lists (named (65 ∷ [])) (named (66 ∷ [])) (entry 1 0 0 0 0 ∷ [])
    ∷ lists (named (65 ∷ [])) (samples []) (entry 1 0 0 0 0 ∷ [])
    -- 2: numbers of INFO, each beside the record that is in one module only.
    ∷ lists (instruments (plain ∷ [])) (instruments (plain ∷ plain ∷ [])) (entry 2 0 0 0 0 ∷ entry 4 2 0 0 0 ∷ [])
    ∷ lists (samples (sample 2 0 [] ∷ [])) (samples []) (entry 2 1 0 0 0 ∷ entry 7 1 0 0 0 ∷ [])
    ∷ lists (songs []) (songs (song [] ∷ [])) (entry 2 2 0 0 0 ∷ entry 3 0 0 0 0 ∷ [])
    ∷ lists (patterns (pattern 0 [] ∷ pattern 0 [] ∷ [])) (patterns []) (entry 2 3 0 0 0 ∷ entry 8 0 0 0 0 ∷ entry 8 1 0 0 0 ∷ [])
    ∷ lists (patterns (pattern 0 [] ∷ [])) six_tracks (entry 2 4 0 0 0 ∷ entry 8 0 0 0 0 ∷ [])
    -- 3: songs, by their playlists.
    ∷ lists (songs (song (0 ∷ []) ∷ song (0 ∷ []) ∷ [])) (songs (song (0 ∷ []) ∷ song (0 ∷ 0 ∷ []) ∷ [])) (entry 3 1 0 0 0 ∷ [])
    -- 4: instruments: volume; loop fields without effect.
    ∷ lists (instruments (plain ∷ plain ∷ [])) (instruments (plain ∷ full_instrument 0 64 (replicate 4 0) (replicate 4 0) 0 0 ∷ [])) (entry 4 2 0 0 0 ∷ [])
    ∷ lists (instruments (plain ∷ [])) (instruments (instrument 0 (0 ∷ 0 ∷ 0 ∷ 1 ∷ []) (replicate 4 0) 0 ∷ [])) (entry 4 1 0 0 0 ∷ [])
    -- 5: volume envelopes: a point in use; one that is not; S1 without its bit; sections.
    ∷ lists (volume 1 0 (1 ∷ 2 ∷ [])) (volume 1 0 (1 ∷ 3 ∷ [])) (entry 5 0 0 0 0 ∷ [])
    ∷ lists (volume 1 0 (1 ∷ 2 ∷ 3 ∷ [])) (volume 1 0 (1 ∷ 2 ∷ 4 ∷ [])) []
    ∷ lists (volume 1 0 (1 ∷ [])) (volume 1 1 (1 ∷ [])) (entry 5 0 0 0 0 ∷ [])
    ∷ lists (volume 1 0 (1 ∷ [])) (volume 2 0 (1 ∷ [])) (entry 5 0 0 0 0 ∷ [])
    -- 6: panning envelopes: 0, 32 and 64 of version 2 are -128, 0 and 128 of version 3; the same stored values differ.
    ∷ lists (panning 2 (0 ∷ 32 ∷ 64 ∷ [])) (panning 3 (65408 ∷ 0 ∷ 128 ∷ [])) []
    ∷ lists (panning 2 (0 ∷ 32 ∷ 64 ∷ [])) (panning 3 (65408 ∷ 0 ∷ 127 ∷ [])) (entry 6 0 0 0 0 ∷ [])
    ∷ lists (panning 3 (0 ∷ 32 ∷ 64 ∷ [])) (panning 2 (0 ∷ 32 ∷ 64 ∷ [])) (entry 6 0 0 0 0 ∷ [])
    -- 7: samples: a frame of 8 bits and one of 16; no frames at two widths; the last of two frames; more frames.
    ∷ lists (samples (sample 1 1 (1 ∷ []) ∷ [])) (samples (sample 2 1 (1 ∷ 0 ∷ []) ∷ [])) (entry 7 1 0 0 0 ∷ [])
    ∷ lists (samples (sample 1 0 [] ∷ [])) (samples (sample 4 0 [] ∷ [])) (entry 7 1 0 0 0 ∷ [])
    ∷ lists (samples (sample 1 2 (1 ∷ 2 ∷ []) ∷ [])) (samples (sample 1 2 (1 ∷ 3 ∷ []) ∷ [])) (entry 7 1 0 0 0 ∷ [])
    ∷ lists (samples (sample 1 2 (1 ∷ 2 ∷ []) ∷ [])) (samples (sample 1 3 (1 ∷ 2 ∷ 0 ∷ []) ∷ [])) (entry 7 1 0 0 0 ∷ [])
    -- 8: patterns: rows; then cells, with the rows before the tracks, and an entry for each field.
    ∷ lists (patterns (pattern 1 (0 ∷ []) ∷ [])) (patterns (pattern 2 (0 ∷ 0 ∷ []) ∷ [])) (entry 8 0 0 0 0 ∷ [])
    ∷ lists (patterns (pattern 2 (2 ∷ 3 ∷ 0x47 ∷ 1 ∷ 0 ∷ 0 ∷ []) ∷ [])) (patterns (pattern 2 (4 ∷ 32 ∷ 9 ∷ 0 ∷ 1 ∷ 4 ∷ 5 ∷ 0 ∷ []) ∷ []))
    (entry 8 0 0 2 1 ∷ entry 8 0 0 2 2 ∷ entry 8 0 0 4 6 ∷ entry 8 0 1 1 3 ∷ [])
    ∷ []

-- The refusals in their order: the first module's, the second's, 17 with 10 bytes for each entry; and what the output then holds.
refused_rows : List WorkedComparison
unfolding answers outputs entry outside samples sample songs song
refused_rows =
    answers [] outside 0 2 0 0
    ∷ answers outside [] 0 14 42 0
    ∷ answers (samples []) [] 1000 2 0 0
    ∷ answers (samples []) outside 0 14 42 0
    ∷ answers (samples []) (samples []) 0 0 0 0
    ∷ answers (songs []) (songs (song [] ∷ [])) 19 17 20 0
    ∷ answers (songs []) (songs (song [] ∷ [])) 0 17 20 0
    ∷ answers (songs []) (songs (song [] ∷ [])) 20 0 0 2
    ∷ outputs (songs []) (songs (song [] ∷ [])) 19 (replicate 19 170)
    ∷ outputs (songs []) (songs (song [] ∷ [])) 20 (entry 2 2 0 0 0 ++ entry 3 0 0 0 0)
    ∷ outputs [] (samples []) 3 (replicate 3 170)
    ∷ outputs (samples []) outside 3 (replicate 3 170)
    ∷ []

-- Two streams: 16 for the rows; the first stream's 15, also if both are broken; the second's; the entries for which there is room; a field
-- that differs beside upper bits of a mask.
stream_rows : List WorkedComparison
unfolding streams entry
stream_rows =
    streams [] [] 65536 3 (16 ∷ 0 ∷ 0 ∷ []) (replicate 3 170)
    ∷ streams (5 ∷ 0 ∷ 0 ∷ []) [] 1 3 (15 ∷ 0 ∷ 0 ∷ []) (replicate 3 170)
    ∷ streams (0 ∷ 0 ∷ []) (5 ∷ 0 ∷ 0 ∷ []) 1 3 (15 ∷ 1 ∷ 0 ∷ []) (replicate 3 170)
    ∷ streams (0 ∷ []) [] 1 3 (15 ∷ 0 ∷ 0 ∷ []) (replicate 3 170)
    ∷ streams [] [] 0 3 (0 ∷ 0 ∷ 0 ∷ []) (replicate 3 170)
    ∷ streams (1 ∷ 3 ∷ 7 ∷ 8 ∷ 0 ∷ []) (0 ∷ []) 1 25 (0 ∷ 0 ∷ 2 ∷ []) (entry 8 5 0 1 1 ++ (entry 8 5 0 1 2 ++ replicate 5 170))
    ∷ streams (1 ∷ 3 ∷ 7 ∷ 8 ∷ 0 ∷ []) (0 ∷ []) 1 15 (0 ∷ 0 ∷ 2 ∷ []) (entry 8 5 0 1 1 ++ replicate 5 170)
    ∷ streams (1 ∷ 3 ∷ 7 ∷ 8 ∷ 0 ∷ []) (0 ∷ []) 1 9 (0 ∷ 0 ∷ 2 ∷ []) (replicate 9 170)
    ∷ streams (1 ∷ 0xC3 ∷ 7 ∷ 8 ∷ 0 ∷ []) (1 ∷ 1 ∷ 7 ∷ 0 ∷ []) 1 15 (0 ∷ 0 ∷ 1 ∷ []) (entry 8 5 0 1 2 ++ replicate 5 170)
    ∷ []

-- The table.
pub worked_comparisons : List WorkedComparison
unfolding listed_rows refused_rows stream_rows
worked_comparisons = listed_rows ++ (refused_rows ++ stream_rows)

-- The statement: both columns are equal.
pub comparisons-agree : map (λ (w : WorkedComparison). w.found) worked_comparisons ≡ map (λ (w : WorkedComparison). w.said) worked_comparisons
unfolding worked_comparisons same_each read_from reading byte_at number16 number32 put_at chunks_from chunks size_of record_at
comparisons-agree =
    same-rows (map (λ (w : WorkedComparison). w.found) worked_comparisons) (map (λ (w : WorkedComparison). w.said) worked_comparisons) refl
