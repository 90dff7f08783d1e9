-- Worked replacements of samples in small modules, as one computed table: what the definitions give, and what document 02, K1, says, as
-- numbers. The numbers are counted by hand from the lengths in `SmallModules`. If a row is wrong, the checker does not say which: shorten
-- `worked_replacements` until the row is left.
use Prim.Native.Nat.{ℕ, ◌%◌, ◌<◌}
use Rattle.std.specs.Prelude.{Ok}
use mathlib.Core.Path.{◌≡◌, refl}
use mathlib.Core.List.{List, [], ◌∷◌, ◌++◌, map}
use mathlib.Core.Bool.{true}
use lib.ListN.{length, replicate}
use borrow.Author.Tests.{eq-eqb, lt-leb}
use Rattle.vocabulary.specs.Lists.{joined}
use Rattle.vocabulary.specs.Letters.{song_letters, inst_letters, patt_letters, smpl_letters}
use Rattle.numbers.specs.Numbers.{byte_at, number16, number32}
use Rattle.packed_rows.specs.Stream.{read_from, reading}
use Rattle.layout.specs.Chunks.{chunks_from, chunks}
use Rattle.layout.specs.declared.Layout.{Layout}
use Rattle.blocks.specs.Sizes.{size_of}
use Rattle.blocks.specs.declared.RecordKind.TheVariants.{Sample}
use Rattle.module.specs.Verdicts.{opened}
use Rattle.queries.specs.Finding.{there}
use Rattle.query_theorems.proofs.Tables.{same_each, same-rows}
use Rattle.query_theorems.proofs.SmallModules.{chunk, module_of, info, content, full_instrument, instrument, sample}
use Rattle.replace.specs.Replaced.{replaced_module, replace_answer, replace_output}
use Rattle.replace.specs.declared.ReplaceAnswer.{ReplaceAnswer}

-- A row of the table.
pub record WorkedReplacement : Type 0 where
  pub found : List ℕ
  pub said : List ℕ

-- The answer in numbers: number, place, length, and how many instruments were cleared.
answer_numbers : ReplaceAnswer → List ℕ
answer_numbers a = a.outcome.number ∷ a.outcome.place ∷ a.length ∷ a.cleared ∷ []

answers : List ℕ → ℕ → List ℕ → ℕ → ℕ → ℕ → ℕ → ℕ → WorkedReplacement
unfolding answer_numbers
answers m sample new room number place size cleared = record {
  found = answer_numbers (replace_answer m sample new room);
  said = number ∷ place ∷ size ∷ cleared ∷ [];
}

-- What an output of 170s then holds.
outputs : List ℕ → ℕ → List ℕ → ℕ → List ℕ → WorkedReplacement
outputs m sample new room said = record { found = replace_output m sample new (replicate room 170); said = said }

-- A number below 256 as 4 bytes.
four : ℕ → List ℕ
four n = 0 ∷ 0 ∷ 0 ∷ n ∷ []

-- An instrument with a forward loop.
loop_of : ℕ → ℕ → ℕ → List ℕ
unfolding four instrument
loop_of number start size = instrument number (four start) (four size) 1

-- A module with one instrument, whose loop 1 + 2 ends with the last of 3 frames of 8 bits. INST is at 34 with its block at 42, SMPL is at
-- 100 with its block at 108, and the module has 119 bytes: without the frames 116.
one : List ℕ
unfolding content loop_of sample
one = content [] (loop_of 1 1 2 ∷ []) [] (sample 1 3 (7 ∷ 8 ∷ 9 ∷ []) ∷ []) []

-- The same with the loop 2 + 2, which is outside the sample: 14 at the block.
outside : List ℕ
unfolding content loop_of sample
outside = content [] (loop_of 1 2 2 ∷ []) [] (sample 1 3 (7 ∷ 8 ∷ 9 ∷ []) ∷ []) []

-- Four instruments and two samples, SMPL before INST. The blocks of INST: a loop of sample 2; the same with both kinds of loop, volume 64
-- and panning 128; a loop of sample 2 that ends with frame 2; and one that is not looped, because its flags are 0, with numbers that no
-- sample has. SMPL, at 34, has a sample of 32 bits with 1 frame, 12 bytes, and one of 16 bits with 3 frames, 14 bytes. INST is at 76, and
-- the module has 284 bytes.
several : List (List ℕ) → List (List ℕ) → List ℕ
unfolding module_of info chunk
several samples instruments =
    module_of 3
    (info 4 2 0 0 4
    ∷ chunk song_letters []
    ∷ chunk smpl_letters (joined samples)
    ∷ chunk patt_letters []
    ∷ chunk inst_letters (joined instruments)
    ∷ [])

first : List ℕ
unfolding sample
first = sample 4 1 (1 ∷ 2 ∷ 3 ∷ 4 ∷ [])

both : List ℕ → List ℕ → ℕ → List ℕ
unfolding full_instrument
both start size flags = full_instrument 2 64 start size 128 flags

wild : List ℕ
unfolding instrument
wild = instrument 2 (replicate 4 255) (replicate 4 255) 0

before : List ℕ
unfolding several first both wild loop_of sample four
before =
    several (first ∷ sample 2 3 (1 ∷ 2 ∷ 3 ∷ 4 ∷ 5 ∷ 6 ∷ []) ∷ [])
    (loop_of 2 1 2 ∷ both (four 0) (four 3) 3 ∷ loop_of 2 1 1 ∷ wild ∷ [])

-- Sample 2 with 2 frames: the first two loops are cleared, with both flags; volume and panning stay.
after : List ℕ
unfolding several first both wild loop_of sample four
after =
    several (first ∷ sample 2 2 (6 ∷ 5 ∷ 4 ∷ 3 ∷ []) ∷ [])
    (instrument 2 (four 0) (four 0) 0 ∷ both (four 0) (four 0) 0 ∷ loop_of 2 1 1 ∷ wild ∷ [])

-- The answers of a call: the refusals in their order, and the lengths.
answered : List WorkedReplacement
unfolding answers one outside before
answered =
    -- 3 frames: the loop fits. 2 frames, 1 and none: it is cleared.
    answers one 1 (1 ∷ 2 ∷ 3 ∷ 4 ∷ 5 ∷ 6 ∷ []) 122 0 0 122 0
    ∷ answers one 1 (1 ∷ 2 ∷ 3 ∷ 4 ∷ []) 120 0 0 120 1
    ∷ answers one 1 (1 ∷ 2 ∷ []) 1000 0 0 118 1
    ∷ answers one 1 [] 116 0 0 116 1
    -- 17, with the length of the result.
    ∷ answers one 1 (1 ∷ 2 ∷ 3 ∷ 4 ∷ []) 119 17 120 0 0
    ∷ answers one 1 (1 ∷ 2 ∷ 3 ∷ 4 ∷ []) 0 17 120 0 0
    ∷ answers one 1 [] 115 17 116 0 0
    -- 19, also before 17.
    ∷ answers one 1 (1 ∷ []) 1000 19 0 0 0
    ∷ answers one 1 (1 ∷ 2 ∷ 3 ∷ []) 0 19 0 0 0
    -- 18, also before 19 and 17.
    ∷ answers one 0 [] 1000 18 0 0 0
    ∷ answers one 2 [] 1000 18 0 0 0
    ∷ answers one 0 (1 ∷ []) 0 18 0 0 0
    ∷ answers one 2 (1 ∷ []) 0 18 0 0 0
    -- The module's own refusal, also before 18, 19 and 17, and also if the loop would fit the new frames.
    ∷ answers outside 1 (1 ∷ 2 ∷ 3 ∷ 4 ∷ 5 ∷ 6 ∷ 7 ∷ 8 ∷ []) 1000 14 42 0 0
    ∷ answers outside 0 (1 ∷ []) 0 14 42 0 0
    ∷ answers [] 0 (1 ∷ []) 0 2 0 0 0
    -- SMPL before INST: 4 frames, 3, 2, 1; and the other sample.
    ∷ answers before 2 (replicate 8 0) 1000 0 0 286 0
    ∷ answers before 2 (replicate 6 0) 1000 0 0 284 0
    ∷ answers before 2 (replicate 4 0) 1000 0 0 282 2
    ∷ answers before 2 (replicate 2 0) 1000 0 0 280 3
    ∷ answers before 1 (replicate 2 0) 1000 0 0 282 0
    ∷ []

-- What the output then holds: the result and the bytes after it; and the bytes that were there, after a refusal.
written : List WorkedReplacement
unfolding outputs one before after content instrument sample four
written =
    outputs one 1 (1 ∷ 2 ∷ 3 ∷ 4 ∷ []) 122
    (content [] (instrument 1 (four 0) (four 0) 0 ∷ []) [] (sample 2 2 (1 ∷ 2 ∷ 3 ∷ 4 ∷ []) ∷ []) [] ++ (170 ∷ 170 ∷ []))
    ∷ outputs before 2 (6 ∷ 5 ∷ 4 ∷ 3 ∷ []) 282 after
    ∷ outputs before 2 (1 ∷ 2 ∷ 3 ∷ 4 ∷ 5 ∷ 6 ∷ []) 284 before
    ∷ outputs one 1 (1 ∷ 2 ∷ 3 ∷ 4 ∷ []) 4 (replicate 4 170)
    ∷ outputs one 1 (1 ∷ []) 4 (replicate 4 170)
    ∷ outputs one 2 [] 4 (replicate 4 170)
    ∷ outputs [] 1 [] 4 (replicate 4 170)
    ∷ []

-- The table.
pub worked_replacements : List WorkedReplacement
unfolding answered written
worked_replacements = answered ++ written

-- The statement: both columns are equal.
pub replacements-agree : map (λ (w : WorkedReplacement). w.found) worked_replacements ≡ map (λ (w : WorkedReplacement). w.said) worked_replacements
unfolding worked_replacements same_each read_from reading byte_at number16 number32 chunks_from chunks size_of
replacements-agree =
    same-rows (map (λ (w : WorkedReplacement). w.found) worked_replacements) (map (λ (w : WorkedReplacement). w.said) worked_replacements) refl

-- Number 1: a result that is too long. It cannot be written out, so this is a law.
pub result-too-long : (m : List ℕ) (l : Layout) (sample : ℕ) (new : List ℕ) (room : ℕ) → opened m ≡ Ok l
    → there m l Sample sample ≡ true → length new % 2 ≡ 0 → 16777216 < length (replaced_module m l sample new)
    → replace_answer m sample new room ≡ record { outcome = record { number = 1; place = 0 }; length = 0; cleared = 0 }
result-too-long m l number new room opens t even long =
    simp (opens, t, eq-eqb (length new % 2) 0 even, lt-leb (length (replaced_module m l number new)) 16777216 long)
