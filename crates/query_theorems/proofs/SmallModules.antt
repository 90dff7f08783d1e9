-- Small modules written out part by part, for the tables of `Samples` and `WorkedRefusals`; and what a check answers, as numbers. Each part
-- states its number of bytes, so that places in a module can be counted.
use Prim.Native.Nat.{ℕ, ◌-◌, ◌*◌, ◌/◌, ◌%◌}
use mathlib.Core.List.{List, [], ◌∷◌, ◌++◌, map}
use lib.ListN.{length, replicate}
use Rattle.vocabulary.specs.Lists.{joined}
use Rattle.vocabulary.specs.Letters.{info_letters, song_letters, inst_letters, patt_letters, smpl_letters}
use Rattle.refusal.specs.Numbers.{verdict_numbers}
use Rattle.packed_rows.specs.Answers.{check_answer}
use Rattle.module.specs.Verdicts.{module_verdict}

-- The answer of the check of a stream: number and place; 0 0 is accepted.
unfoldable pub checked : ℕ → ℕ → List ℕ → List ℕ
checked rows tracks stream = verdict_numbers (check_answer stream rows tracks)

-- The answer of the check of a module.
unfoldable pub module_checked : List ℕ → List ℕ
module_checked m = verdict_numbers (module_verdict m)

-- A number below 65,536 as 2 bytes.
unfoldable pub word : ℕ → List ℕ
word n = n / 256 ∷ n % 256 ∷ []

-- A chunk: 8 bytes, and its data, of less than 65,536 bytes.
unfoldable pub chunk : List ℕ → List ℕ → List ℕ
unfolding word
chunk letters bytes = letters ++ (0 ∷ 0 ∷ (word (length bytes) ++ bytes))

-- The header with a version, 8 bytes, and chunks after it: the first begins at 8.
unfoldable pub module_of : ℕ → List (List ℕ) → List ℕ
module_of version chunks = 0x44 ∷ 0x42 ∷ 0x4D ∷ 0x30 ∷ version ∷ 0 ∷ 0 ∷ 0 ∷ joined chunks

-- INFO, 18 bytes. If it begins at 8, its instruments are at 16, samples at 18, songs at 20, patterns at 22 and tracks at 24, and the next
-- chunk begins at 26.
unfoldable pub info : ℕ → ℕ → ℕ → ℕ → ℕ → List ℕ
unfolding chunk word
info instruments samples songs patterns tracks =
    chunk info_letters (word instruments ++ (word samples ++ (word songs ++ (word patterns ++ word tracks))))

-- A song: name 44, length at 44, and the entries from 46 on, 2 bytes each.
unfoldable pub song : List ℕ → List ℕ
unfolding word
song entries = replicate 44 0 ++ (word (length entries) ++ joined (map word entries))

-- An instrument, 50 bytes: name 30, sample at 30, volume at 32, rate at 34, loop start at 38 and length at 42 (4 bytes each), panning at
-- 46, flags at 48.
unfoldable pub full_instrument : ℕ → ℕ → List ℕ → List ℕ → ℕ → ℕ → List ℕ
unfolding word
full_instrument sample volume start size panning flags =
    replicate 30 0 ++ (word sample ++ (word volume ++ (replicate 4 0 ++ (start ++ (size ++ (word panning ++ word flags))))))

-- The same with volume and panning 0.
unfoldable pub instrument : ℕ → List ℕ → List ℕ → ℕ → List ℕ
unfolding full_instrument
instrument sample start size flags = full_instrument sample 0 start size 0 flags

-- A pattern: rows, packed length at 2, the stream from 6 on, and a filler if its length is odd.
unfoldable pub pattern : ℕ → List ℕ → List ℕ
unfolding word
pattern rows stream = word rows ++ (0 ∷ 0 ∷ (word (length stream) ++ (stream ++ replicate (length stream % 2) 0)))

-- A sample: flags, frames at 4, and the frames' bytes from 8 on.
unfoldable pub sample : ℕ → ℕ → List ℕ → List ℕ
unfolding word
sample flags frames bytes = 0 ∷ 0 ∷ 0 ∷ flags ∷ 0 ∷ 0 ∷ (word frames ++ bytes)

-- An envelope, 136 bytes: instrument, flags at 2, sections at 3, S1 at 4, L1 at 5, L2 at 6, S2 at 7, and 32 points from 8 on, 4 bytes each:
-- the first value is at 10, the next at 14. All positions are 0, and so is each value after the given ones.
unfoldable pub envelope : ℕ → ℕ → ℕ → ℕ → ℕ → ℕ → ℕ → List ℕ → List ℕ
unfolding word
envelope instrument flags sections s1 l1 l2 s2 values =
    let points : List ℕ = joined (map (λ v. 0 ∷ 0 ∷ word v) values) in
    word instrument ++ (flags ∷ sections ∷ s1 ∷ l1 ∷ l2 ∷ s2 ∷ (points ++ replicate (128 - 4 * length values) 0))

-- A chunk of one envelope, 146 bytes: the count is at 8, the envelope at 10.
unfoldable pub one_envelope : List ℕ → List ℕ → List ℕ
unfolding chunk
one_envelope letters bytes = chunk letters (0 ∷ 1 ∷ bytes)

-- A module of version 3 and 4 tracks: INFO at 8, SONG at 26, then INST, PATT and SMPL with these blocks, and chunks after them. INFO's
-- numbers are those of the blocks. If SONG has no block, INST begins at 34; if INST has none either, PATT begins at 42 and SMPL at 50.
unfoldable pub content : List (List ℕ) → List (List ℕ) → List (List ℕ) → List (List ℕ) → List (List ℕ) → List ℕ
unfolding module_of info chunk
content songs instruments patterns samples after =
    module_of 3
    (info (length instruments) (length samples) (length songs) (length patterns) 4
    ∷ chunk song_letters (joined songs)
    ∷ chunk inst_letters (joined instruments)
    ∷ chunk patt_letters (joined patterns)
    ∷ chunk smpl_letters (joined samples)
    ∷ after)

-- A module of 4 tracks with no song and no pattern, from its version, its numbers of instruments and samples, and the data of INST and
-- SMPL; and chunks after them.
unfoldable pub small_module : ℕ → ℕ → ℕ → List ℕ → List ℕ → List ℕ → List ℕ
unfolding module_of info chunk
small_module version instruments samples inst smpl after =
    module_of version
    (info instruments samples 0 0 4
    ∷ chunk song_letters []
    ∷ chunk inst_letters inst
    ∷ chunk patt_letters []
    ∷ chunk smpl_letters smpl
    ∷ after
    ∷ [])
