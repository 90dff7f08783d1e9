-- Definitions that the contracts of the private functions of comparing cite. Two rows are compared as bytes, in groups of eight tracks. A
-- group that no entry of either row has a track in is not marked, and is not looked at.
use Rattle.std.specs.Prelude.{ℕ, ◌+◌, ◌-◌, ◌*◌, ◌/◌, ◌≤◌, ◌<◌, ◌≡◌, List, ◌++◌, get_or, take, drop, replicate}
use Rattle.vocabulary.specs.Lists.{joined, Every}
use Rattle.numbers.specs.Numbers.{each_from}
use Rattle.differences.specs.declared.Difference.{Difference}
use Rattle.packed_rows.specs.Entries.{Entry}
use Rattle.packed_rows.specs.Comparing.{cell_differences}
use Rattle.packed_rows.specs.Steps.{RowAhead, cell_at}

-- The differences of n tracks of two rows as bytes, from a track on, counted from 1.
abbrev pub track_differences : ℕ → ℕ → List ℕ → List ℕ → ℕ → List Difference
track_differences pattern row a b track = cell_differences pattern row track (cell_at a ((track - 1) * 6)) (cell_at b ((track - 1) * 6))

abbrev pub tracks_differences : ℕ → ℕ → List ℕ → List ℕ → ℕ → ℕ → List Difference
tracks_differences pattern row a b track n = joined (each_from (track_differences pattern row a b) track n)

-- A number of entries that is far below the limit of a usize.
abbrev pub SmallCount : ℕ → Type 0
SmallCount n = n < 0x10000000000000

-- Zeros from one track up to another, both counted from 0.
abbrev pub ZerosBetween : ℕ → ℕ → List ℕ → Type 0
ZerosBetween start end row = (i : ℕ) → start * 6 ≤ i → i < end * 6 → get_or row i 0 ≡ 0

-- A row's bytes with zeros in these tracks.
abbrev pub cleared_between : ℕ → ℕ → List ℕ → List ℕ
cleared_between start end row = take (start * 6) row ++ (replicate ((end - start) * 6) 0 ++ drop (end * 6) row)

-- Every byte of a row that is not 0 is in a group of eight tracks that is marked.
abbrev pub AllMarked : List ℕ → List ℕ → Type 0
AllMarked marks row = (group : ℕ) → get_or marks group 0 ≡ 0 → ZerosBetween (group * 8) (group * 8 + 8) row

-- The group of the track of every entry of a row is marked, and no mark is lost.
abbrev pub Marked : List ℕ → ℕ → List ℕ → List ℕ → Type 0
Marked s at marks after =
    ((size : ℕ) (ahead : RowAhead s at size) → Every (λ (e : Entry). get_or after ((e.track - 1) / 8) 0 ≡ 1) ahead.entries)
    × ((group : ℕ) → get_or marks group 0 ≡ 1 → get_or after group 0 ≡ 1)
