-- Listing the differences of two cells, and of consecutive tracks of two rows.
use Prim.Native.Nat.{ℕ, ◌+◌, ◌-◌, ◌*◌, ◌≤◌, ◌<◌}
use mathlib.Core.Path.{◌≡◌, sym, ap, ◌∙◌}
use mathlib.Core.List.{List, [], ◌++◌}
use mathlib.Core.Bool.{Bool, true, false, not}
use native.Mathlib.Omega.{arith}
use lib.ListN.{length, get_or, drop}
use lib.Seq.{get_or-take, get_or-drop}
use lib.Dec.{eqb}
use borrow.Author.Tests.{eq-eqb}
use Rattle.vocabulary.specs.Lists.{joined}
use Rattle.numbers.specs.Numbers.{each_from}
use Rattle.cells.specs.Cells.{Cell}
use Rattle.differences.specs.Differences.{difference_if, entries_listed}
use Rattle.differences.specs.declared.Difference.{Difference}
use Rattle.differences.proofs.Listing.{Listing, listing-turn, listing-last, listing-length}
use Rattle.packed_rows.specs.Comparing.{field_difference, cell_differences}
use Rattle.packed_rows.specs.Steps.{cell_at}
use Rattle.packed_rows.specs.ComparingSteps.{track_differences, tracks_differences}
use Rattle.packed_rows.proofs.EachFrom.{joined-first, joined-none, joined-empty, joined-most, each-alike}

-- A byte of the cell at a place, and its field with a number.
cell-byte : (bytes : List ℕ) (at j : ℕ) → j < 6 → get_or (cell_at bytes at) j 0 ≡ get_or bytes (at + j) 0
cell-byte bytes at j small = get_or-take 6 (drop at bytes) j 0 small ∙ get_or-drop at bytes j 0

cell_field : (bytes : List ℕ) (at j : ℕ) → j < 6 → get_or (cell_at bytes at) (j + 1 - 1) 0 ≡ get_or bytes (at + j) 0
cell_field bytes at j small =
    let same : j + 1 - 1 ≡ j = omega arith in
    rw same (cell-byte bytes at j small)

-- At most one entry for a field.
if-most : (differs : Bool) (d : Difference) → length (difference_if differs d) ≤ 1
if-most true d = omega arith
if-most false d = omega arith

module _ (pattern row track : ℕ) where
  -- At most six entries for a cell, and none for two cells with the same fields.
  pub cell-most : (a b : Cell) → length (cell_differences pattern row track a b) ≤ 6
  cell-most a b =
      joined-most (field_difference pattern row track a b) 1
      (λ field.
      if-most (not (eqb (get_or a (field - 1) 0) (get_or b (field - 1) 0)))
      (record { kind = 8; number = pattern; row = row; track = track; field = field }))
      6 1

  pub cell-none : (a b : Cell) → ((j : ℕ) → j < 6 → get_or a j 0 ≡ get_or b j 0) → cell_differences pattern row track a b ≡ []
  cell-none a b same =
      joined-empty (field_difference pattern row track a b) 6 1 (λ field low high.
      ap (λ (t : Bool). difference_if (not t) (record { kind = 8; number = pattern; row = row; track = track; field = field }))
      (eq-eqb _ _ (same (field - 1) (omega arith))))

-- The differences of the fields of the cells at a place, from one field on, counted from 0.
abbrev pub fields_left : ℕ → ℕ → ℕ → List ℕ → List ℕ → ℕ → ℕ → List Difference
fields_left pattern row track a b at j =
    joined (each_from (field_difference pattern row track (cell_at a at) (cell_at b at)) (j + 1) (6 - j))

-- The loop over the fields of two cells: the differences of the fields from one on are left.
pub record ListingCell (pattern row track : ℕ) (a b : List ℕ) (at n : ℕ) (out₀ out : List ℕ) (count j : ℕ) : Type 0 where
  pub listing : Listing (cell_differences pattern row track (cell_at a at) (cell_at b at)) n out₀ out count
      (fields_left pattern row track a b at j)

module _ {pattern row track : ℕ} {a b : List ℕ} {at n : ℕ} {out₀ out : List ℕ} {count j : ℕ}
    (state : ListingCell pattern row track a b at n out₀ out count j) where
  pub cell-count : count ≤ 6
  cell-count = omega (arith, listing-length state.listing, cell-most pattern row track (cell_at a at) (cell_at b at))

  pub cell-turn : j < 6 → (out' : List ℕ) (r : ℕ) (new : List Difference)
      → new ≡ difference_if (not (eqb (get_or a (at + j) 0) (get_or b (at + j) 0)))
      (record { kind = 8; number = pattern; row = row; track = track; field = j + 1 })
      → r ≡ length new
      → out' ≡ entries_listed new (n + count) out
      → ListingCell pattern row track a b at n out₀ out' (count + r) (j + 1)
  cell-turn more out' r new is size wrote =
      let first : new ≡ field_difference pattern row track (cell_at a at) (cell_at b at) (j + 1) =
      is ∙ rw (cell_field a at j more, cell_field b at j more) in
      let splits : fields_left pattern row track a b at j ≡ new ++ fields_left pattern row track a b at (j + 1) =
      joined-first (field_difference pattern row track (cell_at a at) (cell_at b at)) (6 - j) (6 - (j + 1)) (j + 1) (omega arith)
      ∙ ap (λ (l : List Difference). l ++ fields_left pattern row track a b at (j + 1)) (sym first) in
      record { listing = listing-turn state.listing new (fields_left pattern row track a b at (j + 1)) out' r splits size wrote }

  pub cell-last : 6 ≤ j
      → (count ≡ length (cell_differences pattern row track (cell_at a at) (cell_at b at)))
      × (count ≤ 6)
      × (out ≡ entries_listed (cell_differences pattern row track (cell_at a at) (cell_at b at)) n out₀)
  cell-last over =
      let end : 6 - j ≡ 0 = omega arith in
      let ends = listing-last state.listing
      (joined-none (field_difference pattern row track (cell_at a at) (cell_at b at)) (6 - j) (j + 1) end) in
      (ends.0, cell-count, ends.1)

-- Consecutive tracks.
module _ (pattern row : ℕ) where
  -- At most six entries for a track; none if the bytes of the tracks are the same; the same entries if the bytes of the tracks are the same
  -- as in two other rows.
  pub tracks-most : (a b : List ℕ) (n track : ℕ) → length (tracks_differences pattern row a b track n) ≤ n * 6
  tracks-most a b n track =
      joined-most (track_differences pattern row a b) 6
      (λ t. cell-most pattern row t (cell_at a ((t - 1) * 6)) (cell_at b ((t - 1) * 6))) n track

  pub tracks-none : (a b : List ℕ) (start end : ℕ) → start ≤ end → ((i : ℕ) → start * 6 ≤ i → i < end * 6 → get_or a i 0 ≡ get_or b i 0)
      → tracks_differences pattern row a b (start + 1) (end - start) ≡ []
  tracks-none a b start end order same =
      joined-empty (track_differences pattern row a b) (end - start) (start + 1) (λ t low high.
      cell-none pattern row t (cell_at a ((t - 1) * 6)) (cell_at b ((t - 1) * 6)) (λ j small.
      cell-byte a ((t - 1) * 6) j small ∙ same ((t - 1) * 6 + j) (omega arith) (omega arith) ∙ sym (cell-byte b ((t - 1) * 6) j small)))

  pub tracks-alike : (a b c d : List ℕ) (track n : ℕ)
      → ((t : ℕ) → track ≤ t → t < track + n → cell_at a ((t - 1) * 6) ≡ cell_at c ((t - 1) * 6))
      → ((t : ℕ) → track ≤ t → t < track + n → cell_at b ((t - 1) * 6) ≡ cell_at d ((t - 1) * 6))
      → tracks_differences pattern row a b track n ≡ tracks_differences pattern row c d track n
  tracks-alike a b c d track n first second =
      ap joined (each-alike (track_differences pattern row a b) (track_differences pattern row c d) n track (λ t low high.
      ap (λ (cell : Cell). cell_differences pattern row t cell (cell_at b ((t - 1) * 6))) (first t low high)
      ∙ ap (cell_differences pattern row t (cell_at c ((t - 1) * 6))) (second t low high)))

-- The differences of the tracks from one on, counted from 0, up to another.
abbrev pub tracks_left : ℕ → ℕ → List ℕ → List ℕ → ℕ → ℕ → List Difference
tracks_left pattern row a b end track = tracks_differences pattern row a b (track + 1) (end - track)

-- The loop over the tracks: the differences of the tracks from one on are left.
pub record ListingTracks (pattern row : ℕ) (a b : List ℕ) (start end n : ℕ) (out₀ out : List ℕ) (count track : ℕ) : Type 0 where
  pub listing : Listing (tracks_differences pattern row a b (start + 1) (end - start)) n out₀ out count
      (tracks_left pattern row a b end track)

module _ {pattern row : ℕ} {a b : List ℕ} {start end n : ℕ} {out₀ out : List ℕ} {count track : ℕ}
    (state : ListingTracks pattern row a b start end n out₀ out count track) where
  pub tracks-count : count ≤ (end - start) * 6
  tracks-count = omega (arith, listing-length state.listing, tracks-most pattern row a b (end - start) (start + 1))

  pub tracks-turn : track < end → (out' : List ℕ) (r : ℕ)
      → r ≡ length (cell_differences pattern row (track + 1) (cell_at a (track * 6)) (cell_at b (track * 6)))
      → out' ≡ entries_listed (cell_differences pattern row (track + 1) (cell_at a (track * 6)) (cell_at b (track * 6))) (n + count) out
      → ListingTracks pattern row a b start end n out₀ out' (count + r) (track + 1)
  tracks-turn more out' r size wrote =
      let new = cell_differences pattern row (track + 1) (cell_at a (track * 6)) (cell_at b (track * 6)) in
      let here : track + 1 - 1 ≡ track = omega arith in
      let first : track_differences pattern row a b (track + 1) ≡ new =
      ap (λ (t : ℕ). cell_differences pattern row (track + 1) (cell_at a (t * 6)) (cell_at b (t * 6))) here in
      let splits : tracks_left pattern row a b end track ≡ new ++ tracks_left pattern row a b end (track + 1) =
      joined-first (track_differences pattern row a b) (end - track) (end - (track + 1)) (track + 1) (omega arith)
      ∙ ap (λ (l : List Difference). l ++ tracks_left pattern row a b end (track + 1)) first in
      record { listing = listing-turn state.listing new (tracks_left pattern row a b end (track + 1)) out' r splits size wrote }

  pub tracks-last : end ≤ track
      → (count ≡ length (tracks_differences pattern row a b (start + 1) (end - start)))
      × (count ≤ (end - start) * 6)
      × (out ≡ entries_listed (tracks_differences pattern row a b (start + 1) (end - start)) n out₀)
  tracks-last over =
      let none_left : end - track ≡ 0 = omega arith in
      let ends = listing-last state.listing (joined-none (track_differences pattern row a b) (end - track) (track + 1) none_left) in
      (ends.0, tracks-count, ends.1)
