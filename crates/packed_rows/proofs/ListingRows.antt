-- Listing the differences of the patterns that two accepted streams hold, row by row; and the answer of comparing, by the verdicts.
use Prim.Native.Nat.{ℕ, zero, suc, ◌+◌, ◌-◌, ◌*◌, ◌≤◌, ◌<◌}
use Rattle.std.specs.Prelude.{Ok, Err}
use mathlib.Core.Path.{◌≡◌, refl, sym, ap, ◌∙◌}
use mathlib.Core.List.{List, [], ◌∷◌, ◌++◌}
use mathlib.Core.Bool.{true, ◌&&◌}
use native.Mathlib.Omega.{arith}
use native.Mathlib.Nat.{sub-zero, zero-add, mul-le-mul}
use native.Mathlib.Numerals.{add-one}
use lib.ListN.{length, get_or, take, drop, replicate, length-replicate}
use lib.Seq.{drop-cons}
use lib.Dec.{eqb}
use borrow.Author.Tests.{eqb-true}
use Rattle.vocabulary.specs.Lists.{joined}
use Rattle.vocabulary.proofs.EveryOne.{every_of}
use Rattle.numbers.specs.Numbers.{each_from}
use Rattle.refusal.specs.declared.Refusal.{Refusal}
use Rattle.cells.specs.Cells.{Cell, Row, empty_cell}
use Rattle.differences.specs.Differences.{entries_listed}
use Rattle.differences.specs.declared.Difference.{Difference}
use Rattle.differences.proofs.Listing.{Listing, listing-first, listing-turn, listing-last, listing-length}
use Rattle.packed_rows.specs.Entries.{Entry, row_from}
use Rattle.packed_rows.specs.Stream.{Reading, whole, reading, read_stream, entries_read}
use Rattle.packed_rows.specs.Answers.{verdict_of_reading}
use Rattle.packed_rows.specs.Comparing.{cell_differences, row_differences, pattern_differences, stream_differences, comparison_of}
use Rattle.packed_rows.specs.Steps.{RowAhead, Carried, Loaded, rows_read, cell_at}
use Rattle.packed_rows.specs.ComparingSteps.{track_differences, tracks_differences, AllMarked, Marked}
use Rattle.packed_rows.proofs.Reading.{and-true}
use Rattle.packed_rows.proofs.ByVerdict.{accepted-reading, refused-reading}
use Rattle.packed_rows.proofs.Grammar.{reads-exactly}
use Rattle.packed_rows.proofs.Shapes.{Blocks, get_or-mapped, row-joined, joined-row, row-from-shaped}
use Rattle.packed_rows.proofs.Carrying.{block_at, row_inside, at-row-end}
use Rattle.packed_rows.proofs.CarryingRows.{zeros-row, loaded}
use Rattle.packed_rows.proofs.EachFrom.{joined-first, joined-none, joined-most, each-alike}
use Rattle.packed_rows.proofs.ListingCells.{cell-most}
use Rattle.packed_rows.proofs.MarkingRows.{Known, all-marked}

-- The cell of a track in a row's bytes.
cell-of : {tracks : ℕ} (row : Row) → Blocks tracks 6 row → (k : ℕ) → k < tracks → cell_at (joined row) (k * 6) ≡ get_or row k empty_cell
cell-of {tracks} row shaped k inside =
    sym (block_at tracks 6 k (joined row) empty_cell inside) ∙ ap (λ (r : Row). get_or r k empty_cell) (row-joined row shaped)

-- The differences of two rows are those of their bytes.
pub row-bytes : (pattern tracks row : ℕ) (a b : Row) → Blocks tracks 6 a → Blocks tracks 6 b
    → row_differences pattern tracks row a b ≡ tracks_differences pattern row (joined a) (joined b) 1 tracks
row-bytes pattern tracks row a b shaped shaped' =
    ap joined
    (each-alike (λ (t : ℕ). cell_differences pattern row t (get_or a (t - 1) empty_cell) (get_or b (t - 1) empty_cell))
    (track_differences pattern row (joined a) (joined b)) tracks 1 (λ t low high.
    let inside : t - 1 < tracks = omega arith in
    ap (λ (cell : Cell). cell_differences pattern row t cell (get_or b (t - 1) empty_cell)) (sym (cell-of a shaped (t - 1) inside))
    ∙ ap (cell_differences pattern row t (cell_at (joined a) ((t - 1) * 6))) (sym (cell-of b shaped' (t - 1) inside))))

-- At most six entries for each track of each row.
row-most : (pattern tracks row : ℕ) (a b : Row) → length (row_differences pattern tracks row a b) ≤ tracks * 6
row-most pattern tracks row a b =
    joined-most (λ (t : ℕ). cell_differences pattern row t (get_or a (t - 1) empty_cell) (get_or b (t - 1) empty_cell)) 6
    (λ t. cell-most pattern row t (get_or a (t - 1) empty_cell) (get_or b (t - 1) empty_cell)) tracks 1

pub pattern-most : (pattern rows tracks : ℕ) (a b : List Row) → length (pattern_differences pattern rows tracks a b) ≤ rows * (tracks * 6)
pattern-most pattern rows tracks a b =
    joined-most (λ (row : ℕ). row_differences pattern tracks row (get_or a row []) (get_or b row [])) (tracks * 6)
    (λ row. row-most pattern tracks row (get_or a row []) (get_or b row [])) rows 0

-- One accepted stream: its rows from one on follow at a place.
abbrev pub rows_of_entries : List ℕ → ℕ → ℕ → List (List Entry)
rows_of_entries s rows tracks = entries_read (read_stream rows tracks s)

pub record RowsLeft (s : List ℕ) (rows tracks row at : ℕ) : Type 0 where
  pub follow : reading tracks (rows - row) at (drop at s) ≡ whole (drop row (rows_of_entries s rows tracks))

module _ (s : List ℕ) (rows tracks : ℕ) (ok : verdict_of_reading (read_stream rows tracks s) ≡ Ok tt) where
  reads_all : read_stream rows tracks s ≡ whole (rows_of_entries s rows tracks)
  reads_all =
      let read = (accepted-reading (read_stream rows tracks s)).0 ok in
      read.1 ∙ ap whole (sym (ap entries_read read.1))

  all_there : length (rows_of_entries s rows tracks) ≡ rows
  all_there = ((reads-exactly rows tracks s (rows_of_entries s rows tracks)).0 reads_all).count

module _ {s : List ℕ} {rows tracks : ℕ} (ok : verdict_of_reading (read_stream rows tracks s) ≡ Ok tt) where
  pub left-first : RowsLeft s rows tracks 0 0
  left-first = record { follow = rw (sub-zero rows) (reads_all s rows tracks ok) }

  module _ {row at : ℕ} (left : RowsLeft s rows tracks row at) (some : row < rows) where
    abbrev es : List Entry
    es = get_or (rows_of_entries s rows tracks) row []

    pub reads-row : reading tracks (suc (rows - suc row)) at (drop at s) ≡ whole (es ∷ drop (suc row) (rows_of_entries s rows tracks))
    reads-row =
        let count : rows - row ≡ suc (rows - suc row) = omega arith in
        rw count at left.follow ∙ ap whole (drop-cons (rows_of_entries s rows tracks) row [] (omega (arith, all_there s rows tracks ok)))

    abbrev pub left-ahead : (size : ℕ) → size ≡ tracks * 6 → RowAhead s at size
    left-ahead size wide =
        record {
          tracks = tracks;
          left = rows - suc row;
          entries = es;
          later = drop (suc row) (rows_of_entries s rows tracks);
          reads = reads-row;
          fits = wide;
        }

    pub left-inside : at < length s
    left-inside = row_inside s tracks (rows - suc row) at es (drop (suc row) (rows_of_entries s rows tracks)) reads-row

    pub left-marked : (marks after : List ℕ) → Marked s at marks after → Known after es
    left-marked marks after marked = marked.0 (tracks * 6) (left-ahead (tracks * 6) refl)

    module _ (line line' : List ℕ) (after : ℕ) (zeros : line ≡ replicate (tracks * 6) 0) (carried : Carried s at line after line') where
      loads : Loaded s at (tracks * 6) after line'
      loads = loaded s at (tracks * 6) after line line' zeros carried

      pub left-next : RowsLeft s rows tracks (row + 1) after
      left-next = record { follow = rw (add-one row) (loads (left-ahead (tracks * 6) refl)).0 }

      pub left-line : line' ≡ joined (row_from tracks es)
      left-line = (loads (left-ahead (tracks * 6) refl)).1

      -- A row without entries leaves zeros.
      pub left-empty : get_or s at 0 ≡ 0 → line' ≡ replicate (tracks * 6) 0
      left-empty z =
          let none = (at-row-end s tracks (rows - suc row) at es (drop (suc row) (rows_of_entries s rows tracks)) reads-row z).0 in
          left-line
          ∙ ap (λ (entries : List Entry). joined (row_from tracks entries)) none
          ∙ ap joined (sym (zeros-row tracks))
          ∙ joined-row tracks (replicate (tracks * 6) 0) (length-replicate (tracks * 6) 0)

    pub left-row : get_or (rows_read s rows tracks) row [] ≡ row_from tracks es
    left-row = get_or-mapped (row_from tracks) (rows_of_entries s rows tracks) row [] [] (omega (arith, all_there s rows tracks ok))

-- Both of two numbers are 0.
both_zero : (x y : ℕ) → (eqb x 0 && eqb y 0) ≡ true → (x ≡ 0) × (y ≡ 0)
both_zero x y e = let both = and-true (eqb x 0) (eqb y 0) e in (eqb-true x 0 both.0, eqb-true y 0 both.1)

-- The differences of a row of both streams, and of the rows from one on.
abbrev pub differences_at : List ℕ → List ℕ → ℕ → ℕ → ℕ → ℕ → List Difference
differences_at a b rows tracks pattern row =
    row_differences pattern tracks row (get_or (rows_read a rows tracks) row []) (get_or (rows_read b rows tracks) row [])

abbrev pub differences_from : List ℕ → List ℕ → ℕ → ℕ → ℕ → ℕ → List Difference
differences_from a b rows tracks pattern row = joined (each_from (differences_at a b rows tracks pattern) row (rows - row))

-- The loop over the rows of two accepted streams: both lines hold zeros, the rows from one on follow in both, and their differences are
-- left.
pub record ListingRows (a b : List ℕ) (rows tracks pattern : ℕ) (out₀ first second out marks : List ℕ) (at to row count : ℕ) : Type 0 where
  pub within : row ≤ rows
  pub first-left : RowsLeft a rows tracks row at
  pub second-left : RowsLeft b rows tracks row to
  pub first-zeros : first ≡ replicate (tracks * 6) 0
  pub second-zeros : second ≡ replicate (tracks * 6) 0
  pub marks-long : length marks ≡ 32
  pub listing : Listing (stream_differences a b rows tracks pattern) 0 out₀ out count
      (differences_from a b rows tracks pattern row)

module _ {a b : List ℕ} {rows tracks pattern : ℕ} {out₀ : List ℕ} where
  module _ (ok : verdict_of_reading (read_stream rows tracks a) ≡ Ok tt) (ok' : verdict_of_reading (read_stream rows tracks b) ≡ Ok tt) where
    pub rows-first : {first second marks : List ℕ} → first ≡ replicate (tracks * 6) 0 → second ≡ replicate (tracks * 6) 0
        → length marks ≡ 32
        → ListingRows a b rows tracks pattern out₀ first second out₀ marks 0 0 0 0
    rows-first zeros zeros' long =
        record {
          within = omega arith;
          first-left = left-first ok;
          second-left = left-first ok';
          first-zeros = zeros;
          second-zeros = zeros';
          marks-long = long;
          listing = rw (sub-zero rows) (listing-first (stream_differences a b rows tracks pattern) 0 out₀);
        }

  module _ {first second out marks : List ℕ} {at to row count : ℕ}
      (state : ListingRows a b rows tracks pattern out₀ first second out marks at to row count) where
    pub rows-small : rows < 65536 → tracks < 255 → count ≤ 65535 * 1524
    rows-small few thin =
        let high : tracks * 6 ≤ 1524 = omega arith in
        let many : rows ≤ 65535 = omega arith in
        let product = mul-le-mul many high in
        omega (arith, listing-length state.listing, pattern-most pattern rows tracks (rows_read a rows tracks) (rows_read b rows tracks))

    pub rows-wide : (length first ≡ tracks * 6) × (length second ≡ tracks * 6)
    rows-wide = (
      ap length state.first-zeros ∙ length-replicate (tracks * 6) 0,
      ap length state.second-zeros ∙ length-replicate (tracks * 6) 0,
    )

    pub rows_last : rows ≤ row
        → (count ≡ length (stream_differences a b rows tracks pattern))
        × (out ≡ entries_listed (stream_differences a b rows tracks pattern) 0 out₀)
    rows_last over =
        let end : rows - row ≡ 0 = omega arith in
        listing-last state.listing (joined-none (differences_at a b rows tracks pattern) (rows - row) row end)

    -- Both rows are marked, and carried out on zeros.
    module _ (ok : verdict_of_reading (read_stream rows tracks a) ≡ Ok tt) (ok' : verdict_of_reading (read_stream rows tracks b) ≡ Ok tt)
        (some : row < rows) (first₁ second₁ : List ℕ) (after after' : ℕ) (carried : Carried a at first after first₁)
        (carried' : Carried b to second after' second₁) where
      line : first₁ ≡ joined (row_from tracks (get_or (rows_of_entries a rows tracks) row []))
      line = left-line ok state.first-left some first first₁ after state.first-zeros carried

      line' : second₁ ≡ joined (row_from tracks (get_or (rows_of_entries b rows tracks) row []))
      line' = left-line ok' state.second-left some second second₁ after' state.second-zeros carried'

      pub rows-marked : (marks₁ marks₂ : List ℕ) → Marked a at marks marks₁ → Marked b to marks₁ marks₂
          → AllMarked marks₂ first₁ × AllMarked marks₂ second₁
      rows-marked marks₁ marks₂ marked marked' =
          let es = get_or (rows_of_entries a rows tracks) row [] in
          let es' = get_or (rows_of_entries b rows tracks) row [] in
          let known = left-marked ok state.first-left some marks marks₁ marked in
          let known' = left-marked ok' state.second-left some marks₁ marks₂ marked' in (
            rw line (all-marked tracks es marks₂ (every_of (λ e h. marked'.1 _ h) known)),
            rw line' (all-marked tracks es' marks₂ known'),
          )

      pub rows_empty : (eqb (get_or a at 0) 0 && eqb (get_or b to 0) 0) ≡ true
          → (first₁ ≡ replicate (tracks * 6) 0) × (second₁ ≡ replicate (tracks * 6) 0)
      rows_empty e =
          let zeros = both_zero (get_or a at 0) (get_or b to 0) e in (
            left-empty ok state.first-left some first first₁ after state.first-zeros carried zeros.0,
            left-empty ok' state.second-left some second second₁ after' state.second-zeros carried' zeros.1,
          )

      pub rows-turn : {first₂ second₂ marks₃ out' : List ℕ} (r : ℕ)
          → r ≡ length (tracks_differences pattern row first₁ second₁ 1 tracks)
          → out' ≡ entries_listed (tracks_differences pattern row first₁ second₁ 1 tracks) count out
          → first₂ ≡ replicate (tracks * 6) 0
          → second₂ ≡ replicate (tracks * 6) 0
          → length marks₃ ≡ 32
          → ListingRows a b rows tracks pattern out₀ first₂ second₂ out' marks₃ after after' (row + 1) (count + r)
      rows-turn {out' = out'} r size wrote zeros zeros' long =
          let es = get_or (rows_of_entries a rows tracks) row [] in
          let es' = get_or (rows_of_entries b rows tracks) row [] in
          let new = tracks_differences pattern row first₁ second₁ 1 tracks in
          let same : differences_at a b rows tracks pattern row ≡ new =
          ap (λ (x : Row). row_differences pattern tracks row x (get_or (rows_read b rows tracks) row [])) (left-row ok state.first-left some)
          ∙ ap (row_differences pattern tracks row (row_from tracks es)) (left-row ok' state.second-left some)
          ∙ row-bytes pattern tracks row (row_from tracks es) (row_from tracks es') (row-from-shaped tracks es) (row-from-shaped tracks es')
          ∙ ap (λ (x : List ℕ). tracks_differences pattern row x (joined (row_from tracks es')) 1 tracks) (sym line)
          ∙ ap (λ (x : List ℕ). tracks_differences pattern row first₁ x 1 tracks) (sym line') in
          let splits : differences_from a b rows tracks pattern row ≡ new ++ differences_from a b rows tracks pattern (row + 1) =
          joined-first (differences_at a b rows tracks pattern) (rows - row) (rows - (row + 1)) row (omega arith)
          ∙ ap (λ (l : List Difference). l ++ differences_from a b rows tracks pattern (row + 1)) same in
          record {
            within = omega arith;
            first-left = left-next ok state.first-left some first first₁ after state.first-zeros carried;
            second-left = left-next ok' state.second-left some second second₁ after' state.second-zeros carried';
            first-zeros = zeros;
            second-zeros = zeros';
            marks-long = long;
            listing = listing-turn state.listing new (differences_from a b rows tracks pattern (row + 1)) out' r splits size
                (wrote ∙ ap (λ (k : ℕ). entries_listed new k out) (sym (zero-add count)));
          }

-- The first zeros of zeros.
pub take-zeros : (n m : ℕ) → n ≤ m → take n (replicate {A = ℕ} m 0) ≡ replicate n 0
take-zeros zero m h = refl
take-zeros (suc n) zero h = absurd (omega arith)
take-zeros (suc n) (suc m) h = ap (0 ∷◌) (take-zeros n m (omega arith))

-- The answer of comparing, by the verdicts of the two streams.
pub first-refused : (r other : Reading) (n : ℕ) (why : Refusal) → verdict_of_reading r ≡ Err why → Err why ≡ comparison_of r other n
first-refused r other n why e =
    let broken = refused-reading r why e in
    ap Err broken.2 ∙ sym (ap (λ (q : Reading). comparison_of q other n) broken.1)

pub second-refused : (r other : Reading) (n : ℕ) (why : Refusal) → verdict_of_reading r ≡ Ok tt → verdict_of_reading other ≡ Err why
    → Err why ≡ comparison_of r other n
second-refused r other n why ok e =
    let read = (accepted-reading r).0 ok in
    let broken = refused-reading other why e in
    ap Err broken.2
    ∙ sym (ap (λ (q : Reading). comparison_of q other n) read.1 ∙ ap (λ (q : Reading). comparison_of (whole read.0) q n) broken.1)

pub both_read : (r other : Reading) (n : ℕ) → verdict_of_reading r ≡ Ok tt → verdict_of_reading other ≡ Ok tt
    → (count : ℕ) → count ≡ n → Ok count ≡ comparison_of r other n
both_read r other n ok ok' count is =
    let read = (accepted-reading r).0 ok in
    let read' = (accepted-reading other).0 ok' in
    ap Ok is
    ∙ sym (ap (λ (q : Reading). comparison_of q other n) read.1 ∙ ap (λ (q : Reading). comparison_of (whole read.0) q n) read'.1)
