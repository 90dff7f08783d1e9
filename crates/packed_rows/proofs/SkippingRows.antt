-- Skipping the first rows of an accepted stream.
use Prim.Native.Nat.{ℕ, suc, ◌+◌, ◌-◌, ◌*◌, ◌<◌, ◌≤◌}
use Rattle.std.specs.Prelude.{Ok, Err}
use mathlib.Core.Path.{◌≡◌, refl, sym, ap, ◌∙◌}
use mathlib.Core.List.{List, [], ◌∷◌}
use native.Mathlib.Omega.{arith}
use native.Mathlib.Nat.{zero-add, sub-zero}
use lib.ListN.{length, get_or, drop}
use lib.Seq.{drop-cons}
use mathlib.Core.Bool.{true}
use lib.Dec.{leb, ltb}
use borrow.Author.Tests.{leb-true, ltb-true}
use Rattle.vocabulary.specs.Lists.{joined}
use Rattle.refusal.specs.declared.Refusal.{Refusal}
use Rattle.cells.specs.Shown.{shown_cell}
use Rattle.cells.specs.Cells.{Row, empty_cell, row_of}
use Rattle.packed_rows.specs.Entries.{Entry, row_from, rows_from}
use Rattle.packed_rows.specs.Answers.{verdict_of_reading, cell_there, cell_of_reading}
use Rattle.packed_rows.specs.Stream.{Reading, reading, broken_at, whole, read_stream, entries_read}
use Rattle.packed_rows.specs.Steps.{RowAhead, Skipped, Loaded, MoreRows, AfterRows, cell_at, cell_read}
use Rattle.packed_rows.proofs.Reading.{and-true}
use Rattle.packed_rows.proofs.Grammar.{reads-exactly}
use Rattle.packed_rows.proofs.Shapes.{get_or-mapped, row-joined, row-from-shaped}
use Rattle.packed_rows.proofs.Carrying.{block_at}
use Rattle.packed_rows.proofs.ByVerdict.{accepted-reading, refused-reading}

pub all-rows : (s : List ℕ) (n : ℕ) (all : MoreRows s n) → length all.entries ≡ all.rows
all-rows s n all = ((reads-exactly all.rows all.tracks s all.entries).0 all.reads).count

-- The state of the loop that skips rows: n - left rows are skipped, and the others follow at the place.
pub record SkippingRows (s : List ℕ) (n : ℕ) (all : MoreRows s n) (at left : ℕ) : Type 0 where
  pub done : ℕ
  pub counts : done + left ≡ n
  pub reads : reading all.tracks (all.rows - done) at (drop at s) ≡ whole (drop done all.entries)

-- The row at a place after the given number of rows.
pub row-after : (s : List ℕ) (n : ℕ) (all : MoreRows s n) (at done : ℕ) → done < all.rows
    → reading all.tracks (all.rows - done) at (drop at s) ≡ whole (drop done all.entries) → (rest : ℕ)
    → all.rows - done ≡ suc rest
    → reading all.tracks (suc rest) at (drop at s) ≡ whole (get_or all.entries done [] ∷ drop (suc done) all.entries)
row-after s n all at done h reads rest e = rw e at reads ∙ ap whole (drop-cons all.entries done [] (omega (arith, all-rows s n all)))

module _ (s : List ℕ) (n : ℕ) (all : MoreRows s n) where
  pub skips-first : SkippingRows s n all 0 n
  skips-first = record { done = 0; counts = zero-add n; reads = rw (sub-zero all.rows) all.reads }

  module _ (at left : ℕ) (state : SkippingRows s n all at left) where
    pub skips-last : left ≡ 0 → reading all.tracks (all.rows - n) at (drop at s) ≡ whole (drop n all.entries)
    skips-last z = let e : state.done ≡ n = omega (arith, state.counts) in rw e at state.reads

    module _ (l : ℕ) (some : left ≡ suc l) where
      pub inside : state.done < all.rows
      inside = omega (arith, state.counts, all.more)

      abbrev pub skips-ahead : RowAhead s at (all.tracks * 6)
      skips-ahead =
          record {
            tracks = all.tracks;
            left = all.rows - suc state.done;
            entries = get_or all.entries state.done [];
            later = drop (suc state.done) all.entries;
            reads = row-after s n all at state.done inside state.reads (all.rows - suc state.done) (omega (arith, inside));
            fits = refl;
          }

      pub skips-turn : (after : ℕ) → Skipped s at after → SkippingRows s n all after l
      skips-turn after skipped =
          record { done = suc state.done; counts = omega (arith, state.counts, some); reads = skipped (all.tracks * 6) skips-ahead }

-- One cell: the row after the skipped rows, and six of its bytes.
module _ (s : List ℕ) (rows tracks row track : ℕ) (ok : verdict_of_reading (read_stream rows tracks s) ≡ Ok tt)
    (there : cell_there rows tracks row track ≡ true) where
  abbrev read : (entries : List (List Entry)) × (read_stream rows tracks s ≡ whole entries)
  read = (accepted-reading (read_stream rows tracks s)).0 ok

  pub row-there : row < rows
  row-there = ltb-true row rows (and-true (ltb row rows) _ there).0

  pub track-there : (1 ≤ track) × (track ≤ tracks)
  track-there =
      let b = and-true (leb 1 track) (leb track tracks) (and-true (ltb row rows) _ there).1 in
      (leb-true 1 track b.0, leb-true track tracks b.1)

  abbrev pub all_read : MoreRows s row
  all_read = record { rows = rows; tracks = tracks; entries = read.0; reads = read.1; more = row-there }

  module _ (at : ℕ) (after : AfterRows s row at) where
    abbrev pub cell-ahead : RowAhead s at (tracks * 6)
    cell-ahead =
        record {
          tracks = tracks;
          left = rows - suc row;
          entries = get_or read.0 row [];
          later = drop (suc row) read.0;
          reads = row-after s row all_read at row row-there (after all_read) (rows - suc row) (omega (arith, row-there));
          fits = refl;
        }

    pub cell-shown : (size end : ℕ) (line : List ℕ) → size ≡ tracks * 6 → Loaded s at size end line
        → cell_at line ((track - 1) * 6) ≡ cell_read s rows tracks row track
    cell-shown size end line e loads =
        let inside : track - 1 < tracks = omega (arith, track-there) in
        let one : RowAhead s at size = rw e cell-ahead in
        let row_is : line ≡ joined (row_from tracks (get_or read.0 row [])) = (let l : Loaded s at (tracks * 6) end line = rw e at loads in (l cell-ahead).1) in
        let whole_row = ap (row_of tracks) row_is ∙ row-joined (row_from tracks (get_or read.0 row [])) (row-from-shaped tracks (get_or read.0 row [])) in
        let rows_are : rows_from tracks (entries_read (read_stream rows tracks s)) ≡ rows_from tracks read.0 =
        ap (λ (r : Reading). rows_from tracks (entries_read r)) read.1 in
        sym (block_at tracks 6 (track - 1) line empty_cell inside)
        ∙ ap (λ (r : Row). get_or r (track - 1) empty_cell)
        (whole_row ∙ sym (get_or-mapped (row_from tracks) read.0 row [] [] (omega (arith, row-there, all-rows s row all_read))))
        ∙ ap (λ (rs : List Row). get_or (get_or rs row []) (track - 1) empty_cell) (sym rows_are)

-- The answer to a query for a cell, by the verdict of the stream.
pub cell-refused : (r : Reading) (tracks row track : ℕ) (why : Refusal) → verdict_of_reading r ≡ Err why
    → Err why ≡ cell_of_reading r tracks row track
cell-refused r tracks row track why e =
    let broken = refused-reading r why e in
    ap Err broken.2 ∙ sym (ap (λ (q : Reading). cell_of_reading q tracks row track) broken.1)

pub cell-found : (s : List ℕ) (rows tracks row track : ℕ) → verdict_of_reading (read_stream rows tracks s) ≡ Ok tt
    → Ok (shown_cell (cell_read s rows tracks row track)) ≡ cell_of_reading (read_stream rows tracks s) tracks row track
cell-found s rows tracks row track ok = go (read_stream rows tracks s) ok
  where
    go : (r : Reading) → verdict_of_reading r ≡ Ok tt
        → Ok (shown_cell (get_or (get_or (rows_from tracks (entries_read r)) row []) (track - 1) empty_cell)) ≡ cell_of_reading r tracks row track
    go (broken_at p) e = absurd (let z : ◌≡◌ {A = ℕ} 0 1 = cc in omega arith)
    go (whole es) e = refl
