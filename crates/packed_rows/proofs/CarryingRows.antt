-- Carrying out all rows of an accepted stream, one after the other, on an output that holds zeros.
use Prim.Native.Nat.{ℕ, zero, suc, ◌+◌, ◌*◌}
use Rattle.std.specs.Prelude.{Ok}
use mathlib.Core.Path.{◌≡◌, refl, sym, ap, ◌∙◌}
use mathlib.Core.List.{List, [], ◌∷◌, ◌++◌, append_assoc}
use native.Mathlib.Omega.{arith}
use native.Mathlib.Nat.{zero-mul, suc-mul, add_comm}
use lib.ListN.{length, take, drop, replicate, length-append, length-replicate, replicate-append-replicate}
use lib.Seq.{take_at, drop_at}
use Rattle.vocabulary.specs.Lists.{joined}
use Rattle.cells.specs.Cells.{Row, row_of, bytes_of, empty_cell, empty_row}
use Rattle.packed_rows.specs.Entries.{Entry, carry_all, row_from, rows_from}
use Rattle.packed_rows.specs.Stream.{Reading, whole, reading, read_stream, entries_read, cells_read}
use Rattle.packed_rows.specs.Answers.{verdict_of_reading}
use Rattle.packed_rows.specs.Steps.{RowAhead, Carried, Loaded}
use Rattle.packed_rows.proofs.ByVerdict.{accepted-reading}
use Rattle.packed_rows.proofs.Grammar.{reads-from}
use Rattle.packed_rows.proofs.Shapes.{length-joined, row-from-shaped}

-- Zeros are empty cells.
pub zeros-row : (tracks : ℕ) → row_of tracks (replicate (tracks * 6) 0) ≡ empty_row tracks
zeros-row zero = refl
zeros-row (suc n) = rw (suc-mul n 6, add_comm (n * 6) 6, ← replicate-append-replicate {A = ℕ} 6 (n * 6) 0) (ap (empty_cell ∷◌) (zeros-row n))

-- If a row is left, a row was read.
pub one-row : (s : List ℕ) (tracks left at : ℕ) (later : List (List Entry)) → reading tracks (suc left) at s ≡ whole later
    → (es : List Entry) × (rest : List (List Entry)) × (later ≡ es ∷ rest)
one-row s tracks left at [] h = absurd (omega (arith, ((reads-from (suc left) tracks at s []).0 h).count))
one-row s tracks left at (es ∷ rest) h = (es, rest, refl)

pub record CarryingRows (s : List ℕ) (rows tracks : ℕ) (out : List ℕ) (at base left : ℕ) : Type 0 where
  pub later : List (List Entry)
  pub done : List ℕ
  pub reads : reading tracks left at (drop at s) ≡ whole later
  pub base-is : length done ≡ base
  pub holds : out ≡ done ++ replicate (left * (tracks * 6)) 0
  pub gives : cells_read rows tracks s ≡ done ++ bytes_of (rows_from tracks later)

module _ (s : List ℕ) (rows tracks : ℕ) where
  pub rows-first : (out : List ℕ) → verdict_of_reading (read_stream rows tracks s) ≡ Ok tt → out ≡ replicate (rows * (tracks * 6)) 0
      → CarryingRows s rows tracks out 0 0 rows
  rows-first out ok zeros =
      let read = (accepted-reading (read_stream rows tracks s)).0 ok in
      record {
        later = read.0;
        done = [];
        reads = read.1;
        base-is = refl;
        holds = zeros;
        gives = ap (λ (r : Reading). bytes_of (rows_from tracks (entries_read r))) read.1;
      }

  module _ (out : List ℕ) (at base left : ℕ) (state : CarryingRows s rows tracks out at base left) where
    pub rows-length : length out ≡ base + left * (tracks * 6)
    rows-length = ap length state.holds ∙ length-append state.done _ ∙ rw (length-replicate, state.base-is)

    pub rows_last : left ≡ 0 → out ≡ cells_read rows tracks s
    rows_last z =
        let read : reading tracks 0 at (drop at s) ≡ whole state.later = rw z at state.reads in
        state.holds
        ∙ rw z (ap (state.done ++◌) (nothing_left state.later ((reads-from 0 tracks at (drop at s) state.later).0 read).count))
        ∙ sym state.gives
      where
        nothing_left : (later : List (List Entry)) → length later ≡ 0 → replicate (0 * (tracks * 6)) 0 ≡ bytes_of (rows_from tracks later)
        nothing_left [] e = rw (zero-mul (tracks * 6))
        nothing_left (es ∷ rest) e = absurd (omega arith)

    module _ (l : ℕ) (some : left ≡ suc l) where
      zeros : drop base out ≡ replicate (tracks * 6) 0 ++ replicate (l * (tracks * 6)) 0
      zeros =
          ap (drop base) state.holds ∙ drop_at state.done _ base state.base-is
          ∙ rw (some, suc-mul l (tracks * 6), add_comm (l * (tracks * 6)) (tracks * 6))
          (sym (replicate-append-replicate {A = ℕ} (tracks * 6) (l * (tracks * 6)) 0))

      pub rows-part : take (tracks * 6) (drop base out) ≡ replicate (tracks * 6) 0
      rows-part = rw zeros (take_at (replicate (tracks * 6) 0) _ (tracks * 6) (length-replicate (tracks * 6) 0))

      pub rows-rest : drop (tracks * 6) (drop base out) ≡ replicate (l * (tracks * 6)) 0
      rows-rest = rw zeros (drop_at (replicate (tracks * 6) 0) _ (tracks * 6) (length-replicate (tracks * 6) 0))

      module _ (es : List Entry) (rest : List (List Entry)) (is : state.later ≡ es ∷ rest) where
        abbrev ahead : RowAhead s at (length (take (tracks * 6) (drop base out)))
        ahead =
            record {
              tracks = tracks;
              left = l;
              entries = es;
              later = rest;
              reads = rw some at state.reads ∙ ap whole is;
              fits = ap length rows-part ∙ length-replicate (tracks * 6) 0;
            }

        turn : (part : List ℕ) (after : ℕ) → Carried s at (take (tracks * 6) (drop base out)) after part
            → CarryingRows s rows tracks (take base out ++ (part ++ drop (tracks * 6) (drop base out))) after (base + tracks * 6) l
        turn part after carried =
            let done = carried ahead in
            let row : part ≡ joined (row_from tracks es) =
            done.1
            ∙ ap (λ (bytes : List ℕ). joined (carry_all es (row_of tracks bytes))) rows-part
            ∙ ap (λ (row : Row). joined (carry_all es row)) (zeros-row tracks) in
            let long : length part ≡ tracks * 6 = ap length row ∙ length-joined 6 (row-from-shaped tracks es) in
            record {
              later = rest;
              done = state.done ++ part;
              reads = done.0;
              base-is = length-append state.done part ∙ omega (arith, state.base-is, long);
              holds = rw rows-rest (ap (◌++ (part ++ replicate (l * (tracks * 6)) 0))
                  (ap (take base) state.holds ∙ take_at state.done _ base state.base-is)
                  ∙ sym (append_assoc state.done part _));
              gives = state.gives ∙ rw is (rw (← row) (sym (append_assoc state.done part _)));
            }

      -- The lent part is k bytes long.
      module _ (k : ℕ) (wide : k ≡ tracks * 6) where
        found : (es : List Entry) × (rest : List (List Entry)) × (state.later ≡ es ∷ rest)
        found = one-row (drop at s) tracks l at state.later (rw some at state.reads)

        pub rows-ahead : RowAhead s at (length (take k (drop base out)))
        rows-ahead = rw wide (ahead found.0 found.1 found.2)

        pub rows-turn : (part : List ℕ) (after : ℕ) → Carried s at (take k (drop base out)) after part
            → CarryingRows s rows tracks (take base out ++ (part ++ drop k (drop base out))) after (base + tracks * 6) l
        rows-turn part after carried = rw wide (turn found.0 found.1 found.2 part after (rw wide at carried))

-- A row loaded is a row carried out on zeros.
pub ahead_of : (s : List ℕ) (at size : ℕ) (row : List ℕ) → length row ≡ size → RowAhead s at size → RowAhead s at (length row)
ahead_of s at size row e ahead = rw e ahead

pub loaded : (s : List ℕ) (at size after : ℕ) (cleared row : List ℕ) → cleared ≡ replicate size 0 → Carried s at cleared after row → Loaded s at size after row
loaded s at size after cleared row zeros carried ahead =
    let long : length cleared ≡ size = ap length zeros ∙ length-replicate size 0 in
    let found =
    carried
    (record {
      tracks = ahead.tracks;
      left = ahead.left;
      entries = ahead.entries;
      later = ahead.later;
      reads = ahead.reads;
      fits = long ∙ ahead.fits;
    })
    in
    let empty : row_of ahead.tracks cleared ≡ empty_row ahead.tracks =
    ap (row_of ahead.tracks) (zeros ∙ ap (λ (n : ℕ). replicate n 0) ahead.fits) ∙ zeros-row ahead.tracks in
    (found.0, found.1 ∙ ap (λ (r : Row). joined (carry_all ahead.entries r)) empty, found.2)
