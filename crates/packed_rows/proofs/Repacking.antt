-- Repacking an accepted stream one row at a time: the packed length and the packer's stream of the pattern that it holds.
use Prim.Native.Nat.{ℕ, suc, ◌+◌, ◌*◌, ◌<◌, ◌≤◌}
use Rattle.std.specs.Prelude.{Ok, Err}
use mathlib.Core.Path.{◌≡◌, refl, sym, ap, ◌∙◌}
use mathlib.Core.List.{List, [], ◌∷◌, ◌++◌}
use native.Mathlib.Omega.{arith}
use native.Mathlib.Nat.{mul-le-mul}
use lib.ListN.{length, take, drop}
use lib.Seq.{take_all}
use Rattle.vocabulary.specs.Lists.{joined}
use Rattle.refusal.specs.Lengths.{needed_if}
use Rattle.refusal.specs.declared.Refusal.{Refusal}
use Rattle.cells.specs.Cells.{Row, row_of, rows_of}
use Rattle.packed_rows.specs.Entries.{Entry, row_from, rows_from, row_stream}
use Rattle.packed_rows.specs.Stream.{Reading, reading, read_stream, entries_read, broken_at, whole}
use Rattle.packed_rows.specs.Packer.{packed_entries, packed_stream, packed_length}
use Rattle.packed_rows.specs.Answers.{verdict_of_reading, repack_of_reading}
use Rattle.packed_rows.specs.Steps.{RowAhead, Loaded, rows_read}
use Rattle.packed_rows.proofs.Grammar.{reads-exactly, reads-from}
use Rattle.packed_rows.proofs.Shapes.{row-joined, row-from-shaped, rows-from-shaped}
use Rattle.packed_rows.proofs.StreamLength.{packed-length-cons, packed-length, packed-length-most}
use Rattle.packed_rows.proofs.ByVerdict.{accepted-reading, refused-reading}
use Rattle.packed_rows.proofs.CarryingRows.{one-row}
use Rattle.packed_rows.proofs.Writing.{Writing, writing-first, writing_more, writing-room, writing-last}

-- The next of the rows left at a place of an accepted stream, and its bytes.
pub record NextRow (s : List ℕ) (tracks after l : ℕ) (later : List (List Entry)) (line : List ℕ) : Type 0 where
  pub es : List Entry
  pub rest : List (List Entry)
  pub is : later ≡ es ∷ rest
  pub left : reading tracks l after (drop after s) ≡ whole rest
  pub line-is : line ≡ joined (row_from tracks es)
  pub row_is : row_of tracks line ≡ row_from tracks es

module _ (s : List ℕ) (tracks at left : ℕ) (later : List (List Entry))
    (reads : reading tracks left at (drop at s) ≡ whole later) (l : ℕ) (some : left ≡ suc l) (size : ℕ)
    (wide : size ≡ tracks * 6) where
  module _ (es : List Entry) (rest : List (List Entry)) (is : later ≡ es ∷ rest) where
    abbrev ahead : RowAhead s at size
    ahead = record { tracks = tracks; left = l; entries = es; later = rest; reads = rw some at reads ∙ ap whole is; fits = wide }

    next : (after : ℕ) (line : List ℕ) → Loaded s at size after line → NextRow s tracks after l later line
    next after line loads =
        let got = loads ahead in
        record {
          es = es;
          rest = rest;
          is = is;
          left = got.0;
          line-is = got.1;
          row_is = ap (row_of tracks) got.1 ∙ row-joined (row_from tracks es) (row-from-shaped tracks es);
        }

  found : (es : List Entry) × (rest : List (List Entry)) × (later ≡ es ∷ rest)
  found = one-row (drop at s) tracks l at later (rw some at reads)

  pub row-ahead : RowAhead s at size
  row-ahead = ahead found.0 found.1 found.2

  pub row_next : (after : ℕ) (line : List ℕ) → Loaded s at size after line → NextRow s tracks after l later line
  row_next = next found.0 found.1 found.2

-- If no row is left, no entries are left.
pub none_left : (s : List ℕ) (tracks at left : ℕ) (later : List (List Entry)) → reading tracks left at (drop at s) ≡ whole later → left ≡ 0 → later ≡ []
none_left s tracks at left [] reads z = refl
none_left s tracks at left (es ∷ rest) reads z = absurd (omega (arith, ((reads-from left tracks at (drop at s) (es ∷ rest)).0 reads).count, z))

pub all_read : (s : List ℕ) (rows tracks : ℕ) → verdict_of_reading (read_stream rows tracks s) ≡ Ok tt
    → (entries : List (List Entry)) × (read_stream rows tracks s ≡ whole entries) × (rows_read s rows tracks ≡ rows_from tracks entries)
all_read s rows tracks ok =
    let read = (accepted-reading (read_stream rows tracks s)).0 ok in
    (read.0, read.1, ap (λ (r : Reading). rows_from tracks (entries_read r)) read.1)

-- The packed length of one row, and of a row before others.
pub one-length : (tracks : ℕ) (line : List ℕ) (row : Row) → length line ≡ tracks * 6 → row_of tracks line ≡ row
    → packed_length (rows_of 1 tracks line) ≡ packed_length (row ∷ [])
one-length tracks line row long e =
    ap (λ (bytes : List ℕ). packed_length (row_of tracks bytes ∷ [])) (take_all (tracks * 6) line (omega arith))
    ∙ ap (λ (r : Row). packed_length (r ∷ [])) e

pub length_more : (row : Row) (rows : List Row) → packed_length (row ∷ rows) ≡ packed_length (row ∷ []) + packed_length rows
length_more row rows = omega (arith, packed-length-cons row rows, packed-length-cons row [])

-- The state of the loop that counts the packed length.
pub record CountingRows (s : List ℕ) (rows tracks at length left : ℕ) : Type 0 where
  pub later : List (List Entry)
  pub reads : reading tracks left at (drop at s) ≡ whole later
  pub same : length + packed_length (rows_from tracks later) ≡ packed_length (rows_read s rows tracks)

module _ (s : List ℕ) (rows tracks : ℕ) where
  pub counting-first : verdict_of_reading (read_stream rows tracks s) ≡ Ok tt → CountingRows s rows tracks 0 0 rows
  counting-first ok =
      let read = all_read s rows tracks ok in
      record { later = read.0; reads = read.1; same = omega (arith, ap packed_length read.2) }

  pub repacked-small : verdict_of_reading (read_stream rows tracks s) ≡ Ok tt → rows < 65536 → tracks < 255
      → packed_length (rows_read s rows tracks) ≤ 65535 * 2033
  repacked-small ok few thin =
      let read = all_read s rows tracks ok in
      let count : length read.0 ≡ rows = ((reads-exactly rows tracks s read.0).0 read.1).count in
      let most = packed-length-most (rows-from-shaped tracks read.0) in
      let narrow : 1 + 8 * tracks ≤ 2033 = omega arith in
      let many : length read.0 ≤ 65535 = omega (arith, count) in
      let product = mul-le-mul many narrow in
      omega (arith, ap packed_length read.2)

  module _ (at length' left : ℕ) (state : CountingRows s rows tracks at length' left) where
    pub counting-last : left ≡ 0 → length' ≡ packed_length (rows_read s rows tracks)
    counting-last z =
        let none = none_left s tracks at left state.later state.reads z in
        omega (arith, state.same, ap (λ (es : List (List Entry)). packed_length (rows_from tracks es)) none)

    module _ (l : ℕ) (some : left ≡ suc l) (line : List ℕ) (after : ℕ) (next : NextRow s tracks after l state.later line)
        (n : ℕ) (long : length line ≡ tracks * 6) (is : n ≡ packed_length (rows_of 1 tracks line)) where
      sum : n + packed_length (rows_from tracks next.rest) ≡ packed_length (rows_from tracks state.later)
      sum =
          omega (
            arith,
            is,
            one-length tracks line (row_from tracks next.es) long next.row_is,
            length_more (row_from tracks next.es) (rows_from tracks next.rest),
            ap (λ (es : List (List Entry)). packed_length (rows_from tracks es)) next.is,
          )

      pub counting-room : length' + n ≤ packed_length (rows_read s rows tracks)
      counting-room = omega (arith, sum, state.same)

      pub counting-turn : CountingRows s rows tracks after (length' + n) l
      counting-turn = record { later = next.rest; reads = next.left; same = omega (arith, sum, state.same) }

-- The state of the loop that writes the packer's stream.
pub record RepackingRows (s : List ℕ) (rows tracks : ℕ) (out₀ out : List ℕ) (at to left : ℕ) : Type 0 where
  pub later : List (List Entry)
  pub reads : reading tracks left at (drop at s) ≡ whole later
  pub writing : Writing out₀ 0 (packed_stream (rows_read s rows tracks)) out to (packed_stream (rows_from tracks later))

module _ (s : List ℕ) (rows tracks : ℕ) (out₀ : List ℕ) where
  pub repacking-first : verdict_of_reading (read_stream rows tracks s) ≡ Ok tt → RepackingRows s rows tracks out₀ out₀ 0 0 rows
  repacking-first ok =
      let read = all_read s rows tracks ok in
      record { later = read.0; reads = read.1; writing = rw read.2 (writing-first out₀ 0 (packed_stream (rows_from tracks read.0))) }

  module _ (out : List ℕ) (at to left : ℕ) (state : RepackingRows s rows tracks out₀ out at to left) where
    pub repacking-last : length out₀ ≡ packed_length (rows_read s rows tracks) → left ≡ 0 → out ≡ packed_stream (rows_read s rows tracks)
    repacking-last full z =
        let none = none_left s tracks at left state.later state.reads z in
        let end = writing-last out₀ 0 (packed_stream (rows_read s rows tracks)) _ state.writing
        (ap (λ (es : List (List Entry)). packed_stream (rows_from tracks es)) none) in
        sym (take_all to out (omega (arith, end.0, state.writing.room, full, packed-length (rows_read s rows tracks)))) ∙ end.1

    module _ (l : ℕ) (line : List ℕ) (after : ℕ) (next : NextRow s tracks after l state.later line) where
      abbrev row : List ℕ
      row = row_stream (packed_entries (row_of tracks line))

      splits : packed_stream (rows_from tracks state.later) ≡ row ++ packed_stream (rows_from tracks next.rest)
      splits =
          ap (λ (es : List (List Entry)). packed_stream (rows_from tracks es)) next.is
          ∙ ap (λ (r : Row). row_stream (packed_entries r) ++ packed_stream (rows_from tracks next.rest)) (sym next.row_is)

      pub repacking-room : to + length row ≤ length (packed_stream (rows_read s rows tracks))
      repacking-room =
          omega (
            arith,
            writing-room out₀ 0 (packed_stream (rows_read s rows tracks)) row (packed_stream (rows_from tracks next.rest)) _
                state.writing splits,
          )

      pub repacking-turn : (out' : List ℕ) (to' : ℕ) → length out' ≡ length out → to' ≡ to + length row
          → take to' out' ≡ take to out ++ row
          → RepackingRows s rows tracks out₀ out' after to' l
      repacking-turn out' to' long p q =
          record {
            later = next.rest;
            reads = next.left;
            writing = writing_more out₀ 0 (packed_stream (rows_read s rows tracks)) row _ (rw splits at state.writing) long p q;
          }

-- The answer of repacking, by the verdict of the stream.
pub repack-refused : (r : Reading) (tracks room : ℕ) (why : Refusal) → verdict_of_reading r ≡ Err why → Err why ≡ repack_of_reading r tracks room
repack-refused r tracks room why e =
    let broken = refused-reading r why e in
    ap Err broken.2 ∙ sym (ap (λ (q : Reading). repack_of_reading q tracks room) broken.1)

pub repack-found : (r : Reading) (tracks room : ℕ) → verdict_of_reading r ≡ Ok tt
    → needed_if (packed_length (rows_from tracks (entries_read r))) room ≡ repack_of_reading r tracks room
repack-found (broken_at p) tracks room e = absurd (let z : ◌≡◌ {A = ℕ} 0 1 = cc in omega arith)
repack-found (whole rows) tracks room e = refl
