-- Streams that differ only in bits 6 and 7 of masks are read alike (R3), so the calls on one stream answer the same for them.
use Prim.Native.Nat.{ℕ, zero, suc, ◌+◌, ◌%◌, ◌≤◌}
use mathlib.Core.Path.{◌≡◌, refl, sym, ap, ◌∙◌}
use mathlib.Core.Logic.{◌↔◌}
use mathlib.Core.List.{List, [], ◌∷◌, ◌++◌, map, append_assoc}
use mathlib.Core.Bool.{Bool, true, false, ◌&&◌}
use native.Mathlib.Omega.{arith}
use borrow.Author.Tests.{leb-true, le-leb, eq-eqb, ne_eqb}
use lib.Dec.{leb}
use lib.ListN.{length, take, drop, take-append-drop}
use lib.Seq.{length-take-le}
use Rattle.cells.specs.Cells.{bytes_of}
use Rattle.packed_rows.specs.Entries.{Entry, named, count, fields_named, entry_bytes, sound_entry, rows_from, row_stream, stream_of}
use Rattle.packed_rows.specs.Stream.{Reading, broken_at, whole, new_row, add_entry, reading, read_stream, entries_read, AcceptedAs}
use Rattle.packed_rows.specs.Answers.{verdict_of_reading, repack_of_reading, cell_of_reading}
use Rattle.packed_rows.specs.Theorems.{every, all_sound, without_upper_bits, SameAnswers}
use Rattle.packed_rows.specs.Theorems.{SameButUpperBits, unchanged, with_row_end, with_entry, with_mask}
use Rattle.packed_rows.proofs.Reading.{and-true, true-and, front-entry, front-row-end}
use Rattle.packed_rows.proofs.Reading.{reading-over, reading-row-end, reading-entry, reading-fault}
use Rattle.packed_rows.proofs.UpperBits.{named-low, sound-low, low_rows, all-sound-low, rows-from-low}
use Rattle.packed_rows.proofs.EqualPatterns.{pattern-itself}

-- A reading without these bits.
abbrev low_reading : Reading → Reading
low_reading (broken_at p) = broken_at p
low_reading (whole rows) = whole (low_rows rows)

low-new-row : (r : Reading) → low_reading (new_row r) ≡ new_row (low_reading r)
low-new-row (broken_at p) = refl
low-new-row (whole rows) = refl

low-add-entry : (e : Entry) (r : Reading) → low_reading (add_entry e r) ≡ add_entry (without_upper_bits e) (low_reading r)
low-add-entry e (broken_at p) = refl
low-add-entry e (whole []) = refl
low-add-entry e (whole (es ∷ rows)) = refl

-- Two streams are read alike from every place, whatever rows are left.
abbrev ReadAlike : ℕ → List ℕ → List ℕ → Type 0
ReadAlike tracks s s' = (rows at : ℕ) → low_reading (reading tracks rows at s) ≡ low_reading (reading tracks rows at s')

module _ (tracks : ℕ) where
  -- Bytes left over after the last row.
  over-alike : (at b b' : ℕ) (s s' : List ℕ) → low_reading (reading tracks 0 at (b ∷ s)) ≡ low_reading (reading tracks 0 at (b' ∷ s'))
  over-alike at b b' s s' = ap low_reading (reading-over tracks at b s ∙ sym (reading-over tracks at b' s'))

  row-end-alike : (s s' : List ℕ) → ReadAlike tracks s s' → ReadAlike tracks (0 ∷ s) (0 ∷ s')
  row-end-alike s s' alike zero at = over-alike at 0 0 s s'
  row-end-alike s s' alike (suc rows) at =
      ap low_reading (reading-row-end tracks rows at (0 ∷ s) s (front-row-end tracks s))
      ∙ low-new-row (reading tracks rows (at + 1) s)
      ∙ ap new_row (alike rows (at + 1))
      ∙ sym (low-new-row (reading tracks rows (at + 1) s'))
      ∙ ap low_reading (sym (reading-row-end tracks rows at (0 ∷ s') s' (front-row-end tracks s')))

  -- Reading an entry.
  entry_read : (rows at : ℕ) (e : Entry) (s : List ℕ) → sound_entry tracks e ≡ true
      → low_reading (reading tracks (suc rows) at (entry_bytes e ++ s))
      ≡ add_entry (without_upper_bits e) (low_reading (reading tracks (suc rows) (at + length (entry_bytes (without_upper_bits e))) s))
  entry_read rows at e s sound =
      ap low_reading (reading-entry tracks rows at (entry_bytes e ++ s) e s (front-entry tracks e s sound))
      ∙ low-add-entry e (reading tracks (suc rows) (at + length (entry_bytes e)) s)

  entry-alike : (s s' : List ℕ) (e e' : Entry) → sound_entry tracks e ≡ true → without_upper_bits e ≡ without_upper_bits e'
      → ReadAlike tracks s s'
      → ReadAlike tracks (entry_bytes e ++ s) (entry_bytes e' ++ s')
  entry-alike s s' e e' sound same alike zero at =
      over-alike at e.track e'.track (e.mask ∷ (e.fields ++ s)) (e'.mask ∷ (e'.fields ++ s'))
  entry-alike s s' e e' sound same alike (suc rows) at =
      let sound' : sound_entry tracks e' ≡ true =
      sym (sound-low tracks e') ∙ ap (sound_entry tracks) (sym same) ∙ sound-low tracks e ∙ sound in
      entry_read rows at e s sound
      ∙ ap (add_entry (without_upper_bits e)) (alike (suc rows) (at + length (entry_bytes (without_upper_bits e))))
      ∙ ap (λ (f : Entry). add_entry f (low_reading (reading tracks (suc rows) (at + length (entry_bytes f)) s'))) same
      ∙ sym (entry_read rows at e' s' sound')

  -- An entry, sound or not, by its track and its mask.
  module _ (track mask mask' : ℕ) (s : List ℕ) (low : 1 ≤ track) (same : mask % 64 ≡ mask' % 64) where
    abbrev entry_of : ℕ → Entry
    entry_of m = record { track = track; mask = m; fields = take (fields_named m) s }

    names : named mask ≡ named mask'
    names = sym (named-low mask) ∙ ap named same ∙ named-low mask'

    entries : without_upper_bits (entry_of mask) ≡ without_upper_bits (entry_of mask')
    entries = λ i. record { track = track; mask = same i; fields = take (count (names i)) s }

    mask-faulty : (m rows at : ℕ) → leb track tracks && leb (fields_named m) (length s) ≡ false
        → reading tracks (suc rows) at (track ∷ m ∷ s) ≡ broken_at at
    mask-faulty m rows at e = reading-fault tracks rows at (track ∷ m ∷ s) (simp (ne_eqb track 0 (omega arith), e))

    mask-alike : ReadAlike tracks (track ∷ mask ∷ s) (track ∷ mask' ∷ s)
    mask-alike zero at = over-alike at track track (mask ∷ s) (mask' ∷ s)
    mask-alike (suc rows) at = go (leb track tracks && leb (fields_named mask) (length s)) refl
      where
        go : (t : Bool) → leb track tracks && leb (fields_named mask) (length s) ≡ t
            → low_reading (reading tracks (suc rows) at (track ∷ mask ∷ s)) ≡ low_reading (reading tracks (suc rows) at (track ∷ mask' ∷ s))
        go false e =
            let e' = rw names at e in
            ap low_reading (mask-faulty mask rows at e ∙ sym (mask-faulty mask' rows at e'))
        go true e =
            let parts = and-true (leb track tracks) (leb (fields_named mask) (length s)) e in
            let long = length-take-le (fields_named mask) s (leb-true (fields_named mask) (length s) parts.1) in
            let sound : sound_entry tracks (entry_of mask) ≡ true =
            true-and (le-leb 1 track low) (true-and parts.0 (eq-eqb (length (take (fields_named mask) s)) (fields_named mask) long)) in
            let rest : drop (fields_named mask) s ≡ drop (fields_named mask') s = ap (λ (ns : List Bool). drop (count ns) s) names in
            let alike = entry-alike (drop (fields_named mask) s) (drop (fields_named mask') s) (entry_of mask) (entry_of mask') sound entries
            (λ r a. ap (λ (l : List ℕ). low_reading (reading tracks r a l)) rest) (suc rows) at in
            simp take-append-drop at alike

  same_read : {s s' : List ℕ} → SameButUpperBits tracks s s' → ReadAlike tracks s s'
  same_read (unchanged s) = λ rows at. refl
  same_read (with_row_end {s = s} {s' = s'} d) = row-end-alike s s' (same_read d)
  same_read (with_entry {s = s} {s' = s'} e e' sound same d) = entry-alike s s' e e' sound same (same_read d)
  same_read (with_mask track mask mask' s low same) = mask-alike track mask mask' s low same

-- What a reading without these bits gives is what the reading gives.
verdict-low : (r : Reading) → verdict_of_reading (low_reading r) ≡ verdict_of_reading r
verdict-low (broken_at p) = refl
verdict-low (whole rows) = refl

entries-read-low : (tracks : ℕ) (r : Reading) → rows_from tracks (entries_read (low_reading r)) ≡ rows_from tracks (entries_read r)
entries-read-low tracks (broken_at p) = refl
entries-read-low tracks (whole rows) = rows-from-low tracks rows

repack-low : (tracks room : ℕ) (r : Reading) → repack_of_reading (low_reading r) tracks room ≡ repack_of_reading r tracks room
repack-low tracks room (broken_at p) = refl
repack-low tracks room (whole rows) = rw (rows-from-low tracks rows)

cell-low : (tracks row track : ℕ) (r : Reading) → cell_of_reading (low_reading r) tracks row track ≡ cell_of_reading r tracks row track
cell-low tracks row track (broken_at p) = refl
cell-low tracks row track (whole rows) = rw (rows-from-low tracks rows)

module _ (rows tracks : ℕ) (s s' : List ℕ) (alike : low_reading (read_stream rows tracks s) ≡ low_reading (read_stream rows tracks s')) where
  abbrev first : Reading
  first = read_stream rows tracks s

  abbrev second : Reading
  second = read_stream rows tracks s'

  -- A function of a reading that ignores these bits has the same value for both.
  by-reading : {A : Type 0} (f : Reading → A) → ((r : Reading) → f (low_reading r) ≡ f r) → f first ≡ f second
  by-reading f low = sym (low first) ∙ ap f alike ∙ low second

  verdicts : verdict_of_reading first ≡ verdict_of_reading second
  verdicts = by-reading verdict_of_reading verdict-low

  rows-same : rows_from tracks (entries_read first) ≡ rows_from tracks (entries_read second)
  rows-same = by-reading (λ (r : Reading). rows_from tracks (entries_read r)) (entries-read-low tracks)

  repacks-same : (room : ℕ) → repack_of_reading first tracks room ≡ repack_of_reading second tracks room
  repacks-same room = by-reading (λ (r : Reading). repack_of_reading r tracks room) (repack-low tracks room)

  cells_same : (row track : ℕ) → cell_of_reading first tracks row track ≡ cell_of_reading second tracks row track
  cells_same row track = by-reading (λ (r : Reading). cell_of_reading r tracks row track) (cell-low tracks row track)

  answers-same : SameAnswers rows tracks s s'
  answers-same = record {
    checks = rw verdicts;
    unpacks = λ room. rw verdicts;
    unpacked = λ out. rw (verdicts, rows-same);
    repacks = λ room. rw (repacks-same room);
    repacked = λ out. rw (repacks-same (length out), rows-same);
    cells = λ row track. rw (cells_same row track);
    differences = λ pattern. rw rows-same (pattern-itself pattern tracks rows (rows_from tracks (entries_read second)));
  }

  accepted-same : (cells : List ℕ) → AcceptedAs rows tracks s cells → AcceptedAs rows tracks s' cells
  accepted-same cells a = go second refl
    where
      go : (r : Reading) → second ≡ r → AcceptedAs rows tracks s' cells
      go (broken_at p) e = let z : ◌≡◌ {A = ℕ} 0 1 = cc in absurd (omega arith)
      go (whole entries) e = record {
        entries = entries;
        read = e;
        gives = ap bytes_of (ap (λ (r : Reading). rows_from tracks (entries_read r)) (sym e) ∙ sym rows-same
            ∙ ap (λ (r : Reading). rows_from tracks (entries_read r)) a.read) ∙ a.gives;
      }

pub same-answers : (rows tracks : ℕ) (s s' : List ℕ) → SameButUpperBits tracks s s' → SameAnswers rows tracks s s'
same-answers rows tracks s s' d = answers-same rows tracks s s' (same_read tracks d rows 0)

-- Rows of sound entries, and the same rows without these bits.
low_twice : (e : Entry) → without_upper_bits e ≡ without_upper_bits (without_upper_bits e)
low_twice e =
    let same : e.mask % 64 ≡ e.mask % 64 % 64 = omega arith in
    λ i. record { track = e.track; mask = same i; fields = e.fields }

module _ (tracks : ℕ) where
  entries-same : (es : List Entry) {s s' : List ℕ} → every (sound_entry tracks) es ≡ true → SameButUpperBits tracks s s'
      → SameButUpperBits tracks (row_stream es ++ s) (row_stream (map without_upper_bits es) ++ s')
  entries-same [] sound d = with_row_end d
  entries-same (e ∷ es) sound d =
      let parts = and-true (sound_entry tracks e) (every (sound_entry tracks) es) sound in
      let rest = simp append_assoc at (entries-same es parts.1 d) in
      simp append_assoc (with_entry e (without_upper_bits e) parts.0 (low_twice e) rest)

  streams-same : (entries : List (List Entry)) → all_sound tracks entries ≡ true
      → SameButUpperBits tracks (stream_of entries) (stream_of (low_rows entries))
  streams-same [] sound = unchanged []
  streams-same (es ∷ entries) sound =
      let parts = and-true (every (sound_entry tracks) es) (all_sound tracks entries) sound in
      entries-same es parts.0 (streams-same entries parts.1)

pub upper-bits-ignored : (rows tracks : ℕ) (entries : List (List Entry)) (cells : List ℕ) → all_sound tracks (low_rows entries) ≡ true
    → AcceptedAs rows tracks (stream_of entries) cells ↔ AcceptedAs rows tracks (stream_of (low_rows entries)) cells
upper-bits-ignored rows tracks entries cells sound =
    let alike = same_read tracks (streams-same tracks entries (sym (all-sound-low tracks entries) ∙ sound)) rows 0 in (
      accepted-same rows tracks (stream_of entries) (stream_of (low_rows entries)) alike cells,
      accepted-same rows tracks (stream_of (low_rows entries)) (stream_of entries) (sym alike) cells,
    )
