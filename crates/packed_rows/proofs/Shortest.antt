-- No accepted stream is shorter than the packer's (W5), and those of the same length are the packer's entries in another order within the
-- rows (W6), but for bits 6 and 7 of masks. Carrying out an entry makes a row's packed length grow by at most the entry's bytes. If it
-- grows by that much, the cell was empty and the entry without these bits is the packer's for the new cell.
use Prim.Native.Nat.{ℕ, zero, suc, ◌+◌, ◌-◌, ◌%◌, ◌≤◌, ◌<◌}
use native.Mathlib.Nat.{add-zero, add-suc, suc-add}
use native.Mathlib.Omega.{arith}
use mathlib.Core.Path.{◌≡◌, refl, sym, ap, ◌∙◌}
use mathlib.Core.Logic.{◌↔◌}
use mathlib.Core.List.Permᴰ
use mathlib.Core.List.{List, [], ◌∷◌, ◌++◌, map, append-nil, Permᴰ}
use mathlib.Core.Bool.{Bool, true, false, cond}
use borrow.Author.Tests.{ltb-false}
use lib.ListN.{length, get_or, set, length-append}
use Rattle.vocabulary.specs.Lists.{joined}
use Rattle.cells.specs.Cells.{Cell, Row, empty_cell, empty_row, cell_bytes, rows_of, non_zeros, non_empty}
use Rattle.packed_rows.specs.Entries.{Entry, named, count, entry_bytes, sound_entry, store, carry_out, carry_all, row_from, rows_from, row_stream, stream_of}
use Rattle.packed_rows.specs.Stream.{AcceptedAs}
use Rattle.packed_rows.specs.Packer.{of_bits, non_zero, packed_entry, entries_from, packed_entries, packed_stream, packed_length}
use Rattle.packed_rows.specs.Theorems.{every, all_sound, SoundStream, without_upper_bits, Reordered, end, next}
use Rattle.packed_rows.proofs.Shapes.{none, one, Blocks, Shaped, each-count, each-get_or, each-replicate, carry-shaped, rows-shaped, bytes-rows}
use Rattle.packed_rows.proofs.Bits.{of-bits}
use Rattle.packed_rows.proofs.PackedRow.{packs}
use Rattle.packed_rows.proofs.Storing.{all-zeros, store-most, store-full}
use Rattle.packed_rows.proofs.StreamLength.{cell_length, row_length, cell-length-most, row-length-cons}
use Rattle.packed_rows.proofs.StreamLength.{packed-length-cons, row-stream-length, entries-length}
use Rattle.packed_rows.proofs.Soundness.{Sound, sound-facts, every-perm, entries-sound}
use Rattle.packed_rows.proofs.UpperBits.{every-sound-low, row-from-low, packed-low}
use Rattle.packed_rows.proofs.AnyOrder.{any-order-gives}
use Rattle.packed_rows.proofs.Reading.{and-true, true-and}
use Rattle.packed_rows.proofs.Grammar.{reads-exactly}
use Rattle.packed_rows.proofs.Accepted.{accepted-stream, accepted-rows}

-- One cell.
store_length : (ns : List Bool) (values : List ℕ) (cell : Cell) → cell_length (store ns values cell) ≤ cell_length cell + (2 + count ns)
store_length ns values cell = omega (arith, cell-length-most (store ns values cell), store-most ns values cell)

-- The entry is the packer's for the new cell, but for bits 6 and 7 of its mask, and the old cell was empty.
record Packers (e : Entry) (old new : Cell) : Type 0 where
  empty : non_empty old ≡ false
  filled : non_empty new ≡ true
  same : without_upper_bits e ≡ packed_entry e.track new

packed-same : (e : Entry) (new : Cell) → map non_zero new ≡ named e.mask → non_zeros new ≡ e.fields
    → without_upper_bits e ≡ packed_entry e.track new
packed-same e new p q =
    let mask : e.mask % 64 ≡ of_bits (map non_zero new) = sym (ap of_bits p ∙ of-bits 6 e.mask) in
    λ i. record { track = e.track; mask = mask i; fields = sym q i }

store-packers : (tracks : ℕ) (e : Entry) (old : Cell) → Sound tracks e → length old ≡ 6
    → cell_length old + length (entry_bytes e) ≤ cell_length (store (named e.mask) e.fields old) → Packers e old (store (named e.mask) e.fields old)
store-packers tracks e old s l h = go (non_empty old) (non_empty new) refl refl h
  where
    new : Cell
    new = store (named e.mask) e.fields old

    most : length (non_zeros new) ≤ length (non_zeros old) + length e.fields
    most = omega (arith, store-most (named e.mask) e.fields old, s.filled)

    same : old ≡ empty_cell → length e.fields ≤ length (non_zeros new) → without_upper_bits e ≡ packed_entry e.track new
    same z m =
        let full = store-full (named e.mask) e.fields s.filled (rw (z, s.filled) at m) in
        rw z (packed-same e (store (named e.mask) e.fields empty_cell) full.0 full.1)

    go : (a b : Bool) → non_empty old ≡ a → non_empty new ≡ b
        → cond a 2 0 + length (non_zeros old) + length (entry_bytes e) ≤ cond b 2 0 + length (non_zeros new)
        → Packers e old new
    go false true p q h =
        record { empty = p; filled = q; same = same (all-zeros 6 old l (omega (arith, ltb-false 0 (length (non_zeros old)) p))) (omega (arith, most)) }
    go false false p q h = absurd (omega (arith, most))
    go true true p q h = absurd (omega (arith, most))
    go true false p q h = absurd (omega (arith, most))

-- A row with one cell replaced.
set-length : (row : Row) (i : ℕ) (new : Cell) → i < length row
    → row_length (set row i new) + cell_length (get_or row i empty_cell) ≡ row_length row + cell_length new
set-length [] i new h = absurd (omega arith)
set-length (cell ∷ row) zero new h = omega (arith, row-length-cons cell row, row-length-cons new row)
set-length (cell ∷ row) (suc i) new h = omega (arith, row-length-cons cell row, row-length-cons cell (set row i new), set-length row i new (omega arith))

set-perm : (track : ℕ) (row : Row) (i : ℕ) (new : Cell) → i < length row → non_empty (get_or row i empty_cell) ≡ false → non_empty new ≡ true
    → Permᴰ (packed_entry (track + i) new ∷ entries_from track row) (entries_from track (set row i new))
set-perm track [] i new h p q = absurd (omega arith)
set-perm track (cell ∷ row) zero new h p q = rw (p, q, add-zero) (Permᴰ.refl _)
set-perm track (cell ∷ row) (suc i) new h p q = rw add-suc (go (non_empty cell) (rw suc-add at (set-perm (suc track) row i new (omega arith) p q)))
  where
    go : (b : Bool) → Permᴰ (packed_entry (suc (track + i)) new ∷ entries_from (suc track) row) (entries_from (suc track) (set row i new))
        → Permᴰ (packed_entry (suc (track + i)) new ∷ cond b (packed_entry track cell ∷ entries_from (suc track) row) (entries_from (suc track) row))
        (cond b (packed_entry track cell ∷ entries_from (suc track) (set row i new)) (entries_from (suc track) (set row i new)))
    go true ih = Permᴰ.trans (Permᴰ.swap refl refl) (Permᴰ.cons refl ih)
    go false ih = ih

module _ (tracks : ℕ) (e : Entry) (row : Row) (s : Sound tracks e) (b : Blocks tracks 6 row) where
  carry-length : row_length (carry_out e row) ≤ row_length row + length (entry_bytes e)
  carry-length =
      let here : e.track - 1 < length row = omega (arith, s.low, s.high, each-count b) in
      omega (
        arith,
        s.filled,
        store_length (named e.mask) e.fields (get_or row (e.track - 1) empty_cell),
        set-length row (e.track - 1) (store (named e.mask) e.fields (get_or row (e.track - 1) empty_cell)) here,
      )

  carry-packers : row_length row + length (entry_bytes e) ≤ row_length (carry_out e row)
      → Permᴰ (without_upper_bits e ∷ packed_entries row) (packed_entries (carry_out e row))
  carry-packers h =
      let here : e.track - 1 < length row = omega (arith, s.low, s.high, each-count b) in
      let old : Cell = get_or row (e.track - 1) empty_cell in
      let new : Cell = store (named e.mask) e.fields old in
      let packers : Packers e old new =
      store-packers tracks e old s (each-get_or (e.track - 1) empty_cell refl b)
      (omega (arith, set-length row (e.track - 1) new here)) in
      let same : without_upper_bits e ≡ packed_entry (1 + (e.track - 1)) new =
      packers.same ∙ ap (λ (t : ℕ). packed_entry t new) (omega (arith, s.low)) in
      Permᴰ.trans (Permᴰ.cons same (Permᴰ.refl (packed_entries row))) (set-perm 1 row (e.track - 1) new here packers.empty packers.filled)

-- All entries of a row.
carry-all-length : (tracks : ℕ) (es : List Entry) (row : Row) → every (sound_entry tracks) es ≡ true → Blocks tracks 6 row
    → row_length (carry_all es row) ≤ row_length row + length (joined (map entry_bytes es))
carry-all-length tracks [] row h b = omega arith
carry-all-length tracks (e ∷ es) row h b =
    let s = and-true (sound_entry tracks e) (every (sound_entry tracks) es) h in
    omega (
      arith,
      carry-length tracks e row (sound-facts tracks e s.0) b,
      carry-all-length tracks es (carry_out e row) s.1 (carry-shaped e b),
      length-append (entry_bytes e) (joined (map entry_bytes es)),
    )

carry-all-packers : (tracks : ℕ) (es : List Entry) (row : Row) → every (sound_entry tracks) es ≡ true → Blocks tracks 6 row
    → row_length row + length (joined (map entry_bytes es)) ≤ row_length (carry_all es row)
    → Permᴰ (map without_upper_bits es ++ packed_entries row) (packed_entries (carry_all es row))
carry-all-packers tracks [] row h b l = Permᴰ.refl (packed_entries row)
carry-all-packers tracks (e ∷ es) row h b l =
    let s = and-true (sound_entry tracks e) (every (sound_entry tracks) es) h in
    let sound = sound-facts tracks e s.0 in
    let shaped = carry-shaped e b in
    let first = carry-length tracks e row sound b in
    let others = carry-all-length tracks es (carry_out e row) s.1 shaped in
    let total = length-append (entry_bytes e) (joined (map entry_bytes es)) in
    let low = map without_upper_bits es in
    Permᴰ.trans (Permᴰ.symm (Permᴰ.middle (without_upper_bits e) low (packed_entries row)))
    (Permᴰ.trans (Permᴰ.append_left low (carry-packers tracks e row sound b (omega arith)))
    (carry-all-packers tracks es (carry_out e row) s.1 shaped (omega arith)))

-- An empty row has no entries.
empty-entries : (track n : ℕ) → entries_from track (empty_row n) ≡ []
empty-entries track zero = refl
empty-entries track (suc n) = empty-entries (suc track) n

empty-length : (n : ℕ) → row_length (empty_row n) ≡ 0
empty-length n = sym (entries-length (packs 1 (empty_row n))) ∙ rw (empty-entries 1 n)

-- All rows.
stream-length : (tracks : ℕ) (entries : List (List Entry)) → all_sound tracks entries ≡ true
    → packed_length (rows_from tracks entries) ≤ length (stream_of entries)
stream-length tracks [] h = omega arith
stream-length tracks (es ∷ entries) h =
    let s = and-true (every (sound_entry tracks) es) (all_sound tracks entries) h in
    omega (
      arith,
      packed-length-cons (row_from tracks es) (rows_from tracks entries),
      row-stream-length es (stream_of entries),
      empty-length tracks,
      carry-all-length tracks es (empty_row tracks) s.0 (each-replicate tracks empty_cell refl),
      stream-length tracks entries s.1,
    )

stream-packers : (tracks : ℕ) (entries : List (List Entry)) → all_sound tracks entries ≡ true
    → length (stream_of entries) ≤ packed_length (rows_from tracks entries)
    → Reordered (rows_from tracks entries) (stream_of entries)
stream-packers tracks [] h l = end
stream-packers tracks (es ∷ entries) h l =
    let s = and-true (every (sound_entry tracks) es) (all_sound tracks entries) h in
    let shaped = each-replicate tracks empty_cell refl in
    let packed = packed-length-cons (row_from tracks es) (rows_from tracks entries) in
    let bytes = row-stream-length es (stream_of entries) in
    let empty = empty-length tracks in
    let first = carry-all-length tracks es (empty_row tracks) s.0 shaped in
    let others = stream-length tracks entries s.1 in
    let packers = carry-all-packers tracks es (empty_row tracks) s.0 shaped (omega arith) in
    next es (rw (empty-entries 1 tracks, append-nil (map without_upper_bits es)) at packers)
    (stream-packers tracks entries s.1 (omega arith))

reordered-entries : {tracks rows : ℕ} {pattern : List Row} {stream : List ℕ} → Shaped rows tracks pattern → Reordered pattern stream
    → (entries : List (List Entry)) × SoundStream rows tracks stream entries × (rows_from tracks entries ≡ pattern)
reordered-entries none end = ([], record { count = refl; sound = refl; bytes = refl }, refl)
reordered-entries {tracks = tracks} (one b s) (next es d r) =
    let rest = reordered-entries s r in (
      es ∷ rest.0,
      record {
        count = ap suc rest.1.count;
        sound = true-and
            (sym (every-sound-low tracks es) ∙ every-perm (sound_entry tracks) d ∙ entries-sound tracks (packs 1 _) b (omega arith) (omega arith))
            rest.1.sound;
        bytes = ap (λ (s : List ℕ). row_stream es ++ s) rest.1.bytes;
      },
      rw (sym (row-from-low tracks es) ∙ any-order-gives b d, rest.2),
    )

pub none-shorter : (rows tracks : ℕ) (stream cells : List ℕ) → AcceptedAs rows tracks stream cells → packed_length (rows_of rows tracks cells) ≤ length stream
none-shorter rows tracks stream cells accepted =
    let read = accepted-stream accepted in
    rw (accepted-rows accepted, read.bytes) (stream-length tracks accepted.entries read.sound)

pub reordered-accepted : (rows tracks : ℕ) (stream cells : List ℕ) → length cells ≡ cell_bytes rows tracks
    → Reordered (rows_of rows tracks cells) stream
    → AcceptedAs rows tracks stream cells
reordered-accepted rows tracks stream cells l r =
    let found = reordered-entries (rows-shaped rows tracks cells l) r in
    record { entries = found.0; read = (reads-exactly rows tracks stream found.0).1 found.1; gives = rw found.2 (bytes-rows rows tracks cells l) }

pub equal-length : (rows tracks : ℕ) (stream cells : List ℕ) → length cells ≡ cell_bytes rows tracks → length stream ≡ packed_length (rows_of rows tracks cells)
    → AcceptedAs rows tracks stream cells ↔ Reordered (rows_of rows tracks cells) stream
equal-length rows tracks stream cells l e = (there, reordered-accepted rows tracks stream cells l)
  where
    there : AcceptedAs rows tracks stream cells → Reordered (rows_of rows tracks cells) stream
    there accepted =
        let read = accepted-stream accepted in
        rw (accepted-rows accepted, read.bytes)
        (stream-packers tracks accepted.entries read.sound (omega (arith, ap length read.bytes, ap packed_length (accepted-rows accepted))))

-- The packer's own order is one of the orders.
packed-reordered : {tracks rows : ℕ} {pattern : List Row} → Shaped rows tracks pattern → Reordered pattern (packed_stream pattern)
packed-reordered none = end
packed-reordered (one {x = row} b s) =
    next {row = row} (packed_entries row) (rw (packed-low row b) (Permᴰ.refl (packed_entries row))) (packed-reordered s)

pub round_trip : (rows tracks : ℕ) (cells : List ℕ) → length cells ≡ cell_bytes rows tracks
    → AcceptedAs rows tracks (packed_stream (rows_of rows tracks cells)) cells
round_trip rows tracks cells l =
    reordered-accepted rows tracks (packed_stream (rows_of rows tracks cells)) cells l (packed-reordered (rows-shaped rows tracks cells l))
