-- Writing values one after the other into a list: the state of a writer, and what a store, a call and the end of a loop do to it; and the
-- tracks of a row that are listed for it, with their entries.
use Prim.Native.Nat.{ℕ, zero, suc, ◌+◌, ◌-◌, ◌*◌, ◌<◌, ◌≤◌}
use mathlib.Core.Path.{◌≡◌, refl, sym, ap, ◌∙◌}
use mathlib.Core.List.{List, [], ◌∷◌, ◌++◌, map, append_assoc, append-nil}
use mathlib.Core.Bool.{Bool, true, false, cond}
use native.Mathlib.Omega.{arith}
use native.Mathlib.Nat.{add-zero, suc-mul}
use native.Mathlib.Numerals.{add-one}
use lib.ListN.{length, get_or, take, drop, set, length-append, length-set, drop_of_length-le}
use lib.Seq.{drop-cons, drop-drop, take-suc-set, take-set-le, take_all, get_or-take, get_or-drop}
use Rattle.vocabulary.specs.Lists.{joined}
use Rattle.cells.specs.Cells.{Cell, Row, groups_of, row_of, rows_of, non_zeros, non_empty}
use Rattle.packed_rows.specs.Entries.{Entry, entry_bytes, row_stream}
use Rattle.packed_rows.specs.Packer.{non_zero, packed_entry, entries_from, packed_entries, packed_stream}
use Rattle.packed_rows.specs.Steps.{one_if, cell_at, filled_tracks, TracksInside, entries_at}
use Rattle.packed_rows.proofs.Carrying.{block_at}
use Rattle.packed_rows.proofs.Counting.{kept, length-kept, kept-first, non_zeros-first, length-cell}

-- A writer of `all`, which begins at `to`, is at the place `at`, with `rest` still to be written.
pub record Writing (out₀ : List ℕ) (to : ℕ) (all out : List ℕ) (at : ℕ) (rest : List ℕ) : Type 0 where
  pub room : length out ≡ length out₀
  pub place : at + length rest ≡ to + length all
  pub written : take at out ++ rest ≡ take to out₀ ++ all

module _ (out₀ : List ℕ) (to : ℕ) (all : List ℕ) where
  pub writing-first : Writing out₀ to all out₀ to all
  writing-first = record { room = refl; place = refl; written = refl }

  module _ {out : List ℕ} {at : ℕ} where
    -- The next values are written, by stores or by a call.
    pub writing_more : (xs rest : List ℕ) {out' : List ℕ} {at' : ℕ} → Writing out₀ to all out at (xs ++ rest)
        → length out' ≡ length out → at' ≡ at + length xs → take at' out' ≡ take at out ++ xs
        → Writing out₀ to all out' at' rest
    writing_more xs rest {out'} {at'} w l p e =
        record {
          room = l ∙ w.room;
          place = omega (arith, length-append xs rest, w.place);
          written = rw e (append_assoc (take at out) xs rest ∙ w.written);
        }

    -- There is room for the next values.
    pub writing-room : (xs more rest : List ℕ) → Writing out₀ to all out at rest → rest ≡ xs ++ more → at + length xs ≤ to + length all
    writing-room xs more rest w e = omega (arith, w.place, ap length e ∙ length-append xs more)

    -- A value is stored, and the place moves past it if it is kept.
    pub writing-kept : (b : Bool) (v : ℕ) (rest : List ℕ) {at' : ℕ} → Writing out₀ to all out at (kept b v ++ rest)
        → at < length out → at' ≡ at + cond b 1 0
        → Writing out₀ to all (set out at v) at' rest
    writing-kept b v rest w h p =
        writing_more (kept b v) rest w (length-set out at v) (omega (arith, length-kept b v)) (rw p (go b))
      where
        go : (b : Bool) → take (at + cond b 1 0) (set out at v) ≡ take at out ++ kept b v
        go true = rw (add-one at) (take-suc-set out at v h)
        go false = rw (add-zero at, append-nil (take at out)) (take-set-le at out at v (omega arith))

    pub writing-last : (rest : List ℕ) → Writing out₀ to all out at rest → rest ≡ [] → (at ≡ to + length all) × (take at out ≡ take to out₀ ++ all)
    writing-last rest w e = (omega (arith, w.place, ap length e), sym (rw (e, append-nil (take at out)) at (sym w.written)))

length-blocks : (n size : ℕ) (bytes : List ℕ) → length (groups_of n size bytes) ≡ n
length-blocks zero size bytes = refl
length-blocks (suc n) size bytes = ap suc (length-blocks n size (drop size bytes))

-- The next field of a cell is written, and the next track of a row is listed.
module _ {out₀ : List ℕ} {to : ℕ} {all out : List ℕ} {at at' : ℕ} where
  pub fields-turn : (cells : List ℕ) (from field : ℕ) → from + 6 ≤ length cells → field < 6
      → Writing out₀ to all out at (non_zeros (drop field (cell_at cells from))) → at < length out
      → at' ≡ at + one_if (get_or cells (from + field) 0)
      → Writing out₀ to all (set out at (get_or cells (from + field) 0)) at' (non_zeros (drop (field + 1) (cell_at cells from)))
  fields-turn cells from field i f w h p =
      writing-kept out₀ to all (non_zero value) value _ (rw turn at w) h p
    where
      value : ℕ
      value = get_or cells (from + field) 0

      turn : non_zeros (drop field (cell_at cells from)) ≡ kept (non_zero value) value ++ non_zeros (drop (field + 1) (cell_at cells from))
      turn =
          rw (
            add-one field,
            drop-cons (cell_at cells from) field 0 (omega (arith, length-cell cells from i)),
            get_or-take 6 (drop from cells) field 0 f,
            get_or-drop from cells field 0,
          )
          (non_zeros-first value (drop (suc field) (cell_at cells from)))

  pub tracks-turn : (row : List ℕ) (tracks track : ℕ) → track < tracks
      → Writing out₀ to all out at (filled_tracks track (drop track (row_of tracks row))) → at < length out
      → at' ≡ at + cond (non_empty (cell_at row (track * 6))) 1 0
      → Writing out₀ to all (set out at track) at' (filled_tracks (track + 1) (drop (track + 1) (row_of tracks row)))
  tracks-turn row tracks track f w h p =
      writing-kept out₀ to all (non_empty cell) track _ (rw turn at w) h p
    where
      cell : Cell
      cell = cell_at row (track * 6)

      turn : filled_tracks track (drop track (row_of tracks row))
          ≡ kept (non_empty cell) track ++ filled_tracks (track + 1) (drop (track + 1) (row_of tracks row))
      turn =
          rw (add-one track, drop-cons (row_of tracks row) track [] (omega (arith, length-blocks tracks 6 row)), block_at tracks 6 track row [] f)
          (kept-first (non_empty cell) track (filled_tracks (suc track) (drop (suc track) (row_of tracks row))))

pub fields-past : (cells : List ℕ) (from field : ℕ) → from + 6 ≤ length cells → 6 ≤ field → non_zeros (drop field (cell_at cells from)) ≡ []
fields-past cells from field i h = rw (drop_of_length-le (cell_at cells from) {i = field} (omega (arith, length-cell cells from i)))

pub tracks-past : (row : List ℕ) (tracks track : ℕ) → tracks ≤ track → filled_tracks track (drop track (row_of tracks row)) ≡ []
tracks-past row tracks track h = rw (drop_of_length-le (row_of tracks row) {i = track} (omega (arith, length-blocks tracks 6 row)))

-- The tracks that are listed for a row have their cells in it, and their entries are the packer's.
pub listed_at : (row list : List ℕ) (i : ℕ) → TracksInside row list → i < length list → get_or list i 0 * 6 + 6 ≤ length row
listed_at row [] i l h = absurd (omega arith)
listed_at row (t ∷ ts) zero l h = l.0
listed_at row (t ∷ ts) (suc i) l h = listed_at row ts i l.1 (omega arith)

module _ (row : List ℕ) where
  -- The rest of a row, from a track on.
  abbrev pub tracks_left : ℕ → ℕ → Row
  tracks_left left track = groups_of left 6 (drop (track * 6) row)

  pub tracks-next : (left track : ℕ) → groups_of left 6 (drop 6 (drop (track * 6) row)) ≡ tracks_left left (suc track)
  tracks-next left track = rw (suc-mul track 6, drop-drop 6 (track * 6) row)

  pub tracks-listed : (left track : ℕ) → (track + left) * 6 ≤ length row → TracksInside row (filled_tracks track (tracks_left left track))
  tracks-listed zero track h = tt
  tracks-listed (suc left) track h =
      rw (tracks-next left track) (go (non_empty (cell_at row (track * 6))) (tracks-listed left (suc track) (omega arith)))
    where
      go : (b : Bool) → TracksInside row (filled_tracks (suc track) (tracks_left left (suc track)))
          → TracksInside row
          (cond b (track ∷ filled_tracks (suc track) (tracks_left left (suc track)))
          (filled_tracks (suc track) (tracks_left left (suc track))))
      go true l = (omega arith, l)
      go false l = l

  pub tracks-entries : (left track : ℕ)
      → entries_at row (filled_tracks track (tracks_left left track)) ≡ joined (map entry_bytes (entries_from (suc track) (tracks_left left track)))
  tracks-entries zero track = refl
  tracks-entries (suc left) track =
      rw (tracks-next left track) (go (non_empty (cell_at row (track * 6))) (tracks-entries left (suc track)))
    where
      cell : Cell
      cell = cell_at row (track * 6)

      ts : List ℕ
      ts = filled_tracks (suc track) (tracks_left left (suc track))

      es : List Entry
      es = entries_from (suc (suc track)) (tracks_left left (suc track))

      go : (b : Bool) → entries_at row ts ≡ joined (map entry_bytes es)
          → entries_at row (cond b (track ∷ ts) ts) ≡ joined (map entry_bytes (cond b (packed_entry (suc track) cell ∷ es) es))
      go true e = rw (add-one track, e)
      go false e = e

-- The entry of the next listed track is written: its track and its mask by stores, its fields by a call. There is room for it, and for the
-- byte after it.
abbrev pub EntryFits : List ℕ → ℕ → List ℕ → ℕ → Type 0
EntryFits row from out at = (from + 6 ≤ length row) × (at + 2 + length (non_zeros (cell_at row from)) < length out)

module _ (row list : List ℕ) (i from : ℕ) (h : i < length list) (e : from ≡ get_or list i 0 * 6) where
  entries-first : entries_at row (drop i list)
      ≡ entry_bytes (packed_entry (get_or list i 0 + 1) (cell_at row from)) ++ entries_at row (drop (i + 1) list)
  entries-first = rw (e, add-one i, drop-cons list i 0 h)

  module _ {out₀ : List ℕ} {to : ℕ} {all out : List ℕ} {at : ℕ} where
    pub entries_fit : TracksInside row list → to + length all < length out₀
        → Writing out₀ to all out at (entries_at row (drop i list))
        → EntryFits row from out at
    entries_fit l r w =
        let there = listed_at row list i l h in
        let room = writing-room out₀ to all (entry_bytes (packed_entry (get_or list i 0 + 1) (cell_at row from))) _ _ w entries-first in
        (omega arith, omega (arith, w.room))

    pub entries-turn : (track mask : ℕ) {out' : List ℕ} {at' : ℕ} → track ≡ get_or list i 0 + 1
        → mask ≡ (packed_entry 0 (cell_at row from)).mask → EntryFits row from out at
        → Writing out₀ to all out at (entries_at row (drop i list)) → length out' ≡ length out
        → at' ≡ at + 2 + length (non_zeros (cell_at row from))
        → take at' out' ≡ take (at + 2) (set (set out at track) (at + 1) mask) ++ non_zeros (cell_at row from)
        → Writing out₀ to all out' at' (entries_at row (drop (i + 1) list))
    entries-turn track mask t m r w l p q =
        let fields : List ℕ = non_zeros (cell_at row from) in
        let rest : List ℕ = entries_at row (drop (i + 1) list) in
        let w₀ : Writing out₀ to all out at (track ∷ mask ∷ (fields ++ rest)) = rw (t, m, ← entries-first) w in
        let w₁ : Writing out₀ to all (set out at track) (at + 1) (mask ∷ (fields ++ rest)) =
        writing-kept out₀ to all true track (mask ∷ (fields ++ rest)) w₀ (omega arith) refl in
        let w₂ : Writing out₀ to all (set (set out at track) (at + 1) mask) (at + 2) (fields ++ rest) =
        writing-kept out₀ to all true mask (fields ++ rest) w₁ (simp length-set (omega arith)) (omega arith) in
        writing_more out₀ to all fields rest w₂ (simp length-set l) p q

pub entries-past : (row list : List ℕ) (i : ℕ) → length list ≤ i → entries_at row (drop i list) ≡ []
entries-past row list i h = rw (drop_of_length-le list {i = i} h)

-- The row end is written after the entries of a row.
module _ (row : List ℕ) (tracks : ℕ) (out₀ : List ℕ) (to : ℕ) {listed : List ℕ} (e : listed ≡ filled_tracks 0 (row_of tracks row)) where
  pub row_room : to + length (row_stream (packed_entries (row_of tracks row))) ≤ length out₀ → to + length (entries_at row listed) < length out₀
  row_room h =
      let longer = length-append (joined (map entry_bytes (packed_entries (row_of tracks row)))) (0 ∷ []) in
      rw (e, tracks-entries row tracks 0) (omega arith)

  pub row_written : (out : List ℕ) (end : ℕ) → length out ≡ length out₀ → end < length out
      → end ≡ to + length (entries_at row listed) → take end out ≡ take to out₀ ++ entries_at row listed
      → (end + 1 ≡ to + length (row_stream (packed_entries (row_of tracks row))))
      × (take (end + 1) (set out end 0) ≡ take to out₀ ++ row_stream (packed_entries (row_of tracks row)))
  row_written out end l h p q =
      let entries : List ℕ = joined (map entry_bytes (packed_entries (row_of tracks row))) in
      let all : List ℕ = entries ++ (0 ∷ []) in
      let same : entries_at row listed ≡ entries = rw e (tracks-entries row tracks 0) in
      let w : Writing out₀ to all out end (0 ∷ []) = writing_more out₀ to all entries (0 ∷ []) (writing-first out₀ to all) l (rw same at p) (rw same at q) in
      writing-last out₀ to all [] (writing-kept out₀ to all true 0 [] w h refl) refl

-- The next row of a pattern is written.
module _ (cells : List ℕ) (row rows tracks : ℕ) (h : row < rows) where
  abbrev from : ℕ
  from = row * (tracks * 6)

  abbrev pub next_row : List ℕ
  next_row = row_stream (packed_entries (row_of tracks (take (from + tracks * 6 - from) (drop from cells))))

  rows-first : packed_stream (rows_of (rows - row) tracks (drop from cells))
      ≡ next_row ++ packed_stream (rows_of (rows - (row + 1)) tracks (drop ((row + 1) * (tracks * 6)) cells))
  rows-first =
      let some : rows - row ≡ suc (rows - (row + 1)) = omega arith in
      let cut : from + tracks * 6 - from ≡ tracks * 6 = omega arith in
      let next : (row + 1) * (tracks * 6) ≡ from + tracks * 6 = omega arith in
      rw (some, cut, next, drop-drop (tracks * 6) from cells)

  module _ {out₀ : List ℕ} {to : ℕ} {all out : List ℕ} {at : ℕ}
      (w : Writing out₀ to all out at (packed_stream (rows_of (rows - row) tracks (drop from cells)))) where
    pub rows-room : at + length next_row ≤ to + length all
    rows-room = writing-room out₀ to all next_row _ _ w rows-first

    pub rows-turn : {out' : List ℕ} {at' : ℕ} → length out' ≡ length out → at' ≡ at + length next_row
        → take at' out' ≡ take at out ++ next_row
        → Writing out₀ to all out' at' (packed_stream (rows_of (rows - (row + 1)) tracks (drop ((row + 1) * (tracks * 6)) cells)))
    rows-turn l p q = writing_more out₀ to all next_row _ (rw rows-first at w) l p q

pub rows_last : (cells : List ℕ) (row rows tracks : ℕ) (out₀ all out : List ℕ) (at : ℕ) → rows ≤ row → length out₀ ≡ length all
    → Writing out₀ 0 all out at (packed_stream (rows_of (rows - row) tracks (drop (row * (tracks * 6)) cells)))
    → out ≡ all
rows_last cells row rows tracks out₀ all out at h l w =
    let none : rows - row ≡ 0 = omega arith in
    let end = writing-last out₀ 0 all _ w (rw none) in
    sym (take_all at out (omega (arith, w.room, end.0))) ∙ end.1
