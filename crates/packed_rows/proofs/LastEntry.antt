-- What each field of a cell of an accepted stream holds: the value that the last entry of its row and track that names the field stored,
-- else 0 (R5, R6).
use Prim.Native.Nat.{ℕ, zero, suc, ◌+◌, ◌-◌, ◌*◌, ◌≤◌, ◌<◌}
use native.Mathlib.Numerals.{one-add}
use native.Mathlib.Omega.{arith}
use mathlib.Core.Path.{◌≡◌, refl, sym, ap, ◌∙◌}
use mathlib.Core.List.{List, [], ◌∷◌, ◌++◌}
use mathlib.Core.Bool.{Bool, true, false, cond, ◌&&◌}
use borrow.Author.Tests.{eqb-true, eqb-false}
use lib.ListN.{length, get_or, take, drop, set, get_or-replicate}
use lib.Seq.{get_or-drop, get_or-set_same, get_or-set_other}
use lib.Dec.{eqb}
use Rattle.cells.specs.Cells.{Cell, Row, empty_cell, empty_row}
use Rattle.packed_rows.specs.Entries.{Entry, named, count, sound_entry, store, carry_out, carry_all}
use Rattle.packed_rows.specs.Stream.{AcceptedAs}
use Rattle.packed_rows.specs.Theorems.{every, names, none_names, stored_in, LastStored, never, by}
use Rattle.packed_rows.proofs.Shapes.{Blocks, each-count, each-get_or, each-replicate, carry-shaped}
use Rattle.packed_rows.proofs.Reading.{and-true}
use Rattle.packed_rows.proofs.Soundness.{Sound, sound-facts}
use Rattle.packed_rows.proofs.Accepted.{accepted-stream, accepted-field}

-- A field of a cell in which named fields are stored.
store-field : (ns : List Bool) (values : List ℕ) (cell : Cell) (field : ℕ) → field < length cell
    → get_or (store ns values cell) field 0 ≡ cond (get_or ns field false) (get_or values (count (take field ns)) 0) (get_or cell field 0)
store-field [] values cell field h = refl
store-field (n ∷ ns) values [] field h = absurd (omega arith)
store-field (true ∷ ns) values (f ∷ cell) zero h = refl
store-field (false ∷ ns) values (f ∷ cell) zero h = refl
store-field (true ∷ ns) values (f ∷ cell) (suc field) h =
    rw (store-field ns (drop 1 values) cell field (omega arith), get_or-drop 1 values (count (take field ns)) 0, one-add)
store-field (false ∷ ns) values (f ∷ cell) (suc field) h = store-field ns values cell field (omega arith)

set-field : (ns : List Bool) (values : List ℕ) (row : Row) (i field : ℕ) → i < length row → field < length (get_or row i empty_cell)
    → get_or (get_or (set row i (store ns values (get_or row i empty_cell))) i empty_cell) field 0
    ≡ cond (get_or ns field false) (get_or values (count (take field ns)) 0) (get_or (get_or row i empty_cell) field 0)
set-field ns values row i field h k = rw (get_or-set_same row i) (store-field ns values (get_or row i empty_cell) field k)

-- A field of a row.
abbrev field_of : ℕ → ℕ → Row → ℕ
field_of track field row = get_or (get_or row (track - 1) empty_cell) field 0

-- The value that the last entry that names the field stored, else the value before.
data Last (track field : ℕ) (before : ℕ) (entries : List Entry) (now : ℕ) : Type 0 where
  kept : none_names track field entries → now ≡ before → Last track field before entries now
  stored : (earlier later : List Entry) (e : Entry) → entries ≡ earlier ++ (e ∷ later) → names track field e ≡ true
      → none_names track field later
      → now ≡ stored_in e field
      → Last track field before entries now

last-stored-of : {track field : ℕ} {entries : List Entry} {now : ℕ} → Last track field 0 entries now → LastStored track field entries now
last-stored-of (kept n q) = rw q (never n)
last-stored-of (stored earlier later e split p n q) = rw q (by earlier later e split p n)

module _ (track field : ℕ) where
  none-names-nil : none_names track field []
  none-names-nil [] after e q = let z : ◌≡◌ {A = ℕ} 0 1 = cc in absurd (omega arith)
  none-names-nil (b ∷ before) after e q = let z : ◌≡◌ {A = ℕ} 0 1 = cc in absurd (omega arith)

  none-names-cons : {e : Entry} {es : List Entry} → none_names track field es → names track field e ≡ false → none_names track field (e ∷ es)
  none-names-cons {e} {es} n p [] after f q = let same : e ≡ f = cc in ap (names track field) (sym same) ∙ p
  none-names-cons {e} {es} n p (b ∷ before) after f q = let split : es ≡ before ++ (f ∷ after) = cc in n before after f split

module _ (tracks track field : ℕ) (low : 1 ≤ track) (high : track ≤ tracks) (inside : field < 6) where
  carry-field : (e : Entry) (row : Row) → Sound tracks e → Blocks tracks 6 row
      → field_of track field (carry_out e row) ≡ cond (names track field e) (stored_in e field) (field_of track field row)
  carry-field e row s b = go (eqb e.track track) refl
    where
      new : Cell
      new = store (named e.mask) e.fields (get_or row (e.track - 1) empty_cell)

      go : (t : Bool) → eqb e.track track ≡ t
          → field_of track field (carry_out e row) ≡ cond (t && get_or (named e.mask) field false) (stored_in e field) (field_of track field row)
      go true q =
          let here : e.track ≡ track = eqb-true e.track track q in
          rw (← here) (set-field (named e.mask) e.fields row (e.track - 1) field
          (omega (arith, s.low, s.high, each-count b)) (rw (each-get_or (e.track - 1) empty_cell refl b) inside))
      go false q =
          let elsewhere : ¬ (e.track ≡ track) = eqb-false e.track track q in
          let apart : ¬ (track - 1 ≡ e.track - 1) = omega (arith, s.low) in
          ap (λ (cell : Cell). get_or cell field 0) (get_or-set_other row (e.track - 1) (track - 1) new empty_cell apart)

  last-from : (es : List Entry) (row : Row) → every (sound_entry tracks) es ≡ true → Blocks tracks 6 row
      → Last track field (field_of track field row) es (field_of track field (carry_all es row))
  last-from [] row h b = kept (none-names-nil track field) refl
  last-from (e ∷ es) row h b =
      let s = and-true (sound_entry tracks e) (every (sound_entry tracks) es) h in
      go (last-from es (carry_out e row) s.1 (carry-shaped e b)) (names track field e) refl (carry-field e row (sound-facts tracks e s.0) b)
    where
      now : ℕ
      now = field_of track field (carry_all es (carry_out e row))

      go : Last track field (field_of track field (carry_out e row)) es now → (t : Bool) → names track field e ≡ t
          → field_of track field (carry_out e row) ≡ cond t (stored_in e field) (field_of track field row)
          → Last track field (field_of track field row) (e ∷ es) now
      go (kept n q) true p c = stored [] es e refl p n (q ∙ c)
      go (kept n q) false p c = kept (none-names-cons track field n p) (q ∙ c)
      go (stored earlier later f split p n q) t u c = stored (e ∷ earlier) later f (rw split) p n q

-- A test that holds for every element and for the default holds for the element at a place.
every-get_or : {A : Type 0} (test : A → Bool) (xs : List A) (i : ℕ) (d : A) → test d ≡ true → every test xs ≡ true → test (get_or xs i d) ≡ true
every-get_or test [] i d p h = p
every-get_or test (x ∷ xs) zero d p h = (and-true (test x) (every test xs) h).0
every-get_or test (x ∷ xs) (suc i) d p h = every-get_or test xs i d p (and-true (test x) (every test xs) h).1

pub last_stored : (rows tracks : ℕ) (stream cells : List ℕ) (accepted : AcceptedAs rows tracks stream cells) (row track field : ℕ)
    → row < rows → 1 ≤ track → track ≤ tracks
    → field < 6
    → LastStored track field (get_or accepted.entries row []) (get_or cells (row * (tracks * 6) + ((track - 1) * 6 + field)) 0)
last_stored rows tracks stream cells accepted row track field h low high inside =
    let es : List Entry = get_or accepted.entries row [] in
    let sound : every (sound_entry tracks) es ≡ true =
    every-get_or (every (sound_entry tracks)) accepted.entries row [] refl (accepted-stream accepted).sound in
    let start : field_of track field (empty_row tracks) ≡ 0 =
    rw (get_or-replicate tracks (track - 1) empty_cell empty_cell (omega arith)) (get_or-replicate 6 field 0 0 inside) in
    rw (accepted-field accepted row (track - 1) field h (omega arith) inside)
    (last-stored-of (rw start at (last-from tracks track field low high inside es (empty_row tracks) sound (each-replicate tracks empty_cell refl))))
