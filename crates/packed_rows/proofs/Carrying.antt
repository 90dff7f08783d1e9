-- Carrying out the entries of a row on the row's bytes gives what `carry_all` gives on its cells.
use Prim.Native.Nat.{ℕ, zero, suc, ◌+◌, ◌-◌, ◌*◌, ◌<◌, ◌≤◌}
use mathlib.Core.Path.{◌≡◌, refl, sym, ap, ◌∙◌}
use mathlib.Core.List.{List, [], ◌∷◌, ◌++◌, append_assoc}
use mathlib.Core.Bool.{Bool, true, false}
use native.Mathlib.Omega.{arith}
use native.Mathlib.Nat.{zero-add, zero-mul, suc-mul, add_comm, add_assoc}
use lib.ListN.{length, get_or, take, drop, set, length-append, length-drop}
use lib.Seq.{drop-drop, take_at, drop_at, take-add, length-take-le}
use Rattle.vocabulary.specs.Lists.{joined}
use Rattle.cells.specs.Cells.{Cell, groups_of, row_of, empty_cell}
use Rattle.packed_rows.specs.Entries.{Entry, entry_bytes, fields_named, named, count, store, carry_out, carry_all}
use Rattle.packed_rows.specs.Stream.{Front, nothing, row_end, entry, fault, front, Reading, broken_at, whole, new_row, add_entry, reading}
use Rattle.packed_rows.specs.Steps.{RowAhead, stored_at, entry_length}
use Rattle.packed_rows.proofs.Reading.{reading-nothing, reading-fault, reading-row-end, reading-entry}
use Rattle.packed_rows.proofs.Checking.{EntryAt, row-end-at, entry_at}
use Rattle.packed_rows.proofs.Soundness.{Sound, sound-facts}
use Rattle.packed_rows.proofs.Shapes.{length-store, joined-row}

-- The block with a number, and its replacement by another.
pub block_at : (n size k : ℕ) (l : List ℕ) (d : List ℕ) → k < n → get_or (groups_of n size l) k d ≡ take size (drop (k * size) l)
block_at zero size k l d h = absurd (omega arith)
block_at (suc n) size zero l d h = rw (zero-mul size)
block_at (suc n) size (suc k) l d h =
    block_at n size k (drop size l) d (omega arith) ∙ rw (drop-drop (k * size) size l, suc-mul k size, add_comm (k * size) size)

pub block-set : (n size k : ℕ) (l c : List ℕ) → k < n → length c ≡ size → n * size ≤ length l
    → groups_of n size (take (k * size) l ++ (c ++ drop (k * size + size) l)) ≡ set (groups_of n size l) k c
block-set zero size k l c h w f = absurd (omega arith)
block-set (suc n) size zero l c h w f = rw (zero-mul size, zero-add size, take_at c (drop size l) size w, drop_at c (drop size l) size w)
block-set (suc n) size (suc k) l c h w f =
    let e : suc k * size ≡ size + k * size = suc-mul k size ∙ add_comm (k * size) size in
    let e' : suc k * size + size ≡ size + (k * size + size) = ap (◌+ size) e ∙ add_assoc size (k * size) size in
    let fits : size + n * size ≤ length l = omega (arith, suc-mul n size) in
    let long : length (take size l) ≡ size = length-take-le size l (omega arith) in
    rw (
      e',
      e,
      take-add size (k * size) l,
      append_assoc,
      take_at (take size l) _ size long,
      drop_at (take size l) _ size long,
      ← drop-drop (k * size + size) size l,
    )
    (ap (take size l ∷◌) (block-set n size k (drop size l) c (omega arith) w (omega (arith, length-drop size l))))

-- Only the named fields matter.
pub store-take : (ns : List Bool) (values : List ℕ) (cell : Cell) → count ns ≤ length values → store ns (take (count ns) values) cell ≡ store ns values cell
store-take [] values cell h = refl
store-take (n ∷ ns) values [] h = refl
store-take (true ∷ ns) [] (f ∷ cell) h = absurd (omega arith)
store-take (true ∷ ns) (v ∷ values) (f ∷ cell) h = ap (v ∷◌) (store-take ns values cell (omega arith))
store-take (false ∷ ns) values (f ∷ cell) h = ap (f ∷◌) (store-take ns values cell h)

pub never-whole : {p : ℕ} (rows : List (List Entry)) → broken_at p ≡ whole rows → ⊥
never-whole rows h = let z : ◌≡◌ {A = ℕ} 0 1 = cc in omega arith

new-row-whole : {es : List Entry} {later : List (List Entry)} (r : Reading) → new_row r ≡ whole (es ∷ later) → (es ≡ []) × (r ≡ whole later)
new-row-whole (broken_at p) h = absurd (never-whole _ h)
new-row-whole (whole rows) h = (cc, cc)

add-entry-whole : {es : List Entry} {later : List (List Entry)} (e : Entry) (r : Reading) → add_entry e r ≡ whole (es ∷ later)
    → (rest : List Entry) × (es ≡ e ∷ rest) × (r ≡ whole (rest ∷ later))
add-entry-whole e (broken_at p) h = absurd (never-whole _ h)
add-entry-whole e (whole []) h = absurd (let z : ◌≡◌ {A = ℕ} 0 1 = cc in omega arith)
add-entry-whole e (whole (es ∷ rows)) h = (es, cc, cc)

-- The rows at a place, if there is at least one.
module _ (s : List ℕ) (tracks left at : ℕ) (es : List Entry) (later : List (List Entry))
    (reads : reading tracks (suc left) at (drop at s) ≡ whole (es ∷ later)) where
  -- An entry, and then the rest of its row.
  pub record NextEntry : Type 0 where
    pub e : Entry
    pub rest : List Entry
    pub bytes : List ℕ
    pub is : es ≡ e ∷ rest
    pub found : EntryAt tracks s bytes at e
    pub reads_on : reading tracks (suc left) (at + length (entry_bytes e)) (drop (at + length (entry_bytes e)) s) ≡ whole (rest ∷ later)

  pub row_inside : at < length s
  row_inside = go (front tracks (drop at s)) refl
    where
      go : (f : Front) → front tracks (drop at s) ≡ f → at < length s
      go nothing e = absurd (let z : ◌≡◌ {A = ℕ} 0 1 = cc (reading-nothing tracks left at (drop at s) e) in omega arith)
      go fault e = absurd (let z : ◌≡◌ {A = ℕ} 0 1 = cc (reading-fault tracks left at (drop at s) e) in omega arith)
      go (row_end rest) e = omega (arith, (row-end-at tracks s rest at e).inside)
      go (entry f rest) e = omega (arith, (entry_at tracks s rest at f e).inside)

  pub at-row-end : get_or s at 0 ≡ 0 → (es ≡ []) × (reading tracks left (at + 1) (drop (at + 1) s) ≡ whole later)
  at-row-end z = go (front tracks (drop at s)) refl
    where
      go : (f : Front) → front tracks (drop at s) ≡ f → (es ≡ []) × (reading tracks left (at + 1) (drop (at + 1) s) ≡ whole later)
      go nothing e = absurd (never-whole _ (sym (reading-nothing tracks left at (drop at s) e) ∙ reads))
      go fault e = absurd (never-whole _ (sym (reading-fault tracks left at (drop at s) e) ∙ reads))
      go (row_end rest) e =
          rw (← (row-end-at tracks s rest at e).rest-is)
          (new-row-whole (reading tracks left (at + 1) rest) (sym (reading-row-end tracks left at (drop at s) rest e) ∙ reads))
      go (entry f rest) e =
          let found = entry_at tracks s rest at f e in
          absurd (omega (arith, z, found.track-is, (sound-facts tracks f found.sound).low))

  pub at_entry : (get_or s at 0 ≡ 0 → ⊥) → NextEntry
  at_entry z = go (front tracks (drop at s)) refl
    where
      go : (f : Front) → front tracks (drop at s) ≡ f → NextEntry
      go nothing e = absurd (never-whole _ (sym (reading-nothing tracks left at (drop at s) e) ∙ reads))
      go fault e = absurd (never-whole _ (sym (reading-fault tracks left at (drop at s) e) ∙ reads))
      go (row_end rest) e = absurd (z (row-end-at tracks s rest at e).byte)
      go (entry f rest) e =
          let found = entry_at tracks s rest at f e in
          let inner = add-entry-whole f (reading tracks (suc left) (at + length (entry_bytes f)) rest)
          (sym (reading-entry tracks left at (drop at s) f rest e) ∙ reads) in
          record { e = f; rest = inner.0; bytes = rest; is = inner.1; found = found; reads_on = rw (← found.rest-is) inner.2 }

  -- What is known of the entry at the place.
  pub record EntryMet : Type 0 where
    pub named-inside : at + 2 + fields_named (get_or s (at + 1) 0) < length s
    pub track-low : 1 ≤ get_or s at 0
    pub track-high : get_or s at 0 ≤ tracks

  module _ (more : get_or s at 0 ≡ 0 → ⊥) (found : NextEntry) where
    sized : Sound tracks found.e
    sized = sound-facts tracks found.e found.found.sound

    pub entry-steps : (n : ℕ) → n ≡ entry_length (get_or s (at + 1) 0) → n ≡ length (entry_bytes found.e)
    entry-steps n l = l ∙ rw found.found.mask_is (omega (arith, sized.filled))

-- The row's bytes with an entry's fields stored are the row with the entry carried out.
pub carries : (s : List ℕ) (tracks at : ℕ) (e : Entry) (bytes row : List ℕ) → EntryAt tracks s bytes at e
    → length row ≡ tracks * 6
    → row_of tracks (stored_at s (at + 2) e.mask row ((e.track - 1) * 6)) ≡ carry_out e (row_of tracks row)
carries s tracks at e bytes row found long =
    let sound = sound-facts tracks e found.sound in
    let k = e.track - 1 in
    let inside : k < tracks = omega (arith, sound.low, sound.high) in
    let cell = take 6 (drop (k * 6) row) in
    let fields : drop (at + 2) s ≡ e.fields ++ bytes = sym (drop-drop 2 at s) ∙ ap (drop 2) found.splits in
    let six : length cell ≡ 6 = length-take-le 6 (drop (k * 6) row) (omega (arith, length-drop (k * 6) row)) in
    let same : store (named e.mask) (drop (at + 2) s) cell ≡ store (named e.mask) e.fields cell =
    sym (store-take (named e.mask) (drop (at + 2) s) cell (omega (arith, ap length fields, length-append e.fields bytes, sound.filled)))
    ∙ rw (fields, ← sound.filled, take_at e.fields bytes (length e.fields) refl) in
    rw (same) (block-set tracks 6 k row (store (named e.mask) e.fields cell) inside (length-store (named e.mask) e.fields cell ∙ six) (omega arith)
    ∙ rw (block_at tracks 6 k row empty_cell inside))

-- The state of the loop over a row's entries: the entries left, and that carrying them out gives what all of them give.
pub record Carrying (s : List ℕ) (start : ℕ) (row₀ : List ℕ) (ahead : RowAhead s start (length row₀)) (row : List ℕ) (at : ℕ) : Type 0 where
  pub entries : List Entry
  pub reads : reading ahead.tracks (suc ahead.left) at (drop at s) ≡ whole (entries ∷ ahead.later)
  pub same : carry_all entries (row_of ahead.tracks row) ≡ carry_all ahead.entries (row_of ahead.tracks row₀)

pub entry-met : (s : List ℕ) (tracks left at : ℕ) (es : List Entry) (later : List (List Entry))
    (reads : reading tracks (suc left) at (drop at s) ≡ whole (es ∷ later)) → (get_or s at 0 ≡ 0 → ⊥)
    → EntryMet s tracks left at es later reads
entry-met s tracks left at es later reads more =
    let next = at_entry s tracks left at es later reads more in
    let sound = sound-facts tracks next.e next.found.sound in
    let mask = next.found.mask_is in
    let track = next.found.track-is in
    let on = row_inside s tracks left (at + length (entry_bytes next.e)) next.rest later next.reads_on in
    record {
      named-inside = rw mask (omega (arith, on, sound.filled));
      track-low = rw track sound.low;
      track-high = rw track sound.high;
    }

module _ (s : List ℕ) (start : ℕ) (row₀ : List ℕ) (ahead : RowAhead s start (length row₀)) where
  pub carrying-first : Carrying s start row₀ ahead row₀ start
  carrying-first = record { entries = ahead.entries; reads = ahead.reads; same = refl }

  module _ (row : List ℕ) (at : ℕ) (state : Carrying s start row₀ ahead row at) (long : length row ≡ length row₀) where
    pub carrying-inside : at < length s
    carrying-inside = row_inside s ahead.tracks ahead.left at state.entries ahead.later state.reads

    module _ (more : get_or s at 0 ≡ 0 → ⊥) where
      abbrev next : NextEntry s ahead.tracks ahead.left at state.entries ahead.later state.reads
      next = at_entry s ahead.tracks ahead.left at state.entries ahead.later state.reads more

      pub carrying-ready : EntryMet s ahead.tracks ahead.left at state.entries ahead.later state.reads
      carrying-ready = entry-met s ahead.tracks ahead.left at state.entries ahead.later state.reads more

      pub carrying-cell : (get_or s at 0 - 1) * 6 + 6 ≤ length row
      carrying-cell = omega (arith, carrying-ready.track-low, carrying-ready.track-high, long, ahead.fits)

      pub carrying-turn : (track mask n : ℕ) (row' : List ℕ) → track ≡ get_or s at 0 → mask ≡ get_or s (at + 1) 0
          → n ≡ entry_length mask → row' ≡ stored_at s (at + 2) mask row ((track - 1) * 6)
          → Carrying s start row₀ ahead row' (at + n)
      carrying-turn track mask n row' t m l r =
          let m' : mask ≡ next.e.mask = m ∙ next.found.mask_is in
          let t' : track ≡ next.e.track = t ∙ next.found.track-is in
          let l' : n ≡ length (entry_bytes next.e) =
          entry-steps s ahead.tracks ahead.left at state.entries ahead.later state.reads more next n
          (l ∙ ap entry_length m) in
          let moved = carries s ahead.tracks at next.e next.bytes row next.found (long ∙ ahead.fits) in
          record {
            entries = next.rest;
            reads = rw l' next.reads_on;
            same = rw (r, m', t', moved) (ap (λ (es : List Entry). carry_all es (row_of ahead.tracks row)) (sym next.is) ∙ state.same);
          }

    pub carrying-last : get_or s at 0 ≡ 0
        → (reading ahead.tracks ahead.left (at + 1) (drop (at + 1) s) ≡ whole ahead.later)
        × (row ≡ joined (carry_all ahead.entries (row_of ahead.tracks row₀)))
        × (at + 1 ≤ length s)
    carrying-last z =
        let last = at-row-end s ahead.tracks ahead.left at state.entries ahead.later state.reads z in
        let none : row_of ahead.tracks row ≡ carry_all ahead.entries (row_of ahead.tracks row₀) =
        ap (λ (es : List Entry). carry_all es (row_of ahead.tracks row)) (sym last.0) ∙ state.same in
        (last.1, sym (joined-row ahead.tracks row (long ∙ ahead.fits)) ∙ ap joined none, omega (arith, carrying-inside))

-- The state of a loop that skips a row's entries.
pub record Skipping (s : List ℕ) (start size : ℕ) (ahead : RowAhead s start size) (at : ℕ) : Type 0 where
  pub entries : List Entry
  pub reads : reading ahead.tracks (suc ahead.left) at (drop at s) ≡ whole (entries ∷ ahead.later)

module _ (s : List ℕ) (start size : ℕ) (ahead : RowAhead s start size) where
  pub skipping-first : Skipping s start size ahead start
  skipping-first = record { entries = ahead.entries; reads = ahead.reads }

  module _ (at : ℕ) (state : Skipping s start size ahead at) where
    pub skipping-inside : at < length s
    skipping-inside = row_inside s ahead.tracks ahead.left at state.entries ahead.later state.reads

    pub skipping-ready : (get_or s at 0 ≡ 0 → ⊥) → EntryMet s ahead.tracks ahead.left at state.entries ahead.later state.reads
    skipping-ready more = entry-met s ahead.tracks ahead.left at state.entries ahead.later state.reads more

    pub skipping-turn : (get_or s at 0 ≡ 0 → ⊥) → (n : ℕ) → n ≡ entry_length (get_or s (at + 1) 0) → Skipping s start size ahead (at + n)
    skipping-turn more n l =
        let next = at_entry s ahead.tracks ahead.left at state.entries ahead.later state.reads more in
        let l' = entry-steps s ahead.tracks ahead.left at state.entries ahead.later state.reads more next n l in
        record { entries = next.rest; reads = rw l' next.reads_on }

    pub skipping-last : get_or s at 0 ≡ 0 → reading ahead.tracks ahead.left (at + 1) (drop (at + 1) s) ≡ whole ahead.later
    skipping-last z = (at-row-end s ahead.tracks ahead.left at state.entries ahead.later state.reads z).1
