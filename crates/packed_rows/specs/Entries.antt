-- FORMAT.md, R2 to R6 (document 01, "Packed rows"): masks, entries, and what carrying out an entry does. Source document 000 decides the
-- order: the track, then the mask (002 has the mask first), and command 1 before command 2 (003 swaps the two).
use Rattle.std.specs.Prelude.{ℕ, zero, suc, ◌-◌, ◌/◌, ◌%◌, List, [], ◌∷◌, ◌++◌, map, Bool, true, false, ◌&&◌, length, get_or, drop, set, eqb, leb}
use Rattle.vocabulary.specs.Lists.{joined}
use Rattle.cells.specs.Cells.{Cell, Row, empty_cell, empty_row}

-- The lowest n bits of a number, the lowest first.
abbrev pub bits : ℕ → ℕ → List Bool
bits zero m = []
bits (suc n) m = eqb (m % 2) 1 ∷ bits n (m / 2)

-- R3, document 01's "named" fields: which of the six fields a mask names, in cell order. The bits above bit 5 name nothing (document 02,
-- K3).
abbrev pub named : ℕ → List Bool
named mask = bits 6 mask

-- How many of the bits are set.
abbrev pub count : List Bool → ℕ
count [] = 0
count (true ∷ bs) = suc (count bs)
count (false ∷ bs) = count bs

-- R4 (document 02, K4): how many fields a mask names, which is how many bytes follow it.
abbrev pub fields_named : ℕ → ℕ
fields_named mask = count (named mask)

-- R4, document 01's "entry": a track, its mask as stored and the named fields after it.
pub record Entry : Type 0 where
  pub track : ℕ
  pub mask : ℕ
  pub fields : List ℕ

abbrev pub entry_bytes : Entry → List ℕ
entry_bytes e = e.track ∷ e.mask ∷ e.fields

-- R2 to R4, a sound entry (any other is document 01's "faulty entry"): a track from 1 to the pattern's tracks, and as many fields as the
-- mask names.
abbrev pub sound_entry : ℕ → Entry → Bool
sound_entry tracks e = leb 1 e.track && (leb e.track tracks && eqb (length e.fields) (fields_named e.mask))

-- R5: a cell after the named fields are stored in it; the other fields are unchanged.
abbrev pub store : List Bool → List ℕ → Cell → Cell
store [] values cell = cell
store (n ∷ ns) values [] = []
store (true ∷ ns) values (f ∷ cell) = get_or values 0 0 ∷ store ns (drop 1 values) cell
store (false ∷ ns) values (f ∷ cell) = f ∷ store ns values cell

-- R5, document 01's "carrying out" of an entry: the row after it.
abbrev pub carry_out : Entry → Row → Row
carry_out e row = set row (e.track - 1) (store (named e.mask) e.fields (get_or row (e.track - 1) empty_cell))

-- R6: the row after all entries are carried out, from the front.
abbrev pub carry_all : List Entry → Row → Row
carry_all [] row = row
carry_all (e ∷ es) row = carry_all es (carry_out e row)

-- R5: the row that entries give. Every cell starts as zeros.
abbrev pub row_from : ℕ → List Entry → Row
row_from tracks entries = carry_all entries (empty_row tracks)

-- The rows that rows of entries give.
abbrev pub rows_from : ℕ → List (List Entry) → List Row
rows_from tracks rows = map (row_from tracks) rows

-- R1, R4: the bytes of a row of entries, with its "row end"; and of rows of entries.
abbrev pub row_stream : List Entry → List ℕ
row_stream entries = joined (map entry_bytes entries) ++ (0 ∷ [])

abbrev pub stream_of : List (List Entry) → List ℕ
stream_of rows = joined (map row_stream rows)
