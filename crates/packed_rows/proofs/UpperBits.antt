-- Bits 6 and 7 of masks are ignored (R3): an entry without them is sound exactly if the entry is, and is carried out as the entry is. The
-- packer's entries have none of them.
use Prim.Native.Nat.{ℕ, ◌%◌}
use mathlib.Core.Path.{◌≡◌, refl, ap, ◌∙◌}
use mathlib.Core.List.{List, [], ◌∷◌, map}
use native.Mathlib.Nat.{mod-eq_of_lt}
use Rattle.cells.specs.Cells.{Row, empty_row}
use Rattle.packed_rows.specs.Entries.{Entry, named, sound_entry, carry_out, carry_all, row_from, rows_from}
use Rattle.packed_rows.specs.Packer.{packed_entry, packed_entries}
use Rattle.packed_rows.specs.Theorems.{every, all_sound, without_upper_bits}
use Rattle.packed_rows.proofs.Shapes.{none, one, Blocks, Shaped}
use Rattle.packed_rows.proofs.Bits.{low_bits}
use Rattle.packed_rows.proofs.PackedRow.{Packs, done, written, passed, packs}
use Rattle.packed_rows.proofs.Soundness.{packed-mask}

-- One entry.
pub named-low : (mask : ℕ) → named (mask % 64) ≡ named mask
named-low mask = low_bits 6 mask

pub sound-low : (tracks : ℕ) (e : Entry) → sound_entry tracks (without_upper_bits e) ≡ sound_entry tracks e
sound-low tracks e = rw (named-low e.mask)

pub carry-low : (e : Entry) (row : Row) → carry_out (without_upper_bits e) row ≡ carry_out e row
carry-low e row = rw (named-low e.mask)

-- The entries of a row.
pub every-sound-low : (tracks : ℕ) (es : List Entry) → every (sound_entry tracks) (map without_upper_bits es) ≡ every (sound_entry tracks) es
every-sound-low tracks [] = refl
every-sound-low tracks (e ∷ es) = rw (sound-low tracks e, every-sound-low tracks es)

carry-all-low : (es : List Entry) (row : Row) → carry_all (map without_upper_bits es) row ≡ carry_all es row
carry-all-low [] row = refl
carry-all-low (e ∷ es) row = carry-all-low es (carry_out (without_upper_bits e) row) ∙ ap (carry_all es) (carry-low e row)

pub row-from-low : (tracks : ℕ) (es : List Entry) → row_from tracks (map without_upper_bits es) ≡ row_from tracks es
row-from-low tracks es = carry-all-low es (empty_row tracks)

-- Rows of entries.
abbrev pub low_rows : List (List Entry) → List (List Entry)
low_rows rows = map (map without_upper_bits) rows

pub all-sound-low : (tracks : ℕ) (rows : List (List Entry)) → all_sound tracks (low_rows rows) ≡ all_sound tracks rows
all-sound-low tracks [] = refl
all-sound-low tracks (es ∷ rows) = rw (every-sound-low tracks es, all-sound-low tracks rows)

pub rows-from-low : (tracks : ℕ) (rows : List (List Entry)) → rows_from tracks (low_rows rows) ≡ rows_from tracks rows
rows-from-low tracks [] = refl
rows-from-low tracks (es ∷ rows) = rw (row-from-low tracks es, rows-from-low tracks rows)

-- The packer's entries.
entries-low : {track n : ℕ} {row : Row} {es : List Entry} → Packs track row es → Blocks n 6 row → map without_upper_bits es ≡ es
entries-low done none = refl
entries-low (written {track = track} {cell = cell} {es = es} q p) (one l b) =
    let small : (packed_entry track cell).mask % 64 ≡ (packed_entry track cell).mask = mod-eq_of_lt (packed-mask track cell l) in
    λ i. record { track = track; mask = small i; fields = (packed_entry track cell).fields } ∷ entries-low p b i
entries-low (passed q p) (one l b) = entries-low p b

pub packed-low : {n : ℕ} (row : Row) → Blocks n 6 row → map without_upper_bits (packed_entries row) ≡ packed_entries row
packed-low row b = entries-low (packs 1 row) b

pub packed-rows-low : {rows tracks : ℕ} (pattern : List Row) → Shaped rows tracks pattern
    → low_rows (map packed_entries pattern) ≡ map packed_entries pattern
packed-rows-low [] none = refl
packed-rows-low (row ∷ pattern) (one b s) = rw (packed-low row b, packed-rows-low pattern s)
