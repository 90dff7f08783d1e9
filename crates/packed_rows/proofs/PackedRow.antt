-- The packer's entries for a row (W2), cell by cell: an entry for each non-empty cell, none for an empty one.
use Prim.Native.Nat.{ℕ, suc}
use mathlib.Core.Path.{◌≡◌, refl}
use mathlib.Core.List.{List, [], ◌∷◌}
use mathlib.Core.Bool.{Bool, true, false, cond}
use Rattle.cells.specs.Cells.{Cell, Row, non_empty}
use Rattle.packed_rows.specs.Entries.{Entry}
use Rattle.packed_rows.specs.Packer.{packed_entry, entries_from}

pub data Packs : ℕ → Row → List Entry → Type 0 where
  done : {track : ℕ} → Packs track [] []
  written : {track : ℕ} {cell : Cell} {row : Row} {es : List Entry} → non_empty cell ≡ true → Packs (suc track) row es
      → Packs track (cell ∷ row) (packed_entry track cell ∷ es)
  passed : {track : ℕ} {cell : Cell} {row : Row} {es : List Entry} → non_empty cell ≡ false → Packs (suc track) row es → Packs track (cell ∷ row) es

pub packs : (track : ℕ) (row : Row) → Packs track row (entries_from track row)
packs track [] = done
packs track (cell ∷ row) = go (non_empty cell) refl (packs (suc track) row)
  where
    go : (b : Bool) → non_empty cell ≡ b → Packs (suc track) row (entries_from (suc track) row)
        → Packs track (cell ∷ row) (cond b (packed_entry track cell ∷ entries_from (suc track) row) (entries_from (suc track) row))
    go true q p = written q p
    go false q p = passed q p
