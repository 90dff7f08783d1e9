-- Equal patterns have no differences (G5).
use Prim.Native.Nat.{ℕ, ◌-◌}
use mathlib.Core.Path.{◌≡◌, refl}
use mathlib.Core.List.{List, []}
use lib.ListN.{get_or}
use Rattle.cells.specs.Cells.{Row, empty_cell}
use Rattle.packed_rows.specs.Comparing.{row_differences, pattern_differences}
use Rattle.packed_rows.proofs.EachFrom.{joined-empty}
use Rattle.packed_rows.proofs.ListingCells.{cell-none}

module _ (pattern tracks : ℕ) where
  row-itself : (row : ℕ) (a : Row) → row_differences pattern tracks row a a ≡ []
  row-itself row a =
      joined-empty _ tracks 1 (λ track low high.
      let cell = get_or a (track - 1) empty_cell in
      cell-none pattern row track cell cell (λ j less. refl))

  pub pattern-itself : (rows : ℕ) (a : List Row) → pattern_differences pattern rows tracks a a ≡ []
  pattern-itself rows a = joined-empty _ rows 0 (λ row low high. row-itself row (get_or a row []))
