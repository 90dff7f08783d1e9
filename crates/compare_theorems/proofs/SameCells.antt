-- Two patterns with the same sizes and the same fields have the same rows of cells, and the query for all cells writes the same for both.
use Prim.Native.Nat.{ℕ, zero, suc, ◌+◌, ◌-◌, ◌≤◌, ◌<◌}
use Rattle.std.specs.Prelude.{Ok}
use mathlib.Core.Path.{◌≡◌, sym, ◌∙◌}
use mathlib.Core.List.{List, []}
use native.Mathlib.Omega.{arith}
use lib.ListN.{get_or}
use lib.Seq.{ext_get_or}
use Rattle.cells.specs.Cells.{Row, empty_cell}
use Rattle.packed_rows.specs.Answers.{check_answer, unpack_output}
use Rattle.packed_rows.specs.Steps.{rows_read}
use Rattle.packed_rows.proofs.Shapes.{Each, none, one, Shaped, each-count}
use Rattle.packed_rows.proofs.Accepted.{accepted-shaped}
use Rattle.acceptance.proofs.BlockStreams.{holds}
use Rattle.compare_theorems.proofs.PatternsCompared.{field_of}

-- An element of a list whose elements all have a property.
each_at : {A : Type 0} {P : A → Type 0} {n : ℕ} {xs : List A} → Each P n xs → (i : ℕ) (other : A) → i < n → P (get_or xs i other)
each_at none i other less = absurd (omega arith)
each_at (one p e) zero other less = p
each_at (one p e) (suc i) other less = each_at e i other (omega arith)

-- Every field of the first is that of the second.
abbrev pub SameFields : ℕ → ℕ → List Row → List Row → Type 0
SameFields rows tracks a b =
    (row track field : ℕ) → row < rows → 1 ≤ track → track ≤ tracks → 1 ≤ field → field ≤ 6 → field_of a row track field ≡ field_of b row track field

module _ {rows tracks : ℕ} {a b : List Row} (s : Shaped rows tracks a) (t : Shaped rows tracks b) (same : SameFields rows tracks a b) where
  same-cell : (row track : ℕ) → row < rows → track < tracks → get_or (get_or a row []) track empty_cell ≡ get_or (get_or b row []) track empty_cell
  same-cell row track r u =
      let here = each_at (each_at s row [] r) track empty_cell u in
      let there = each_at (each_at t row [] r) track empty_cell u in
      ext_get_or 0 (get_or (get_or a row []) track empty_cell) (get_or (get_or b row []) track empty_cell) (here ∙ sym there)
      (λ field less.
      (let first : track + 1 - 1 ≡ track = omega arith in
      let second : field + 1 - 1 ≡ field = omega arith in
      rw (first, second) at (same row (track + 1) (field + 1) r (omega arith) (omega arith) (omega arith) (omega (arith, less, here)))))

  same_row : (row : ℕ) → row < rows → get_or a row [] ≡ get_or b row []
  same_row row r =
      let here = each-count (each_at s row [] r) in
      let there = each-count (each_at t row [] r) in
      ext_get_or empty_cell (get_or a row []) (get_or b row []) (here ∙ sym there) (λ track less. same-cell row track r (omega (arith, less, here)))

  pub same-pattern : a ≡ b
  same-pattern =
      let here = each-count s in
      let there = each-count t in
      ext_get_or [] a b (here ∙ sym there) (λ row less. same_row row (omega (arith, less, here)))

-- Two accepted streams.
module _ (rows tracks : ℕ) (stream other : List ℕ) (accepted : check_answer stream rows tracks ≡ Ok tt)
    (other_accepted : check_answer other rows tracks ≡ Ok tt)
    (same : SameFields rows tracks (rows_read stream rows tracks) (rows_read other rows tracks)) where
  same-rows : rows_read stream rows tracks ≡ rows_read other rows tracks
  same-rows = same-pattern (shaped stream accepted) (shaped other other_accepted) same
    where
      shaped : (s : List ℕ) → check_answer s rows tracks ≡ Ok tt → Shaped rows tracks (rows_read s rows tracks)
      shaped s h = let a = holds s rows tracks h in rw a.read (accepted-shaped a)

  pub same-output : (out : List ℕ) → unpack_output stream rows tracks out ≡ unpack_output other rows tracks out
  same-output out =
      let a = holds stream rows tracks accepted in
      let b = holds other rows tracks other_accepted in
      let rows_same = simp (a.read, b.read) at same-rows in
      simp (a.read, b.read, rows_same)
