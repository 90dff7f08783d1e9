-- The sizes of a pattern, if they fit: bounds, so that no product wraps.
use Prim.Native.Nat.{ℕ, ◌*◌, ◌≤◌}
use mathlib.Core.Path.{◌≡◌}
use mathlib.Core.Bool.{true}
use native.Mathlib.Omega.{arith}
use native.Mathlib.Nat.{mul-le-mul}
use borrow.Author.Tests.{leb-true}
use Rattle.cells.specs.Cells.{sizes_fit}
use Rattle.packed_rows.proofs.Reading.{and-true}

pub record Sizes (rows tracks : ℕ) : Type 0 where
  pub few-rows : rows ≤ 65535
  pub some-tracks : 4 ≤ tracks
  pub few-tracks : tracks ≤ 254
  pub small : rows * (tracks * 6) ≤ 65535 * 1524

wide : (tracks : ℕ) → tracks ≤ 254 → tracks * 6 ≤ 1524
wide tracks h = omega arith

pub sizes : (rows tracks : ℕ) → sizes_fit rows tracks ≡ true → Sizes rows tracks
sizes rows tracks h =
    let a = and-true _ _ h in
    let b = and-true _ _ a.1 in
    let d = and-true _ _ b.1 in
    let few : rows ≤ 65535 = leb-true _ _ a.0 in
    let high : tracks ≤ 254 = leb-true _ _ d.0 in
    record { few-rows = few; some-tracks = leb-true 4 tracks b.0; few-tracks = high; small = mul-le-mul few (wide tracks high) }
