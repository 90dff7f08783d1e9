-- A loop that goes from block to block.
use Prim.Native.Nat.{ℕ, suc, ◌+◌, ◌-◌, ◌*◌, ◌<◌, ◌≤◌}
use mathlib.Core.Path.{◌≡◌, refl}
use native.Mathlib.Omega.{arith}
use Rattle.blocks.specs.Sizes.{place_after}

-- The state of a loop over n blocks from a start on: it is at a place, with some blocks left. The place after those left is the place after
-- all, and no sum wraps in the steps that are left.
pub record Leading (size : ℕ → ℕ) (n start left at : ℕ) : Type 0 where
  pub same : place_after size left at ≡ place_after size n start
  pub room : at + left * 0x800000000 ≤ start + n * 0x800000000

pub leading-first : {size : ℕ → ℕ} {n start : ℕ} → Leading size n start n start
leading-first = record { same = refl; room = omega arith }

module _ {size : ℕ → ℕ} {n start left at : ℕ} (p : Leading size n start left at) where
  -- The blocks after this one.
  ahead : 0 < left → place_after size (left - 1) (at + size at) ≡ place_after size n start
  ahead some = let e : left ≡ suc (left - 1) = omega arith in rw e at p.same

  pub leading-turn : {s : ℕ} → 0 < left → (s ≡ size at) × (s < 0x800000000) → Leading size n start (left - 1) (at + s)
  leading-turn some sized = record { same = rw sized.0 (ahead some); room = omega (arith, p.room, sized.1) }
