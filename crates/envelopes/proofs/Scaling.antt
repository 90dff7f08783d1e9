-- Panning values in 4 bytes: a stored v as 4v − 128, and a signed 2-byte number.
use Prim.Native.Nat.{ℕ, ◌*◌, ◌<◌, ◌≤◌}
use mathlib.Core.Path.{◌≡◌, refl, ap, ◌∙◌}
use mathlib.Core.Bool.{Bool, true, false}
use native.Mathlib.Omega.{arith}
use lib.Dec.{ltb}
use lib.IntN.{ℤ, pos, ◌-ℤ◌, ◌*ℤ◌}
use lib.Signed.{mag}
use mir.Syntax.{w16, w32}
use mir.Val.{SFits, to_z, of_z}
use mir.ValLaws.{to_z_pos, to_z-of_z}

times : (v : ℕ) → v < 65536 → pos 4 *ℤ to_z w32 v ≡ pos (4 * v)
times v h = ap (λ (z : ℤ). pos 4 *ℤ z) (to_z_pos w32 v (omega arith))

pub times-fits : (v : ℕ) → v < 65536 → SFits w32 (pos 4 *ℤ to_z w32 v)
times-fits v h = rw (times v h) (record { sfits = omega arith })

less : (v : ℕ) → v < 65536 → to_z w32 (of_z w32 (pos 4 *ℤ to_z w32 v)) -ℤ pos 128 ≡ pos (4 * v) -ℤ pos 128
less v h = ap (λ (z : ℤ). z -ℤ pos 128) (to_z-of_z w32 (pos 4 *ℤ to_z w32 v) (times-fits v h) ∙ times v h)

-- The magnitude of a number minus 128 is below each bound that is above the number and at least 128.
pub less-mag : (n bound : ℕ) → n < bound → 128 ≤ bound → mag (pos n -ℤ pos 128) < bound
less-mag n bound h least = go (ltb n 128) refl
  where
    go : (t : Bool) → ltb n 128 ≡ t → mag (pos n -ℤ pos 128) < bound
    go true t = simp t (omega (arith, least))
    go false t = simp t (omega (arith, h))

pub less-fits : (v : ℕ) → v < 65536 → SFits w32 (to_z w32 (of_z w32 (pos 4 *ℤ to_z w32 v)) -ℤ pos 128)
less-fits v h = rw (less v h) (record { sfits = less-mag (4 * v) 2147483648 (omega arith) (omega arith) })

pub scaled : (v : ℕ) → v < 65536 → to_z w32 (of_z w32 (to_z w32 (of_z w32 (pos 4 *ℤ to_z w32 v)) -ℤ pos 128)) ≡ pos (4 * v) -ℤ pos 128
scaled v h = to_z-of_z w32 (to_z w32 (of_z w32 (pos 4 *ℤ to_z w32 v)) -ℤ pos 128) (less-fits v h) ∙ less v h

-- A signed 2-byte number is the same in 4 bytes.
pub widened-fits : (z : ℤ) → mag z < 32768 → SFits w32 (to_z w16 (of_z w16 z))
widened-fits z h = rw (to_z-of_z w16 z (record { sfits = h })) (record { sfits = omega (arith, h) })

pub widened : (z : ℤ) → mag z < 32768 → to_z w32 (of_z w32 (to_z w16 (of_z w16 z))) ≡ z
widened z h = to_z-of_z w32 (to_z w16 (of_z w16 z)) (widened-fits z h) ∙ to_z-of_z w16 z (record { sfits = h })
