-- The least and the greatest size of a block.
use Prim.Native.Nat.{ℕ, ◌*◌, ◌<◌, ◌≤◌}
use mathlib.Core.List.{List}
use native.Mathlib.Omega.{arith}
use native.Mathlib.Nat.{mul-le-mul}
use Rattle.blocks.specs.Sizes.{size_of}
use Rattle.blocks.specs.declared.BlockKind.{BlockKind}
use Rattle.blocks.specs.declared.BlockKind.TheVariants.{Song, Instrument, Pattern, Sample, Envelope}

pub size-some : (kind : BlockKind) (m : List ℕ) (at : ℕ) → 0 < size_of kind m at
unfolding size_of
size-some Song m at = omega arith
size-some Instrument m at = omega arith
size-some Pattern m at = omega arith
size-some Sample m at = omega arith
size-some Envelope m at = omega arith

pub frames-below : (frames width : ℕ) → frames < 0x100000000 → width < 5 → frames * width < 0x400000000
frames-below frames width f w =
    let f-most : frames ≤ 0xFFFFFFFF = omega arith in
    let w-most : width ≤ 4 = omega arith in
    omega (arith, mul-le-mul f-most w-most)
