-- The repacked module of a module that opens is computed from its layout.
use Prim.Native.Nat.{ℕ}
use Rattle.std.specs.Prelude.{Ok}
use mathlib.Core.Path.{◌≡◌, ap}
use mathlib.Core.List.{List}
use Rattle.layout.specs.declared.Layout.{Layout}
use Rattle.module.specs.Verdicts.{opened}
use Rattle.repack.specs.Repacked.{repacked_module, repacked_if, repacked}

pub repacked-opened : (m : List ℕ) (l : Layout) → opened m ≡ Ok l → repacked m ≡ repacked_module m l
repacked-opened m l o = ap (repacked_if m) o
