-- A call that writes bytes of an accepted module to a lent output: its answer, and what the output then holds.
use Prim.Native.Nat.{ℕ}
use Rattle.std.specs.Prelude.{Result}
use Rattle.refusal.specs.declared.Refusal.{Refusal}
use mathlib.Core.Path.{◌≡◌}
use mathlib.Core.List.{List}
use lib.ListN.{length}
use Rattle.refusal.specs.declared.LengthAnswer.{LengthAnswer}
use Rattle.layout.specs.declared.Layout.{Layout}
use Rattle.module.specs.Verdicts.{opened}
use Rattle.module.specs.Outputs.{answer_opened, output_opened}

module _ (bytes : Layout → List ℕ) (m out : List ℕ) where
  pub by-opened : (o : Result Layout Refusal) → opened m ≡ o → {answer : LengthAnswer} {out' : List ℕ}
      → (answer ≡ answer_opened bytes (length out) o) × (out' ≡ output_opened bytes out o)
      → (answer ≡ answer_opened bytes (length out) (opened m)) × (out' ≡ output_opened bytes out (opened m))
  by-opened o opens e = rw opens e
