-- An envelope for which the rules hold: its sections are at most 31, and the values of its points in use fit.
use Prim.Native.Nat.{ℕ, ◌+◌, ◌*◌, ◌≤◌}
use mathlib.Core.Path.{◌≡◌}
use mathlib.Core.List.{List}
use mathlib.Core.Bool.{Bool, true}
use native.Mathlib.Omega.{arith}
use borrow.Author.Tests.{leb-true}
use Rattle.vocabulary.proofs.EveryOne.{every_first, every_rest, every-split}
use Rattle.blocks.specs.StoredFields.{envelope_flags, envelope_sections, envelope_value}
use Rattle.fields.specs.Fields.{value_fits, envelope_head_rules, envelope_point_rules, values_rules, envelope_rules}
use Rattle.acceptance.proofs.Holding.{AllHold}
use Rattle.acceptance.proofs.BlockFields.{values-say}

module _ (m : List ℕ) (instruments : ℕ) (signed : Bool) (at : ℕ) (hold : AllHold (envelope_rules m instruments signed at)) where
  parts : AllHold (envelope_head_rules m instruments at)
      × AllHold (envelope_point_rules m (envelope_flags m at) (envelope_sections m at) at)
      × AllHold (values_rules m signed (envelope_sections m at) at)
  parts =
      (every-split (envelope_head_rules m instruments at) (envelope_point_rules m (envelope_flags m at) (envelope_sections m at) at)
      (values_rules m signed (envelope_sections m at) at)).0 hold

  pub sections-fit : envelope_sections m at ≤ 31
  sections-fit = leb-true (envelope_sections m at) 31 (every_first (every_rest (every_rest parts.0)))

  pub value-fits : (point : ℕ) → point ≤ envelope_sections m at → value_fits signed (envelope_value m at point) ≡ true
  value-fits point h =
      let same : at + 8 + 4 * point + 2 ≡ at + 10 + 4 * point = omega arith in
      rw same at ((values-say m at signed (envelope_sections m at)).0 parts.2 point (omega arith))
