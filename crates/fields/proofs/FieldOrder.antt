-- The rules of an envelope in order, part by part.
use Prim.Native.Nat.{ℕ}
use Rattle.std.specs.Prelude.{⊤, Result, Ok, Err}
use mathlib.Core.Path.{◌≡◌}
use mathlib.Core.List.{List, ◌++◌}
use mathlib.Core.Bool.{Bool}
use Rattle.refusal.specs.Rules.{Rule, first_broken}
use Rattle.refusal.specs.declared.Refusal.{Refusal}
use Rattle.refusal.proofs.InOrder.{rules-stopped, rules-passed}
use Rattle.blocks.specs.StoredFields.{envelope_flags, envelope_sections}
use Rattle.fields.specs.Fields.{envelope_head_rules, envelope_point_rules, values_rules, envelope_rules}

-- An envelope: its first fields, its points, its values.
abbrev rules_after_head : List ℕ → Bool → ℕ → List Rule
rules_after_head m signed at =
    envelope_point_rules m (envelope_flags m at) (envelope_sections m at) at ++ values_rules m signed (envelope_sections m at) at

module _ (m : List ℕ) (instruments : ℕ) (signed : Bool) (at : ℕ) {head : Result ⊤ Refusal}
    (head-is : head ≡ first_broken (envelope_head_rules m instruments at)) where
  pub head-stopped : {r : Refusal} → head ≡ Err r → Err r ≡ first_broken (envelope_rules m instruments signed at)
  head-stopped e = rules-stopped (envelope_head_rules m instruments at) (rules_after_head m signed at) head-is e

  module _ {flags sections : ℕ} {points : Result ⊤ Refusal} (head_Passed : head ≡ Ok tt) (flags-are : flags ≡ envelope_flags m at)
      (sections-are : sections ≡ envelope_sections m at)
      (points-are : points ≡ first_broken (envelope_point_rules m flags sections at)) where
    points-follow : points ≡ first_broken (envelope_point_rules m (envelope_flags m at) (envelope_sections m at) at)
    points-follow = rw (← flags-are, ← sections-are) points-are

    after-head : {v : Result ⊤ Refusal} → v ≡ first_broken (rules_after_head m signed at) → v ≡ first_broken (envelope_rules m instruments signed at)
    after-head e = rules-passed (envelope_head_rules m instruments at) (rules_after_head m signed at) head-is head_Passed e

    pub points-stopped : {r : Refusal} → points ≡ Err r → Err r ≡ first_broken (envelope_rules m instruments signed at)
    points-stopped e =
        after-head (rules-stopped (envelope_point_rules m (envelope_flags m at) (envelope_sections m at) at)
        (values_rules m signed (envelope_sections m at) at) points-follow e)

    pub values-follow : {v : Result ⊤ Refusal} → points ≡ Ok tt → v ≡ first_broken (values_rules m signed sections at)
        → v ≡ first_broken (envelope_rules m instruments signed at)
    values-follow e values-are =
        after-head (rules-passed (envelope_point_rules m (envelope_flags m at) (envelope_sections m at) at)
        (values_rules m signed (envelope_sections m at) at) points-follow e (rw (← sections-are) values-are))
