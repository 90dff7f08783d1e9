-- What holds for the refusal of the first rule that does not hold. It is enough to prove it rule by rule: for each rule that does not hold,
-- if the rules before it hold.
use Prim.Native.Nat.{ℕ}
use Rattle.std.specs.Prelude.{Err}
use mathlib.Core.Path.{◌≡◌, refl, sym, subst, ◌∙◌}
use mathlib.Core.Logic.{◌↔◌}
use mathlib.Core.List.{List, [], ◌∷◌, ◌++◌}
use mathlib.Core.Bool.{Bool, true, false, cond, not, ◌&&◌, ◌||◌}
use native.Mathlib.Omega.{arith}
use Rattle.vocabulary.specs.Lists.{Every, none, also}
use Rattle.refusal.specs.Numbers.{refusal}
use Rattle.refusal.specs.Rules.{Rule, first_broken, rules_of_each}
use Rattle.refusal.specs.declared.Refusal.{Refusal}
use Rattle.acceptance.proofs.Holding.{false-never, AllHold}

-- Rule by rule: P holds for the refusal of the first rule if that does not hold, and for those of the rules after it if it does.
pub data WhereBroken (P : Refusal → Type 0) : List Rule → Type 0 where
  no-rule : WhereBroken P []
  this-or : {r : Rule} {rules : List Rule} → (r.holds ≡ false → P (refusal r.reason r.place))
      → (r.holds ≡ true → WhereBroken P rules)
      → WhereBroken P (r ∷ rules)

module _ {P : Refusal → Type 0} where
  pub first-broken : {rules : List Rule} → WhereBroken P rules → (r : Refusal) → first_broken rules ≡ Err r → P r
  first-broken no-rule r e = let z : ◌≡◌ {A = ℕ} 0 1 = cc in absurd (omega arith)
  first-broken (this-or {r = rule} {rules = rules} this more) r e = go rule.holds refl (λ h. first-broken (more h) r) e
    where
      go : (b : Bool) → rule.holds ≡ b → (rule.holds ≡ true → first_broken rules ≡ Err r → P r)
          → cond b (first_broken rules) (Err (refusal rule.reason rule.place)) ≡ Err r
          → P r
      go true h ih e = ih h e
      go false h ih e = let same : refusal rule.reason rule.place ≡ r = cc in subst P same (this h)

  -- For appended lists, for rules that only some places have, and for the rules of each place.
  pub broken-append : {xs ys : List Rule} → WhereBroken P xs → (AllHold xs → WhereBroken P ys) → WhereBroken P (xs ++ ys)
  broken-append no-rule then = then none
  broken-append (this-or this more) then = this-or this (λ h. broken-append (more h) (λ hold. then (also h hold)))

  pub broken-if : (test : Bool) {rules : List Rule} → (test ≡ true → WhereBroken P rules) → WhereBroken P (cond test rules [])
  broken-if true each = each refl
  broken-if false each = no-rule

  pub broken-each : (rules_at : ℕ → List Rule) {places : List ℕ} → Every (λ at. WhereBroken P (rules_at at)) places
      → WhereBroken P (rules_of_each rules_at places)
  broken-each rules_at none = no-rule
  broken-each rules_at (also each more) = broken-append each (λ hold. broken-each rules_at more)

-- What a broken test implies: the condition that it tests is false; and which of two tests is broken.
pub never : {test : Bool} {P : Type 0} → (test ≡ true) ↔ P → test ≡ false → P → ⊥
never says broken p = false-never (sym broken ∙ says.1 p)

pub not-broken : (a : Bool) → not a ≡ false → a ≡ true
not-broken true e = refl
not-broken false e = sym e

pub both-broken : {A : Type 0} (a b : Bool) → (a ≡ false → A) → (a ≡ true → b ≡ false → A) → a && b ≡ false → A
both-broken true b f g e = g refl e
both-broken false b f g e = f refl

pub neither-broken : (a b : Bool) → a || b ≡ false → (a ≡ false) × (b ≡ false)
neither-broken true b e = false-never (sym e)
neither-broken false b e = (refl, e)

pub unless-broken : (a b : Bool) → not a || b ≡ false → (a ≡ true) × (b ≡ false)
unless-broken true b e = (refl, e)
unless-broken false b e = false-never (sym e)
