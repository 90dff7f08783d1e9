-- A loop that goes over places and checks the rules of each.
use Prim.Native.Nat.{ℕ, suc, ◌+◌, ◌-◌, ◌*◌, ◌<◌}
use Rattle.std.specs.Prelude.{Ok, Err}
use mathlib.Core.Path.{◌≡◌, refl, sym, ◌∙◌}
use mathlib.Core.List.{List, [], ◌∷◌}
use native.Mathlib.Omega.{arith}
use native.Mathlib.Nat.{mul-add}
use Rattle.refusal.specs.Rules.{Rule, first_broken, rules_of_each}
use Rattle.refusal.specs.declared.Refusal.{Refusal}
use Rattle.refusal.proofs.RuleLists.{broken-passed, broken-stopped}
use Rattle.blocks.specs.Sizes.{places_from}

-- The state of a loop that checks the rules of all the places: the verdict on those that are left is the verdict on all.
pub record Passing (rules : ℕ → List Rule) (all left : List ℕ) : Type 0 where
  pub same : first_broken (rules_of_each rules left) ≡ first_broken (rules_of_each rules all)

-- The loop begins with all the places.
pub passing-first : {rules : ℕ → List Rule} {all : List ℕ} → Passing rules all all
passing-first = record { same = refl }

module _ {rules : ℕ → List Rule} {all left : List ℕ} (p : Passing rules all left) where
  -- It ends with none left: all rules hold.
  pub passing-last : left ≡ [] → Ok tt ≡ first_broken (rules_of_each rules all)
  passing-last none = rw none at p.same

  module _ {next : List ℕ} {at : ℕ} (e : left ≡ at ∷ next) where
    -- The rules of this place hold.
    pub passing-turn : first_broken (rules at) ≡ Ok tt → Passing rules all next
    passing-turn accepted =
        record { same = sym (broken-passed (rules_of_each rules next) (rules at) accepted) ∙ (rw e at p.same) }

    -- One of them does not hold.
    pub passing-stopped : {r : Refusal} → first_broken (rules at) ≡ Err r → Err r ≡ first_broken (rules_of_each rules all)
    passing-stopped refused = sym (broken-stopped (rules_of_each rules next) (rules at) refused) ∙ (rw e at p.same)

-- The same for n places with one step between them, of which i are done.
pub record PassingSteps (rules : ℕ → List Rule) (step n start i : ℕ) : Type 0 where
  pub passing : Passing rules (places_from (λ at. step) n start) (places_from (λ at. step) (n - i) (start + step * i))

module _ {rules : ℕ → List Rule} {step n start i : ℕ} (p : PassingSteps rules step n start i) (some : i < n) where
  -- The next place, and those after it.
  next-step : places_from (λ at. step) (n - i) (start + step * i) ≡ (start + step * i) ∷ places_from (λ at. step) (n - (i + 1)) (start + step * (i + 1))
  next-step =
      let one : n - i ≡ suc (n - (i + 1)) = omega arith in
      let further : start + step * i + step ≡ start + step * (i + 1) = omega (arith, mul-add step i 1) in
      rw (one, ← further) refl

  pub steps-turn : first_broken (rules (start + step * i)) ≡ Ok tt → PassingSteps rules step n start (i + 1)
  steps-turn accepted = record { passing = passing-turn p.passing next-step accepted }
