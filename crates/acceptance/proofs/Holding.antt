-- Rules that hold. Nothing is refused exactly if every rule of a list holds. For appended lists, and for the rules of many places, this is
-- stated part by part. Also what each test states as a proposition.
use Prim.Native.Nat.{ℕ, zero, suc, ◌+◌, ◌*◌, ◌≤◌, ◌<◌}
use Rattle.std.specs.Prelude.{Ok}
use mathlib.Core.Path.{◌≡◌, refl, ◌∙◌}
use mathlib.Core.Logic.{◌↔◌}
use mathlib.Core.List.{List, [], ◌∷◌}
use mathlib.Core.Bool.{Bool, true, false, not, ◌&&◌, ◌||◌}
use native.Mathlib.Omega.{arith}
use lib.Dec.{eqb, leb, ltb}
use borrow.Author.Tests.{leb-true, ltb-true, eqb-true, le-leb, lt-ltb, eq-eqb}
use Rattle.vocabulary.specs.Lists.{Every, none, also}
use Rattle.vocabulary.proofs.EveryOne.{every_first, every_rest, every_one, every_more, every_append}
use Rattle.refusal.specs.Rules.{Rule, first_broken, rules_of_each}
use Rattle.blocks.specs.Sizes.{places_from, place_after}

-- Tests.
pub leb-says : (a b : ℕ) → (leb a b ≡ true) ↔ (a ≤ b)
leb-says a b = (leb-true a b, le-leb a b)

pub ltb-says : (a b : ℕ) → (ltb a b ≡ true) ↔ (a < b)
ltb-says a b = (ltb-true a b, lt-ltb a b)

pub eqb-says : (a b : ℕ) → (eqb a b ≡ true) ↔ (a ≡ b)
eqb-says a b = (eqb-true a b, eq-eqb a b)

pub false-never : {A : Type 0} → false ≡ true → A
false-never e = let z : ◌≡◌ {A = ℕ} 0 1 = cc in absurd (omega arith)

pub and-says : (a b : Bool) → (a && b ≡ true) ↔ ((a ≡ true) × (b ≡ true))
and-says true b = (λ h. (refl, h), λ h. h.1)
and-says false b = (λ h. false-never h, λ h. h.0)

pub unless-says : (a b : Bool) → (not a || b ≡ true) ↔ (a ≡ true → b ≡ true)
unless-says true b = (λ h e. h, λ h. h refl)
unless-says false b = (λ h e. false-never e, λ h. refl)

-- Every rule of a list holds.
abbrev pub AllHold : List Rule → Type 0
AllHold rules = Every (λ r. r.holds ≡ true) rules

pub accepted-hold : (rules : List Rule) → (first_broken rules ≡ Ok tt) ↔ AllHold rules
accepted-hold [] = (λ e. none, λ e. refl)
accepted-hold (r ∷ rules) = go r.holds refl (accepted-hold rules)
  where
    go : (b : Bool) → r.holds ≡ b → ((first_broken rules ≡ Ok tt) ↔ AllHold rules) → (first_broken (r ∷ rules) ≡ Ok tt) ↔ AllHold (r ∷ rules)
    go true h ih = rw h (λ e. also refl (ih.0 e), λ e. ih.1 (every_rest e))
    go false h ih = rw h (λ e. let z : ◌≡◌ {A = ℕ} 0 1 = cc in absurd (omega arith), λ e. false-never (every_first e))

pub each-hold : (rules_at : ℕ → List Rule) (places : List ℕ) → AllHold (rules_of_each rules_at places) ↔ Every (λ at. AllHold (rules_at at)) places
each-hold rules_at [] = (λ e. none, λ e. none)
each-hold rules_at (at ∷ places) = (
  λ e. (let parts = (every_append (rules_at at) (rules_of_each rules_at places)).0 e in also parts.0 ((each-hold rules_at places).0 parts.1)),
  λ e. (every_append (rules_at at) (rules_of_each rules_at places)).1 (every_first e, (each-hold rules_at places).1 (every_rest e)),
)

-- Every place of blocks one after the other; and of blocks at equal distances.
pub every-place : (P : ℕ → Type 0) (size : ℕ → ℕ) (n start : ℕ) → Every P (places_from size n start) ↔ ((i : ℕ) → i < n → P (place_after size i start))
every-place P size zero start = (λ e i h. absurd (omega arith), λ e. none)
every-place P size (suc n) start = (
  forth (every-place P size n (start + size start)).0,
  λ h. also (h 0 (omega arith)) ((every-place P size n (start + size start)).1 (λ i l. h (suc i) (omega arith))),
)
  where
    forth : (Every P (places_from size n (start + size start)) → (i : ℕ) → i < n → P (place_after size i (start + size start)))
        → Every P (places_from size (suc n) start) → (i : ℕ) → i < suc n
        → P (place_after size i start)
    forth ih e zero h = every_first e
    forth ih e (suc i) h = ih (every_rest e) i (omega arith)

after-step : (step n start : ℕ) → place_after (λ at. step) n start ≡ start + step * n
after-step step zero start = omega arith
after-step step (suc n) start = after-step step n (start + step) ∙ omega arith

pub every-step : (P : ℕ → Type 0) (step n start : ℕ) → Every P (places_from (λ at. step) n start) ↔ ((i : ℕ) → i < n → P (start + step * i))
every-step P step n start = (
  λ e i h. (rw (after-step step i start) at ((every-place P (λ at. step) n start).0 e i h)),
  λ h. (every-place P (λ at. step) n start).1 (λ i l. rw (after-step step i start) (h i l)),
)

-- The rules of a list as propositions.
pub ruleset plain = (every_append, every_one, every_more, leb-says, ltb-says, eqb-says, and-says, unless-says)
