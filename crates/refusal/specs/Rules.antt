-- FORMAT.md, F10: rules in the order in which they are checked, and the refusal of the first that does not hold.
use Rattle.std.specs.Prelude.{ℕ, List, [], ◌∷◌, ◌++◌, Bool, true, false, cond, ⊤, Result, Ok, Err}
use Rattle.refusal.specs.declared.Refusal.{Refusal}
use Rattle.refusal.specs.Numbers.{refusal}
use Rattle.refusal.specs.declared.Reason.{Reason}

-- A rule: whether it holds, and the reason and the place of the refusal if it does not.
pub record Rule : Type 0 where
  pub holds : Bool
  pub reason : Reason
  pub place : ℕ

abbrev pub rule : Bool → Reason → ℕ → Rule
rule holds reason place = record { holds = holds; reason = reason; place = place }

-- F10: the refusal of the first rule that does not hold.
abbrev pub first_broken : List Rule → Result ⊤ Refusal
first_broken [] = Ok tt
first_broken (r ∷ rs) = cond r.holds (first_broken rs) (Err (refusal r.reason r.place))

-- The rules of each of the given places, one after the other.
abbrev pub rules_of_each : (ℕ → List Rule) → List ℕ → List Rule
rules_of_each rules_at [] = []
rules_of_each rules_at (at ∷ places) = rules_at at ++ rules_of_each rules_at places

-- Whether a verdict is "accepted": it has no refusal.
abbrev pub accepted : Result ⊤ Refusal → Bool
accepted (Ok _) = true
accepted (Err r) = false
