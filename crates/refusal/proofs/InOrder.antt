-- Rules that are checked part by part, in order: the verdict is that of the first part that refuses.
use mathlib.Core.Path.{◌≡◌, sym, ◌∙◌}
use Rattle.std.specs.Prelude.{⊤, Result, Ok, Err}
use mathlib.Core.List.{List, ◌++◌}
use Rattle.refusal.specs.Rules.{Rule, first_broken}
use Rattle.refusal.specs.declared.Refusal.{Refusal}
use Rattle.refusal.proofs.RuleLists.{broken-stopped, broken-passed}

-- The verdict of the first rules, as a step to the verdict of all rules.
module _ (xs ys : List Rule) {reported : Result ⊤ Refusal} (checked : reported ≡ first_broken xs) where
  pub rules-stopped : {r : Refusal} → reported ≡ Err r → Err r ≡ first_broken (xs ++ ys)
  rules-stopped e = sym (broken-stopped ys xs (sym checked ∙ e))

  pub rules-passed : {v : Result ⊤ Refusal} → reported ≡ Ok tt → v ≡ first_broken ys → v ≡ first_broken (xs ++ ys)
  rules-passed e later = later ∙ sym (broken-passed ys xs (sym checked ∙ e))

-- Four parts, one after the other.
module _ (first second third last : List Rule) {v : Result ⊤ Refusal} (v-is : v ≡ first_broken first) where
  pub first-stopped : {r : Refusal} → v ≡ Err r → Err r ≡ first_broken (first ++ (second ++ (third ++ last)))
  first-stopped e = rules-stopped first (second ++ (third ++ last)) v-is e

  module _ {w : Result ⊤ Refusal} (v-passed : v ≡ Ok tt) (w-is : w ≡ first_broken second) where
    pub second-stopped : {r : Refusal} → w ≡ Err r → Err r ≡ first_broken (first ++ (second ++ (third ++ last)))
    second-stopped e = rules-passed first (second ++ (third ++ last)) v-is v-passed (rules-stopped second (third ++ last) w-is e)

    module _ {x : Result ⊤ Refusal} (w-passed : w ≡ Ok tt) (x-is : x ≡ first_broken third) where
      after_two : {y : Result ⊤ Refusal} → y ≡ first_broken (third ++ last) → y ≡ first_broken (first ++ (second ++ (third ++ last)))
      after_two e = rules-passed first (second ++ (third ++ last)) v-is v-passed (rules-passed second (third ++ last) w-is w-passed e)

      pub third-stopped : {r : Refusal} → x ≡ Err r → Err r ≡ first_broken (first ++ (second ++ (third ++ last)))
      third-stopped e = after_two (rules-stopped third last x-is e)

      pub last-follows : {y : Result ⊤ Refusal} → x ≡ Ok tt → y ≡ first_broken last → y ≡ first_broken (first ++ (second ++ (third ++ last)))
      last-follows e y-is = after_two (rules-passed third last x-is e y-is)
