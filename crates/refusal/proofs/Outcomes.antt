-- Answers in numbers: an answer that equals the expected one has the expected numbers; the first part of an answer is the verdict's
-- numbers.
use Prim.Native.Nat.{ℕ}
use Rattle.std.proofs.lemmas.Result.{err_from_is_err_and}
use Rattle.std.specs.Prelude.{IsErrAnd, ⊤, Result, Ok, Err}
use Rattle.refusal.specs.declared.Refusal.{Refusal}
use mathlib.Core.Path.{◌≡◌, refl, ◌∙◌, ap}
use mathlib.Core.List.{List}
use Rattle.refusal.specs.Numbers.{outcome_of, outcome_numbers, verdict_numbers, IsAnswer}
use Rattle.refusal.specs.declared.Outcome.{Outcome}

outcome-of-numbers : (v : Result ⊤ Refusal) → outcome_numbers (outcome_of v) ≡ verdict_numbers v
outcome-of-numbers (Ok _) = refl
outcome-of-numbers (Err r) = refl

pub head-numbers : (o : Outcome) (v a : Result ⊤ Refusal) → o ≡ outcome_of v → v ≡ a → outcome_numbers o ≡ verdict_numbers a
head-numbers o v a e f = ap outcome_numbers e ∙ outcome-of-numbers v ∙ ap verdict_numbers f

module _ {A : Type 0} (numbers : A → List ℕ) {given answer : A} where
  pub is-answer : given ≡ answer → IsAnswer numbers given answer
  is-answer e = (e, ap numbers e)

  -- The same, with the rest of a contract.
  pub is-answer-with : {B : Type 0} → (given ≡ answer) × B → IsAnswer numbers given answer × B
  is-answer-with both = (is-answer both.0, both.1)

-- What `?` returns for a refusal is that refusal.
pub passed-on : {T E : Type 0} {e : E} (result : Result T E) → IsErrAnd result (λ (y : E). y ≡ e) → result ≡ Err e
passed-on result is =
    let given = err_from_is_err_and result is in
    given.1 ∙ ap Err given.2
