-- FORMAT.md, F1 and F8: the answer of a call that fills a lent output, and what the output then holds.
use Rattle.std.specs.Prelude.{ℕ, List, [], ◌∷◌, ◌++◌, cond, length, drop, eqb, ltb, Result, Ok, Err}
use Rattle.refusal.specs.Numbers.{refusal, no_refusal, refused_outcome, outcome_numbers, accepted_numbers, refused_numbers}
use Rattle.refusal.specs.declared.Reason.TheVariants.{Room}
use Rattle.refusal.specs.declared.Refusal.{Refusal}
use Rattle.refusal.specs.declared.LengthAnswer.{LengthAnswer}

abbrev pub refused_length : Refusal → LengthAnswer
refused_length r = record { outcome = refused_outcome r; length = 0 }

abbrev pub written_length : ℕ → LengthAnswer
written_length n = record { outcome = no_refusal; length = n }

-- The answer in the form that C reads.
abbrev pub length_answer : Result ℕ Refusal → LengthAnswer
length_answer (Ok n) = written_length n
length_answer (Err r) = refused_length r

-- The fields of the answer, in order.
abbrev pub length_numbers : LengthAnswer → List ℕ
length_numbers answer = outcome_numbers answer.outcome ++ (answer.length ∷ [])

-- F1: the answer of a call whose value is one number, in numbers.
abbrev pub value_numbers : Result ℕ Refusal → List ℕ
value_numbers (Ok n) = accepted_numbers (n ∷ [])
value_numbers (Err r) = refused_numbers r 1

-- 17 if the room is less than document 01's "needed length", which is its place; else the needed length, as the length written.
abbrev pub needed_if : ℕ → ℕ → Result ℕ Refusal
needed_if needed room = cond (ltb room needed) (Err (refusal Room needed)) (Ok needed)

-- F8: on success the output holds what is written and then what was there before; on a refusal it is unchanged.
abbrev pub output_written : Result ℕ Refusal → List ℕ → List ℕ → List ℕ
output_written (Ok n) written out = written ++ drop n out
output_written (Err r) written out = out

-- The same two for an answer in the form that C reads.
abbrev pub length_if : ℕ → ℕ → LengthAnswer
length_if needed room = cond (ltb room needed) (refused_length (refusal Room needed)) (written_length needed)

abbrev pub output_if : LengthAnswer → List ℕ → List ℕ → List ℕ
output_if answer written out = cond (eqb answer.outcome.number 0) (written ++ drop (length written) out) out

-- The same, by the needed length.
abbrev pub output_of : ℕ → List ℕ → List ℕ → List ℕ
output_of needed written out = output_if (length_if needed (length out)) written out
