-- FORMAT.md, "Refusals" (document 01, "Refusal numbers and their order"): the number of each reason, and an answer in numbers.
use Rattle.std.specs.Prelude.{ℕ, ◌≡◌, List, [], ◌∷◌, ◌++◌, replicate, ⊤, Result, Ok, Err}
use Rattle.refusal.specs.declared.Reason.{Reason}
use Rattle.refusal.specs.declared.Reason.TheVariants.{TooLong, NotAModule, Version, ChunkCut, Identifier, Repeated}
use Rattle.refusal.specs.declared.Reason.TheVariants.{BeforeInfo, Missing, FixedLength, InfoRange, Blocks, Reference}
use Rattle.refusal.specs.declared.Reason.TheVariants.{FieldRange, Loop, Stream, Sizes, Room, NotThere, OddFrames}
use Rattle.refusal.specs.declared.Refusal.{Refusal}
use Rattle.refusal.specs.declared.Outcome.{Outcome}

-- F1: the number of each reason, from document 01's table.
abbrev pub number_of : Reason → ℕ
number_of TooLong = 1
number_of NotAModule = 2
number_of Version = 3
number_of ChunkCut = 4
number_of Identifier = 5
number_of Repeated = 6
number_of BeforeInfo = 7
number_of Missing = 8
number_of FixedLength = 9
number_of InfoRange = 10
number_of Blocks = 11
number_of Reference = 12
number_of FieldRange = 13
number_of Loop = 14
number_of Stream = 15
number_of Sizes = 16
number_of Room = 17
number_of NotThere = 18
number_of OddFrames = 19

-- A refusal: one number and one place. The "place" of document 01's table is a byte offset, a length or 0.
abbrev pub refusal : Reason → ℕ → Refusal
refusal reason place = record { number = number_of reason; place = place }

-- F1: the first part of every answer: the refusal's number and place, 0 and 0 if there is none.
abbrev pub no_refusal : Outcome
no_refusal = record { number = 0; place = 0 }

abbrev pub refused_outcome : Refusal → Outcome
refused_outcome r = record { number = r.number; place = r.place }

abbrev pub outcome_of : Result ⊤ Refusal → Outcome
outcome_of (Ok _) = no_refusal
outcome_of (Err r) = refused_outcome r

-- F1: an answer in document 01's numbers: the refusal's number and place, 0 and 0 if there is none, and then its values. On a refusal all
-- values are 0.
abbrev pub outcome_numbers : Outcome → List ℕ
outcome_numbers outcome = outcome.number ∷ outcome.place ∷ []

abbrev pub accepted_numbers : List ℕ → List ℕ
accepted_numbers values = outcome_numbers no_refusal ++ values

abbrev pub refused_numbers : Refusal → ℕ → List ℕ
refused_numbers r values = outcome_numbers (refused_outcome r) ++ replicate values 0

-- A verdict in numbers: it has no values.
abbrev pub verdict_numbers : Result ⊤ Refusal → List ℕ
verdict_numbers (Ok _) = accepted_numbers []
verdict_numbers (Err r) = refused_numbers r 0

-- What a contract says of an answer: it equals the answer given here, and so do its numbers.
abbrev pub IsAnswer : {A : Type 0} → (A → List ℕ) → A → A → Type 0
IsAnswer numbers given answer = (given ≡ answer) × (numbers given ≡ numbers answer)
