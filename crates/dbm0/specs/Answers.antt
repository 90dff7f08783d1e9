-- FORMAT.md, F1 and Q14: the fields of a cell in C, in order.
use Rattle.std.specs.Prelude.{ℕ, List, [], ◌∷◌, ◌++◌}
use Rattle.refusal.specs.Numbers.{outcome_numbers}
use Rattle.dbm0.specs.declared.PatternCell.{PatternCell}

abbrev pub fields_of_cell : PatternCell → List ℕ
fields_of_cell c =
    outcome_numbers c.outcome
    ++ (c.kind ∷ c.octave ∷ c.semitone ∷ c.unknown ∷ c.instrument ∷ c.command1 ∷ c.parameter1 ∷ c.command2 ∷ c.parameter2 ∷ [])
