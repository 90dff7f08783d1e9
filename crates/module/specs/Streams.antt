-- The rules of a module, first of three statements: what the contracts cite, in the order of the refusals. Here: 15, the packed streams.
-- FORMAT.md, V7 and F16.
use Rattle.std.specs.Prelude.{ℕ, List, [], ◌∷◌, ⊤, Result}
use Rattle.refusal.specs.declared.Refusal.{Refusal}
use Rattle.refusal.specs.Rules.{Rule, rule, rules_of_each, accepted}
use Rattle.refusal.specs.declared.Reason.TheVariants.{Stream}
use Rattle.packed_rows.specs.Answers.{check_answer}
use Rattle.layout.specs.declared.Layout.{Layout}
use Rattle.blocks.specs.StoredFields.{pattern_rows, packed_bytes}
use Rattle.blocks.specs.Sizes.{pattern_blocks}

-- V7: the verdict on a pattern's stream, with its rows and the module's tracks.
abbrev pub stream_verdict : List ℕ → ℕ → ℕ → Result ⊤ Refusal
stream_verdict m tracks at = check_answer (packed_bytes m at) (pattern_rows m at) tracks

-- F16: 15 by pattern.
abbrev pub pattern_stream_rules : List ℕ → ℕ → ℕ → List Rule
pattern_stream_rules m tracks at = rule (accepted (stream_verdict m tracks at)) Stream at ∷ []

abbrev pub stream_rules : List ℕ → Layout → List Rule
stream_rules m l = rules_of_each (pattern_stream_rules m l.tracks) (pattern_blocks m l)
