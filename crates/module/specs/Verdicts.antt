-- The rules of a module, first of three statements: what the contracts cite, in the order of the refusals. Here: all of them in order, the
-- verdict of a module. The other two statements are `acceptance/specs/Rules.antt`, over bytes, and `format/specs/WellFormed.antt`, over
-- data.
-- FORMAT.md, F11 to F16 (document 01, "Refusal numbers and their order").
use Rattle.std.specs.Prelude.{ℕ, List, ◌++◌, ⊤, Result, Ok, Err}
use Rattle.refusal.specs.declared.Refusal.{Refusal}
use Rattle.refusal.specs.Rules.{Rule, first_broken}
use Rattle.layout.specs.Outlines.{outline, outline_if}
use Rattle.layout.specs.declared.Layout.{Layout}
use Rattle.blocks.specs.Filling.{block_rules}
use Rattle.fields.specs.Fields.{field_rules}
use Rattle.module.specs.Loops.{loop_rules}
use Rattle.module.specs.Streams.{stream_rules}

-- F14 to F16: 11 by chunk; 12 and 13 by field; 14 by instrument; 15 by pattern.
abbrev pub content_rules : List ℕ → Layout → List Rule
content_rules m l = block_rules m l ++ (field_rules m l ++ (loop_rules m l ++ stream_rules m l))

abbrev pub content_if : List ℕ → Result Layout Refusal → Result Layout Refusal
content_if m (Ok l) = outline_if (first_broken (content_rules m l)) (Ok l)
content_if m (Err r) = Err r

-- The layout of an accepted module, or the "module's own refusal": 1 to 10 from its outline, then 11 to 15.
abbrev pub opened : List ℕ → Result Layout Refusal
opened m = content_if m (outline m)

abbrev pub verdict_of_outline : Result Layout Refusal → Result ⊤ Refusal
verdict_of_outline (Ok l) = Ok tt
verdict_of_outline (Err r) = Err r

-- The verdict of the check of a module, document 01's "accepted" or a refusal.
abbrev pub module_verdict : List ℕ → Result ⊤ Refusal
module_verdict m = verdict_of_outline (opened m)
