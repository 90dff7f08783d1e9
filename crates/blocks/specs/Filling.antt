-- The rules of a module, first of three statements: what the contracts cite, in the order of the refusals. Here: 11, the blocks.
-- FORMAT.md, B1, B5, B6 and F14.
use Rattle.std.specs.Prelude.{ℕ, ◌+◌, List, [], ◌∷◌, ◌++◌, Bool, not, ◌||◌, eqb}
use Rattle.refusal.specs.Rules.{Rule, rule, rules_of_each}
use Rattle.refusal.specs.declared.Reason.TheVariants.{Blocks}
use Rattle.layout.specs.declared.ChunkSpan.{ChunkSpan}
use Rattle.layout.specs.declared.Layout.{Layout}
use Rattle.blocks.specs.StoredFields.{sample_flags}
use Rattle.blocks.specs.Sizes.{width_of, block_at, envelope_count, sample_blocks}
use Rattle.blocks.specs.declared.BlockKind.{BlockKind}
use Rattle.blocks.specs.declared.BlockKind.TheVariants.{Song, Instrument, Pattern, Sample, Envelope}

-- The place after a chunk's data.
abbrev pub data_end : ChunkSpan → ℕ
data_end chunk = chunk.at + 8 + chunk.length

-- B1: the data end exactly with the last of n blocks.
abbrev pub fills : List ℕ → BlockKind → ChunkSpan → ℕ → Bool
fills m kind chunk n = eqb (block_at m kind chunk n) (data_end chunk)

abbrev pub filling_rule : List ℕ → BlockKind → ChunkSpan → ℕ → Rule
filling_rule m kind chunk n = rule (fills m kind chunk n) Blocks chunk.at

-- B6: the same for envelopes, if the chunk is present.
abbrev pub envelopes_rule : List ℕ → ChunkSpan → Rule
envelopes_rule m chunk = rule (not chunk.present || fills m Envelope chunk (envelope_count m chunk)) Blocks chunk.at

-- B5: the flags of the sample at a place are 1, 2 or 4.
abbrev pub flags_rules : List ℕ → ChunkSpan → ℕ → List Rule
flags_rules m chunk at = rule (not (eqb (width_of (sample_flags m at)) 0)) Blocks chunk.at ∷ []

-- F14: 11 for SONG, INST, PATT, SMPL, VENV, PENV in this order, whatever the order of the chunks.
abbrev pub block_rules : List ℕ → Layout → List Rule
block_rules m l =
    filling_rule m Song l.spans.song l.songs
    ∷ filling_rule m Instrument l.spans.inst l.instruments
    ∷ filling_rule m Pattern l.spans.patt l.patterns
    ∷ filling_rule m Sample l.spans.smpl l.samples
    ∷ (rules_of_each (flags_rules m l.spans.smpl) (sample_blocks m l)
    ++ (envelopes_rule m l.spans.venv ∷ envelopes_rule m l.spans.penv ∷ []))
