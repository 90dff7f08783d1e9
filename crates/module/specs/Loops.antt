-- The rules of a module, first of three statements: what the contracts cite, in the order of the refusals. Here: 14, the loops.
-- FORMAT.md, V6 and F16 (document 01, "Layout").
use Rattle.std.specs.Prelude.{ℕ, ◌+◌, ◌-◌, List, [], ◌∷◌, Bool, true, false, cond, not, ◌&&◌, ◌||◌, eqb, leb}
use Rattle.refusal.specs.Rules.{Rule, rule, rules_of_each}
use Rattle.refusal.specs.declared.Reason.TheVariants.{Loop}
use Rattle.layout.specs.declared.ChunkSpan.{ChunkSpan}
use Rattle.layout.specs.declared.Layout.{Layout}
use Rattle.blocks.specs.StoredFields.{instrument_sample, instrument_loop_start, instrument_loop_length, instrument_flags, sample_frames}
use Rattle.blocks.specs.Sizes.{block_at, instrument_blocks}
use Rattle.blocks.specs.declared.BlockKind.TheVariants.{Sample}
use Rattle.fields.specs.Fields.{bit0, bit1}

-- B3: the kind of a loop: bit 0 is "forward", bit 1 "ping-pong", and bit 0 wins.
pub data LoopKind : Type 0 where
  no_loop forward ping_pong : LoopKind

abbrev pub loop_kind : ℕ → ℕ → LoopKind
loop_kind flags length = cond (eqb length 0) no_loop (cond (bit0 flags) forward (cond (bit1 flags) ping_pong no_loop))

-- V6, document 01's "looped" instrument: the loop length is not 0, and bit 0 or 1 is set.
abbrev pub is_loop : LoopKind → Bool
is_loop no_loop = false
is_loop forward = true
is_loop ping_pong = true

abbrev pub is_looped : List ℕ → ℕ → Bool
is_looped m at = is_loop (loop_kind (instrument_flags m at) (instrument_loop_length m at))

-- The number of frames of a sample; samples are counted from 1.
abbrev pub frames_of_sample : List ℕ → ChunkSpan → ℕ → ℕ
frames_of_sample m chunk sample = sample_frames m (block_at m Sample chunk (sample - 1))

-- V6: if the instrument is looped, its sample is not 0, and start + length, as whole numbers, is at most the frames of the sample.
abbrev pub loop_fits : List ℕ → ChunkSpan → ℕ → Bool
loop_fits m chunk at =
    not (is_looped m at)
    || (leb 1 (instrument_sample m at)
    && leb (instrument_loop_start m at + instrument_loop_length m at) (frames_of_sample m chunk (instrument_sample m at)))

-- F16: 14 by instrument.
abbrev pub instrument_loop_rules : List ℕ → ChunkSpan → ℕ → List Rule
instrument_loop_rules m chunk at = rule (loop_fits m chunk at) Loop at ∷ []

abbrev pub loop_rules : List ℕ → Layout → List Rule
loop_rules m l = rules_of_each (instrument_loop_rules m l.spans.smpl) (instrument_blocks m l)
