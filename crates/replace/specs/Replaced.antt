-- FORMAT.md, E1 to E6 (document 02, K1, "Replacing a sample"): the module with the block of one sample replaced, and with the loops cleared
-- that no longer fit it. `new` is the new frames as bytes, 2 for each frame.
use Rattle.std.specs.Prelude.{ℕ, ◌+◌, ◌-◌, ◌/◌, ◌%◌, List, [], ◌∷◌, ◌++◌, map, Bool, cond, ◌&&◌, length, set, replicate, eqb, leb, ltb, ⊤, Result, Ok, Err}
use Rattle.vocabulary.specs.Lists.{joined}
use Rattle.refusal.specs.Numbers.{no_refusal, refused_outcome}
use Rattle.refusal.specs.Rules.{Rule, rule, first_broken}
use Rattle.refusal.specs.Lengths.{output_if}
use Rattle.refusal.specs.declared.LengthAnswer.{LengthAnswer}
use Rattle.refusal.specs.declared.Reason.TheVariants.{TooLong, Room, NotThere, OddFrames}
use Rattle.refusal.specs.declared.Refusal.{Refusal}
use Rattle.numbers.specs.Numbers.{part_of, bytes32}
use Rattle.packed_rows.specs.Entries.{count}
use Rattle.layout.specs.Chunks.{inst_identifier, smpl_identifier, ChunkHeader, chunks, chunks_read, with_content}
use Rattle.layout.specs.declared.Layout.{Layout}
use Rattle.blocks.specs.StoredFields.{instrument_sample, instrument_loop_start, instrument_loop_length}
use Rattle.blocks.specs.Sizes.{size_of, instrument_blocks, sample_blocks}
use Rattle.blocks.specs.declared.BlockKind.TheVariants.{Sample as SampleBlock}
use Rattle.blocks.specs.declared.RecordKind.TheVariants.{Sample}
use Rattle.module.specs.Loops.{is_looped}
use Rattle.module.specs.Verdicts.{opened}
use Rattle.queries.specs.Finding.{there}
use Rattle.replace.specs.declared.ReplaceAnswer.{ReplaceAnswer}

-- E1: a new frame has 2 bytes.
abbrev pub new_frames : List ℕ → ℕ
new_frames new = length new / 2

-- E2: the new block: flags 2, which is 16 bits; the number of frames; and the frames.
abbrev pub new_block : List ℕ → List ℕ
new_block new = bytes32 2 ++ (bytes32 (new_frames new) ++ new)

-- E2: the new data of SMPL: the blocks of the samples in order, with the new block at the sample's number, counted from 1.
abbrev pub sample_block : List ℕ → ℕ → List ℕ
sample_block m at = part_of m at (size_of SampleBlock m at)

abbrev pub replaced_samples : List ℕ → Layout → ℕ → List ℕ → List ℕ
replaced_samples m l sample new = joined (set (map (sample_block m) (sample_blocks m l)) (sample - 1) (new_block new))

-- E3: whether the loop of the instrument at a place is cleared: the instrument is "looped" (V6), it is on that sample, and its loop "no
-- longer fits": start + length, as whole numbers, is over the new number of frames.
abbrev pub loop_cleared : List ℕ → ℕ → ℕ → ℕ → Bool
loop_cleared m sample frames at =
    is_looped m at
    && (eqb (instrument_sample m at) sample && ltb frames (instrument_loop_start m at + instrument_loop_length m at))

-- E3: the instrument's block: with "loop start, loop length and flags 0", and the panning between them as it was; or as it was.
abbrev pub rewritten_instrument : List ℕ → ℕ → ℕ → ℕ → List ℕ
rewritten_instrument m sample frames at =
    cond (loop_cleared m sample frames at)
    (part_of m at 38 ++ (replicate 8 0 ++ (part_of m (at + 46) 2 ++ replicate 2 0)))
    (part_of m at 50)

-- E3: the new data of INST: the blocks of the instruments in order.
abbrev pub rewritten_instruments : List ℕ → Layout → ℕ → ℕ → List ℕ
rewritten_instruments m l sample frames = joined (map (rewritten_instrument m sample frames) (instrument_blocks m l))

-- E4: SMPL and INST have the new data, and every other chunk is the same byte for byte. The new data of INST are as long as the old.
abbrev pub replaced_chunk_bytes : List ℕ → Layout → ℕ → List ℕ → ChunkHeader → List ℕ
replaced_chunk_bytes m l sample new c =
    cond (eqb c.identifier smpl_identifier) (with_content m c (replaced_samples m l sample new))
    (cond (eqb c.identifier inst_identifier) (with_content m c (rewritten_instruments m l sample (new_frames new)))
    (part_of m c.at (8 + c.length)))

-- E4: the header, and the chunks in order.
abbrev pub replaced_module : List ℕ → Layout → ℕ → List ℕ → List ℕ
replaced_module m l sample new = part_of m 0 8 ++ joined (map (replaced_chunk_bytes m l sample new) (chunks_read (chunks m)))

-- E5: "how many instruments were cleared".
abbrev pub cleared_count : List ℕ → Layout → ℕ → ℕ → ℕ
cleared_count m l sample frames = count (map (loop_cleared m sample frames) (instrument_blocks m l))

-- E6: after the module's own refusal: 18, 19, 1 if the result is over the limit, 17 with the result's length.
abbrev pub replace_rules : List ℕ → Layout → ℕ → List ℕ → ℕ → List Rule
replace_rules m l sample new room =
    rule (there m l Sample sample) NotThere 0
    ∷ rule (eqb (length new % 2) 0) OddFrames 0
    ∷ rule (leb (length (replaced_module m l sample new)) 16777216) TooLong 0
    ∷ rule (leb (length (replaced_module m l sample new)) room) Room (length (replaced_module m l sample new))
    ∷ []

-- E5: the answer: the length of the result and the number of instruments that were cleared, both 0 on a refusal.
abbrev pub refused_replace : Refusal → ReplaceAnswer
refused_replace r = record { outcome = refused_outcome r; length = 0; cleared = 0 }

abbrev pub replace_by : List ℕ → Layout → ℕ → List ℕ → Result ⊤ Refusal → ReplaceAnswer
replace_by m l sample new (Ok _) = record {
  outcome = no_refusal;
  length = length (replaced_module m l sample new);
  cleared = cleared_count m l sample (new_frames new);
}
replace_by m l sample new (Err r) = refused_replace r

abbrev pub replace_if : List ℕ → ℕ → List ℕ → ℕ → Result Layout Refusal → ReplaceAnswer
replace_if m sample new room (Ok l) = replace_by m l sample new (first_broken (replace_rules m l sample new room))
replace_if m sample new room (Err r) = refused_replace r

abbrev pub replace_answer : List ℕ → ℕ → List ℕ → ℕ → ReplaceAnswer
replace_answer m sample new room = replace_if m sample new room (opened m)

-- The module with the sample replaced; nothing for a module that is refused.
abbrev pub sample_replaced_if : List ℕ → ℕ → List ℕ → Result Layout Refusal → List ℕ
sample_replaced_if m sample new (Ok l) = replaced_module m l sample new
sample_replaced_if m sample new (Err r) = []

abbrev pub sample_replaced : List ℕ → ℕ → List ℕ → List ℕ
sample_replaced m sample new = sample_replaced_if m sample new (opened m)

-- F8: what the output then holds.
abbrev pub length_part : ReplaceAnswer → LengthAnswer
length_part answer = record { outcome = answer.outcome; length = answer.length }

abbrev pub replace_output_if : List ℕ → ℕ → List ℕ → List ℕ → Result Layout Refusal → List ℕ
replace_output_if m sample new out (Ok l) =
    output_if (length_part (replace_if m sample new (length out) (Ok l))) (replaced_module m l sample new) out
replace_output_if m sample new out (Err r) = out

abbrev pub replace_output : List ℕ → ℕ → List ℕ → List ℕ → List ℕ
replace_output m sample new out = replace_output_if m sample new out (opened m)
