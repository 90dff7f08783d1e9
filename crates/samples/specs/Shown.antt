-- FORMAT.md, B5 and Q11 to Q13 (document 01, "Layout"): a sample and its frames as they are shown. Each answer begins with the refusal's
-- number and place, 0 and 0 if there is none; on a refusal all other fields are 0.
use Rattle.std.specs.Prelude.{ℕ, ◌+◌, ◌*◌, ◌/◌, List, cond, eqb, ltb, ℤ, pos, negsuc, ◌*ℤ◌, Result, Ok, Err}
use Rattle.queries.specs.declared.Block.{Block}
use Rattle.vocabulary.specs.Lists.{joined}
use Rattle.refusal.specs.Numbers.{refusal, no_refusal, refused_outcome}
use Rattle.refusal.specs.declared.Reason.TheVariants.{NotThere}
use Rattle.refusal.specs.declared.Refusal.{Refusal}
use Rattle.refusal.specs.declared.LengthAnswer.{LengthAnswer}
use Rattle.numbers.specs.Numbers.{byte_at, number16, number32, part_of, signed_by, signed16, each_from, bytes16, unsigned16}
use Rattle.blocks.specs.StoredFields.{sample_flags, sample_frames}
use Rattle.blocks.specs.Sizes.{width_of}
use Rattle.blocks.specs.declared.RecordKind.TheVariants.{Sample}
use Rattle.queries.specs.Finding.{found, answer_found, output_found}
use Rattle.samples.specs.declared.SampleAnswer.{SampleAnswer}
use Rattle.samples.specs.declared.FramesAnswer.{FramesAnswer}
use Rattle.samples.specs.declared.FrameAnswer.{FrameAnswer}

-- B5: the bytes of a frame, by the flags.
abbrev pub bytes_per_frame : List ℕ → ℕ → ℕ
bytes_per_frame m at = width_of (sample_flags m at)

abbrev pub no_sample : Refusal → SampleAnswer
no_sample r = record { outcome = refused_outcome r; width = 0; frames = 0 }

-- Q11: the bits of a frame, and the number of frames.
abbrev pub shown_sample : List ℕ → ℕ → SampleAnswer
shown_sample m at = record { outcome = no_refusal; width = 8 * bytes_per_frame m at; frames = sample_frames m at }

abbrev pub sample_if : List ℕ → Result Block Refusal → SampleAnswer
sample_if m (Ok b) = shown_sample m b.at
sample_if m (Err r) = no_sample r

-- Q1: the module's own refusal, then 18, else the sample.
abbrev pub sample_answer : List ℕ → ℕ → SampleAnswer
sample_answer m sample = sample_if m (found m Sample sample)

abbrev pub no_frames : Refusal → FramesAnswer
no_frames r = record { outcome = refused_outcome r; offset = 0; length = 0 }

-- B5, Q12: the frames come after the flags and the number of frames.
abbrev pub shown_frames : List ℕ → ℕ → FramesAnswer
shown_frames m at = record { outcome = no_refusal; offset = at + 8; length = sample_frames m at * bytes_per_frame m at }

abbrev pub frames_if : List ℕ → Result Block Refusal → FramesAnswer
frames_if m (Ok b) = shown_frames m b.at
frames_if m (Err r) = no_frames r

abbrev pub frames_answer : List ℕ → ℕ → FramesAnswer
frames_answer m sample = frames_if m (found m Sample sample)

-- Q12: the frames themselves, as the "part of the module itself"; empty on a refusal.
abbrev pub frames_part : List ℕ → ℕ → List ℕ
frames_part m sample = part_of m (frames_answer m sample).offset (frames_answer m sample).length

-- A whole number divided by 65,536 and rounded down.
abbrev pub divided_down : ℤ → ℤ
divided_down (pos n) = pos (n / 65536)
divided_down (negsuc n) = negsuc (n / 65536)

-- Q13: the frame at a place at 16 bits, by its bytes: 8-bit times 256; 16-bit unchanged; 32-bit divided by 65,536 and rounded down. Frames
-- are signed. (Source document 002 calls them unsigned; 000 decides.)
abbrev pub frame16 : List ℕ → ℕ → ℕ → ℤ
frame16 m bytes at =
    cond (eqb bytes 1) (signed_by 128 (byte_at m at) *ℤ pos 256)
    (cond (eqb bytes 2) (signed16 (number16 m at))
    (divided_down (signed_by 2147483648 (number32 m at))))

-- Q13: a frame of the sample at a place, counted from 0.
abbrev pub frame_of : List ℕ → ℕ → ℕ → ℤ
frame_of m at frame = frame16 m (bytes_per_frame m at) (at + 8 + frame * bytes_per_frame m at)

abbrev pub no_frame : Refusal → FrameAnswer
no_frame r = record { outcome = refused_outcome r; frame = pos 0 }

-- A frame of the sample at a place, or 18 past the last frame.
abbrev pub frame_in : List ℕ → ℕ → ℕ → FrameAnswer
frame_in m at frame =
    cond (ltb frame (sample_frames m at))
    (record { outcome = no_refusal; frame = frame_of m at frame })
    (no_frame (refusal NotThere 0))

abbrev pub frame_if : List ℕ → ℕ → Result Block Refusal → FrameAnswer
frame_if m frame (Ok b) = frame_in m b.at frame
frame_if m frame (Err r) = no_frame r

-- Q1: the module's own refusal, then 18, else the frame.
abbrev pub frame_answer : List ℕ → ℕ → ℕ → FrameAnswer
frame_answer m sample frame = frame_if m frame (found m Sample sample)

-- Q13: all frames of the sample at a place at 16 bits, 2 bytes each.
abbrev pub all_frames_size : List ℕ → ℕ → ℕ
all_frames_size m at = 2 * sample_frames m at

abbrev pub all_frames : List ℕ → ℕ → List ℕ
all_frames m at = joined (each_from (λ frame. bytes16 (unsigned16 (frame_of m at frame))) 0 (sample_frames m at))

-- Q1: the module's own refusal, then 18, then 17, else the length of the frames; and what the output then holds (F8).
abbrev pub all_frames_answer : List ℕ → ℕ → ℕ → LengthAnswer
all_frames_answer m sample room = answer_found (all_frames_size m) room (found m Sample sample)

abbrev pub all_frames_output : List ℕ → ℕ → List ℕ → List ℕ
all_frames_output m sample out = output_found (all_frames_size m) (all_frames m) out (found m Sample sample)
