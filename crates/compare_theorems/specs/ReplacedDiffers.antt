-- FORMAT.md, G9 and E3 (document 02, K1 and K2): what differs between a module and the module with a sample replaced, by the answers of the
-- queries about the module before. `new` is the new frames as bytes, 2 for each frame.
use Rattle.std.specs.Prelude.{ℕ, ◌+◌, ◌<◌, ◌≡◌, List}
use Rattle.differences.specs.Differences.{whole_difference}
use Rattle.differences.specs.declared.Difference.{Difference}
use Rattle.samples.specs.Shown.{sample_answer, frames_part}
use Rattle.instruments.specs.Shown.{instrument_answer}
use Rattle.instruments.specs.declared.InstrumentAnswer.{InstrumentAnswer}
use Rattle.replace.specs.Replaced.{new_frames}
use Rattle.replace_theorems.specs.ReplacedDescription.{ShownLooped}

-- E3: an instrument is shown as looped (V6), on this sample, with a loop that ends after this number of frames. Its loop is cleared.
pub record ShownOutside (sample frames : ℕ) (i : InstrumentAnswer) : Type 0 where
  pub looped : ShownLooped i
  pub on_sample : i.sample ≡ sample
  pub outside : frames < i.loop_start + i.loop_length

-- The entries: the sample, unless it had these frames at 16 bits; and each instrument whose loop is cleared.
pub data ReplacedDiffers (m : List ℕ) (sample : ℕ) (new : List ℕ) : Difference → Type 0 where
  other_frames : ((sample_answer m sample).width ≡ 16 → frames_part m sample ≡ new → ⊥) → ReplacedDiffers m sample new (whole_difference 7 sample)
  cleared_loop : (number : ℕ) → ShownOutside sample (new_frames new) (instrument_answer m number)
      → ReplacedDiffers m sample new (whole_difference 4 number)
