-- The theorems about replacing a sample.
--
-- 20. For every well-formed description and every list of frames that fit 16 bits: replacing a sample in the encoding of the description,
--     by the frames stored as 2 bytes each, gives the encoding of the same description with that sample replaced (`replaced_description`).
--     The sample has these frames at 16 bits. Each instrument that is looped, is on that sample and has a loop that ends after these
--     frames has loop start, loop length and flags 0. All else is the same.
--     If there is a sample with that number, and the result has at most 16,777,216 bytes, the new description is well formed. So the
--     result is a list of bytes, the check accepts it, and every query shows what the new description says.
--     The result is no longer than the module and the new frames together, so an output of that length is always enough.
--     The number of cleared instruments, which is counted in the module before, is the number of instruments that are then shown
--     differently.
--     A sample of 16 bits that is replaced by its own frames gives the module itself; also by the width and the frames that are shown.
--     In the encoding of a well-formed description, the loop of every instrument that is shown as looped lies within the frames that are
--     shown for its sample. So it does in the result.
--     Every even number of bytes is such frames. So for all bytes: if the call is not refused, the result is a list of bytes, the check
--     accepts it, every loop that is shown lies within its sample, and the answer's number of cleared instruments is the number of
--     instruments that are then shown differently.
--
-- 27. Some thirty calls on small modules, computed as one table: which refusal is given, at which place, which of two comes first, the
--     length, the number of cleared instruments, and what the output then holds. Number 1 is given for every result that is too long.
--
-- The result is `sample_replaced`, the number of cleared instruments is `cleared_count`, the answer is `replace_answer` and the check is
-- `module_verdict`. The contracts cite these, and also the answers in `Shows`, `LoopsInside` and `Differing`.
use Prim.Native.Nat.{ℕ, ◌+◌, ◌-◌, ◌%◌, ◌≤◌, ◌<◌}
use Rattle.std.specs.Prelude.{Ok}
use mathlib.Core.Path.{◌≡◌, sym, ap, subst, ◌∙◌}
use mathlib.Core.List.{List, map}
use mathlib.Core.Bool.{true}
use lib.ListN.{length, get_or}
use Rattle.vocabulary.specs.Lists.{joined, Every}
use Rattle.numbers.specs.Numbers.{Bytes, each_from, bytes16}
use Rattle.layout.specs.declared.Layout.{Layout}
use Rattle.blocks.specs.declared.RecordKind.TheVariants.{Sample}
use Rattle.module.specs.Verdicts.{opened, module_verdict}
use Rattle.queries.specs.Finding.{there}
use Rattle.replace.specs.Replaced.{new_frames, replaced_module, cleared_count, replace_answer, sample_replaced}
use Rattle.samples.specs.Shown.{sample_answer, frames_part}
use Rattle.summary.specs.Shown.{info_answer}
use Rattle.instruments.specs.Shown.{instrument_answer}
use Rattle.format.specs.Description.{sixteen, Description}
use Rattle.format.specs.Encoding.{encoded}
use Rattle.format.specs.WellFormed.{Fits16, empty_sample, WellFormed}
use Rattle.format.specs.Shown.{stored_frames, Shows}
use Rattle.format.proofs.Theorems.{encoding-bytes, encoding-accepted, encoding-shows}
use Rattle.replace_theorems.specs.ReplacedDescription.{replaced_description, LoopsInside, Differing}
use Rattle.replace_theorems.proofs.ReplacedModule as ReplacedModule
use Rattle.replace_theorems.proofs.ReplacedWellFormed as ReplacedWellFormed
use Rattle.replace_theorems.proofs.ClearedRecords as ClearedRecords
use Rattle.replace_theorems.proofs.OwnFrames as OwnFrames
use Rattle.replace_theorems.proofs.ShownLoops as ShownLoops
use Rattle.replace_theorems.proofs.NewFrames as NewFrames
use Rattle.replace_theorems.proofs.ResultLength as ResultLength
use Rattle.replace_theorems.proofs.AnyModule as AnyModule
use Rattle.replace_theorems.proofs.WorkedReplacements as WorkedReplacements
use Rattle.replace_theorems.proofs.WorkedReplacements.{WorkedReplacement, worked_replacements}

-- Theorem 20.
module _ (d : Description) (w : WellFormed d) (sample : ℕ) where
  module _ (frames : List ℕ) where
    abbrev new : List ℕ
    new = joined (map bytes16 frames)

    abbrev result : List ℕ
    result = sample_replaced (encoded d) sample new

    abbrev description : Description
    description = replaced_description sample frames d

    pub replaced-encoded : result ≡ encoded (replaced_description sample frames d)
    replaced-encoded = ReplacedModule.replaced-encoded d w sample frames

    module _ (low : 1 ≤ sample) (high : sample ≤ length w.samples) (fits : Every Fits16 frames)
        (limit : length result ≤ 16777216) where
      pub replaced-well-formed : WellFormed (replaced_description sample frames d)
      replaced-well-formed = ReplacedWellFormed.replaced-well-formed d w sample low high frames fits limit

      pub replaced-bytes : Bytes result
      replaced-bytes = subst Bytes (sym replaced-encoded) (encoding-bytes description replaced-well-formed)

      pub replaced-accepted : module_verdict result ≡ Ok tt
      replaced-accepted = ap module_verdict replaced-encoded ∙ encoding-accepted description replaced-well-formed

      pub replaced-shows : Shows result (replaced_description sample frames d)
      replaced-shows =
          subst (λ (m : List ℕ). Shows m description) (sym replaced-encoded) (encoding-shows description replaced-well-formed)

      pub replaced-loops-inside : LoopsInside result
      replaced-loops-inside = subst LoopsInside (sym replaced-encoded) (ShownLoops.loops-inside description replaced-well-formed)

      pub cleared-differ : (l : Layout) → opened (encoded d) ≡ Ok l
          → Differing (each_from (instrument_answer (encoded d)) 1 w.info.instruments)
          (each_from (instrument_answer result) 1 w.info.instruments)
          (cleared_count (encoded d) l sample (new_frames new))
      cleared-differ = ClearedRecords.cleared-differ d w sample low high frames fits limit

  pub result-no-longer : 1 ≤ sample → sample ≤ length w.samples → (new : List ℕ)
      → length (sample_replaced (encoded d) sample new) ≤ length (encoded d) + length new
  result-no-longer = ResultLength.result-no-longer d w sample

  pub own-frames : (get_or w.samples (sample - 1) empty_sample).width ≡ sixteen
      → sample_replaced (encoded d) sample (stored_frames (get_or w.samples (sample - 1) empty_sample)) ≡ encoded d
  own-frames = OwnFrames.own-frames d w sample

pub own-frames-shown : (m : List ℕ) → Bytes m → module_verdict m ≡ Ok tt → (sample : ℕ) → (sample_answer m sample).width ≡ 16
    → sample_replaced m sample (frames_part m sample) ≡ m
own-frames-shown = OwnFrames.own-frames-shown

pub loops-inside : (d : Description) → WellFormed d → LoopsInside (encoded d)
loops-inside = ShownLoops.loops-inside

pub frames-from-bytes : (new : List ℕ) → Bytes new → length new % 2 ≡ 0
    → (frames : List ℕ) × Every Fits16 frames × (joined (map bytes16 frames) ≡ new)
frames-from-bytes = NewFrames.frames-from-bytes

module _ (m : List ℕ) (bytes : Bytes m) (sample : ℕ) (new : List ℕ) (new_bytes : Bytes new) (room : ℕ)
    (answered : (replace_answer m sample new room).outcome.number ≡ 0) where
  pub result-bytes : Bytes (sample_replaced m sample new)
  result-bytes = (AnyModule.replaced-result m bytes sample new new_bytes room answered).bytes

  pub result-accepted : module_verdict (sample_replaced m sample new) ≡ Ok tt
  result-accepted = (AnyModule.replaced-result m bytes sample new new_bytes room answered).accepted

  pub result-loops-inside : LoopsInside (sample_replaced m sample new)
  result-loops-inside = (AnyModule.replaced-result m bytes sample new new_bytes room answered).inside

  pub result-cleared-differ : Differing (each_from (instrument_answer m) 1 (info_answer m).instruments)
      (each_from (instrument_answer (sample_replaced m sample new)) 1 (info_answer m).instruments)
      (replace_answer m sample new room).cleared
  result-cleared-differ = (AnyModule.replaced-result m bytes sample new new_bytes room answered).cleared

-- Theorem 27.
pub replacements-agree : map (λ (w : WorkedReplacement). w.found) worked_replacements ≡ map (λ (w : WorkedReplacement). w.said) worked_replacements
replacements-agree = WorkedReplacements.replacements-agree

pub result-too-long : (m : List ℕ) (l : Layout) (sample : ℕ) (new : List ℕ) (room : ℕ) → opened m ≡ Ok l
    → there m l Sample sample ≡ true → length new % 2 ≡ 0 → 16777216 < length (replaced_module m l sample new)
    → replace_answer m sample new room ≡ record { outcome = record { number = 1; place = 0 }; length = 0; cleared = 0 }
result-too-long = WorkedReplacements.result-too-long
