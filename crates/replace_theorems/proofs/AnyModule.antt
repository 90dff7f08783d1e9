-- Every call that replaces a sample and is not refused (`DescribedCalls`): the result is accepted, its loops lie within their samples, and the
-- answer counts the instruments that are shown differently.
use Prim.Native.Nat.{ℕ, ◌≤◌}
use Rattle.std.specs.Prelude.{⊤, Result, Ok}
use Rattle.refusal.specs.declared.Refusal.{Refusal}
use mathlib.Core.Path.{◌≡◌, sym, ap, subst, ◌∙◌}
use mathlib.Core.List.{List, map}
use native.Mathlib.Omega.{arith}
use lib.ListN.{length}
use Rattle.vocabulary.specs.Lists.{joined, Every}
use Rattle.numbers.specs.Numbers.{Bytes, each_from, bytes16}
use Rattle.layout.specs.declared.Layout.{Layout}
use Rattle.module.specs.Verdicts.{module_verdict}
use Rattle.replace.specs.Replaced.{new_frames, cleared_count, replace_by, replace_if, replace_answer, sample_replaced}
use Rattle.summary.specs.Shown.{info_answer}
use Rattle.summary.specs.declared.InfoAnswer.{InfoAnswer}
use Rattle.instruments.specs.Shown.{instrument_answer}
use Rattle.format.specs.Description.{Description}
use Rattle.format.specs.Encoding.{encoded}
use Rattle.format.specs.WellFormed.{Fits16, WellFormed}
use Rattle.format.proofs.Theorems.{encoding-bytes, encoding-accepted, encoding-shows}
use Rattle.replace_theorems.specs.ReplacedDescription.{replaced_description, LoopsInside, Differing}
use Rattle.replace_theorems.proofs.ReplacedModule.{replaced-encoded}
use Rattle.replace_theorems.proofs.ReplacedWellFormed.{replaced-well-formed}
use Rattle.replace_theorems.proofs.ShownLoops.{loops-inside}
use Rattle.replace_theorems.proofs.ClearedRecords.{cleared-differ}
use Rattle.replace_theorems.proofs.DescribedCalls.{Passed, described-call}

-- What holds for the result.
pub record ResultOf (m : List ℕ) (sample : ℕ) (new : List ℕ) (room : ℕ) : Type 0 where
  pub bytes : Bytes (sample_replaced m sample new)
  pub accepted : module_verdict (sample_replaced m sample new) ≡ Ok tt
  pub inside : LoopsInside (sample_replaced m sample new)
  pub cleared : Differing (each_from (instrument_answer m) 1 (info_answer m).instruments)
      (each_from (instrument_answer (sample_replaced m sample new)) 1 (info_answer m).instruments)
      (replace_answer m sample new room).cleared

-- The call for the encoding of a description, with frames of 16 bits.
module _ (d : Description) (w : WellFormed d) (sample : ℕ) (low : 1 ≤ sample) (high : sample ≤ length w.samples)
    (frames : List ℕ) (fits : Every Fits16 frames) (room : ℕ) where
  abbrev bytes_of : List ℕ
  bytes_of = joined (map bytes16 frames)

  passed-result : Passed (encoded d) sample bytes_of room → length (sample_replaced (encoded d) sample bytes_of) ≤ 16777216
      → ResultOf (encoded d) sample bytes_of room
  passed-result passed limit =
      let l : Layout = passed.layout in
      let same = replaced-encoded d w sample frames in
      let new = replaced-well-formed d w sample low high frames fits limit in
      let answer : (replace_answer (encoded d) sample bytes_of room).cleared
      ≡ cleared_count (encoded d) l sample (new_frames bytes_of) =
      ap (λ (o : Result Layout Refusal). (replace_if (encoded d) sample bytes_of room o).cleared) passed.opens
      ∙ ap (λ (v : Result ⊤ Refusal). (replace_by (encoded d) l sample bytes_of v).cleared) passed.held in
      let many : (info_answer (encoded d)).instruments ≡ w.info.instruments =
      ap (λ (a : InfoAnswer). a.instruments) ((encoding-shows d w).info w.info w.info_there) in
      record {
        bytes = subst Bytes (sym same) (encoding-bytes (replaced_description sample frames d) new);
        accepted = ap module_verdict same ∙ encoding-accepted (replaced_description sample frames d) new;
        inside = subst LoopsInside (sym same) (loops-inside (replaced_description sample frames d) new);
        cleared = rw (many, answer) (cleared-differ d w sample low high frames fits limit l passed.opens);
      }

-- For every module and new frames that are bytes.
pub replaced-result : (m : List ℕ) → Bytes m → (sample : ℕ) (new : List ℕ) → Bytes new → (room : ℕ)
    → (replace_answer m sample new room).outcome.number ≡ 0
    → ResultOf m sample new room
replaced-result m bytes sample new new_bytes room ok =
    let call = described-call m bytes sample new new_bytes room ok in
    let d = call.description in
    let stored : List ℕ = joined (map bytes16 call.frames) in
    let is : sample_replaced (encoded d) sample stored ≡ sample_replaced m sample new =
    ap (λ (m : List ℕ). sample_replaced m sample stored) call.encodes ∙ ap (sample_replaced m sample) call.stores in
    subst (λ (new : List ℕ). ResultOf m sample new room) call.stores
    (subst (λ (m : List ℕ). ResultOf m sample stored room) call.encodes
    (passed-result d call.well_formed sample call.low call.high call.frames call.fits room
    (subst (λ (m : List ℕ). Passed m sample stored room) (sym call.encodes)
    (subst (λ (new : List ℕ). Passed m sample new room) (sym call.stores) call.passed))
    (omega (arith, call.limit, ap length is))))
