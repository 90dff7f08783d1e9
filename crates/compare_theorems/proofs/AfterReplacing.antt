-- What differs after a sample is replaced: the sample, unless it had the new frames at 16 bits, and each instrument whose loop was cleared;
-- nothing else.
use Prim.Native.Nat.{ℕ, ◌≤◌}
use Rattle.std.specs.Prelude.{Ok}
use mathlib.Core.Path.{◌≡◌, refl, sym, ap, subst, ◌∙◌}
use mathlib.Core.Logic.{◌↔◌}
use mathlib.Core.List.{List, map}
use mathlib.Core.Bool.{Bool, true, false}
use native.Mathlib.Omega.{arith}
use lib.ListN.{length, get_or}
use lib.Dec.{eqb}
use borrow.Author.Tests.{eqb-true, eqb-false}
use Rattle.vocabulary.specs.Lists.{joined}
use Rattle.vocabulary.proofs.Splits.{Within}
use Rattle.numbers.specs.Numbers.{Bytes, bytes16}
use Rattle.differences.specs.Differences.{whole_difference}
use Rattle.differences.specs.declared.Difference.{Difference}
use Rattle.module.specs.Verdicts.{verdict_of_outline, module_verdict}
use Rattle.envelopes.specs.declared.EnvelopeKind.TheVariants.{Volume, Panning}
use Rattle.samples.specs.Shown.{sample_answer, frames_part}
use Rattle.samples.specs.declared.SampleAnswer.{SampleAnswer}
use Rattle.summary.specs.declared.InfoAnswer.{InfoAnswer}
use Rattle.instruments.specs.Shown.{instrument_answer}
use Rattle.replace.specs.Replaced.{new_frames, replace_answer, sample_replaced}
use Rattle.format.specs.Encoding.{encoded}
use Rattle.format.specs.Shown.{Shows}
use Rattle.format.proofs.Theorems.{encoding-shows}
use Rattle.replace_theorems.specs.ReplacedDescription.{replaced_description}
use Rattle.replace_theorems.proofs.ReplacedBlocks.{new-frames}
use Rattle.replace_theorems.proofs.DescribedCalls.{DescribedCall, described-call}
use Rattle.replace_theorems.proofs.Theorems.{replaced-shows, own-frames-shown, result-bytes, result-accepted}
use Rattle.compare.specs.Compared.{module_differences}
use Rattle.compare_theorems.specs.Differs.{info_numbers, SameSample, Differs}
use Rattle.compare_theorems.specs.ReplacedDiffers.{ShownOutside, ReplacedDiffers}
use Rattle.compare_theorems.proofs.Exact.{differences-exact}
use Rattle.compare_theorems.proofs.ShownAfter.{ReplacedShown, name-stays, info-stays, song-stays, envelope-stays, sizes-stay, field-stays}
use Rattle.compare_theorems.proofs.ShownAfter.{differs-cleared, cleared-differs, sample-stays, sample-width, sample-frames}

module _ (m : List ℕ) (bytes : Bytes m) (sample : ℕ) (new : List ℕ) (room : ℕ) (call : DescribedCall m sample new room) where
  accepted : module_verdict m ≡ Ok tt
  accepted = ap verdict_of_outline call.passed.opens

  abbrev result : List ℕ
  result = sample_replaced m sample new

  shown : ReplacedShown m result sample call.frames
  shown =
      let d = call.description in
      let w = call.well_formed in
      let bytes_of : List ℕ = joined (map bytes16 call.frames) in
      let is : sample_replaced (encoded d) sample bytes_of ≡ result =
      ap (λ (m : List ℕ). sample_replaced m sample bytes_of) call.encodes ∙ ap (sample_replaced m sample) call.stores in
      let limit : length (sample_replaced (encoded d) sample bytes_of) ≤ 16777216 = omega (arith, call.limit, ap length is) in
      let shows = replaced-shows d w sample call.frames call.low call.high call.fits limit in
      record {
        description = d;
        well_formed = w;
        low = call.low;
        high = call.high;
        before = subst (λ (m : List ℕ). Shows m d) call.encodes (encoding-shows d w);
        after = subst (λ (n : List ℕ). Shows n (replaced_description sample call.frames d)) is shows;
      }

  many : length call.frames ≡ new_frames new
  many = sym (new-frames call.frames) ∙ ap new_frames call.stores

  -- A sample of 16 bits that had these frames is the same afterwards. A sample that is the same afterwards had 16 bits and these frames.
  own_same : (sample_answer m sample).width ≡ 16 → frames_part m sample ≡ new → SameSample m result sample
  own_same width frames =
      let is : m ≡ result = sym (own-frames-shown m bytes accepted sample width) ∙ ap (sample_replaced m sample) frames in
      subst (λ (n : List ℕ). SameSample m n sample) is (record { sample = refl; frames = refl })

  sample-width-is : SameSample m result sample → (sample_answer m sample).width ≡ 16
  sample-width-is same = ap (λ (a : SampleAnswer). a.width) same.sample ∙ sample-width shown

  sample-frames-are : SameSample m result sample → frames_part m sample ≡ new
  sample-frames-are same = let parts : frames_part m sample ≡ frames_part result sample = (cc) in parts ∙ sample-frames shown ∙ call.stores

  sample-differs : (number : ℕ) → (SameSample m result number → ⊥) → ReplacedDiffers m sample new (whole_difference 7 number)
  sample-differs number differs = go (eqb number sample) refl
    where
      go : (b : Bool) → eqb number sample ≡ b → ReplacedDiffers m sample new (whole_difference 7 number)
      go true t =
          let is : number ≡ sample = eqb-true number sample t in
          subst (λ (n : ℕ). ReplacedDiffers m sample new (whole_difference 7 n)) (sym is)
          (ReplacedDiffers.other_frames (λ width frames. differs (subst (SameSample m result) (sym is) (own_same width frames))))
      go false t = absurd (differs (sample-stays shown number (eqb-false number sample t)))

  differs-after : (e : Difference) → Differs m result e → ReplacedDiffers m sample new e
  differs-after e (Differs.name_differs differs) = absurd (name-stays shown differs)
  differs-after e (Differs.info_differs field less differs) =
      absurd (differs (ap (λ (a : InfoAnswer). get_or (info_numbers a) field 0) (info-stays shown)))
  differs-after e (Differs.song_differs number differs) = absurd (differs (song-stays shown number))
  differs-after e (Differs.instrument_differs number differs) =
      ReplacedDiffers.cleared_loop number (subst (λ (n : ℕ). ShownOutside sample n (instrument_answer m number)) many
      (differs-cleared shown number differs))
  differs-after e (Differs.volume_envelope_differs number differs) = absurd (envelope-stays shown Volume number differs)
  differs-after e (Differs.panning_envelope_differs number differs) = absurd (envelope-stays shown Panning number differs)
  differs-after e (Differs.sample_differs number differs) = sample-differs number differs
  differs-after e (Differs.pattern_differs number differs) = absurd (differs (sizes-stay shown number))
  differs-after e (Differs.cell_differs number row track field sizes there differs) = absurd (differs (field-stays shown number row track field))

  after-differs : (e : Difference) → ReplacedDiffers m sample new e → Differs m result e
  after-differs e (ReplacedDiffers.other_frames other) = Differs.sample_differs sample (λ same. other (sample-width-is same) (sample-frames-are same))
  after-differs e (ReplacedDiffers.cleared_loop number outside) =
      Differs.instrument_differs number (cleared-differs shown number
      (subst (λ (n : ℕ). ShownOutside sample n (instrument_answer m number)) (sym many) outside))

pub differences-replaced : (m : List ℕ) → Bytes m → (sample : ℕ) (new : List ℕ) → Bytes new → (room : ℕ)
    → (replace_answer m sample new room).outcome.number ≡ 0
    → (d : Difference) → Within (module_differences m (sample_replaced m sample new)) d ↔ ReplacedDiffers m sample new d
differences-replaced m bytes sample new new_bytes room answered d =
    let call = described-call m bytes sample new new_bytes room answered in
    let lists = differences-exact m (sample_replaced m sample new) bytes (result-bytes m bytes sample new new_bytes room answered)
    (accepted m bytes sample new room call) (result-accepted m bytes sample new new_bytes room answered) d in (
      λ within. differs-after m bytes sample new room call d (lists.0 within),
      λ differs. lists.1 (after-differs m bytes sample new room call d differs),
    )
