-- The answer, by the verdict on the rules of the call.
use Prim.Native.Nat.{ℕ, ◌-◌, ◌%◌, ◌≤◌, ◌<◌}
use Rattle.std.specs.Prelude.{⊤, Result, Ok, Err}
use mathlib.Core.Path.{◌≡◌, refl, sym, ap, ◌∙◌}
use mathlib.Core.Logic.{◌≢◌}
use mathlib.Core.List.{List, ◌++◌}
use mathlib.Core.Bool.{true, false}
use lib.ListN.{length, drop}
use lib.Dec.{eqb}
use borrow.Author.Tests.{eq-eqb, ne_eqb, le-leb, lt-leb}
use Rattle.refusal.specs.Numbers.{refusal, no_refusal, number_of}
use Rattle.refusal.specs.Rules.{first_broken}
use Rattle.refusal.specs.declared.Outcome.{Outcome}
use Rattle.refusal.specs.declared.Reason.{Reason}
use Rattle.refusal.specs.declared.Reason.TheVariants.{TooLong, Room, NotThere, OddFrames}
use Rattle.refusal.specs.declared.Refusal.{Refusal}
use Rattle.layout.specs.declared.Layout.{Layout}
use Rattle.blocks.specs.Sizes.{block_at}
use Rattle.blocks.specs.declared.BlockKind.TheVariants.{Sample as SampleBlock}
use Rattle.blocks.specs.declared.RecordKind.TheVariants.{Sample}
use Rattle.module.specs.Verdicts.{opened}
use Rattle.queries.specs.Finding.{there, found_in}
use Rattle.queries.specs.declared.Block.{Block}
use Rattle.queries.proofs.Numbering.{found-there, not-there}
use Rattle.replace.specs.Replaced.{new_frames, replaced_module, cleared_count, replace_rules, refused_replace, replace_if, replace_answer}
use Rattle.replace.specs.Replaced.{replace_output_if, replace_output}
use Rattle.replace.specs.declared.ReplaceAnswer.{ReplaceAnswer}

module _ (m : List ℕ) (l : Layout) (sample : ℕ) (new out : List ℕ) where
  abbrev result : List ℕ
  result = replaced_module m l sample new

  abbrev verdict : Result ⊤ Refusal
  verdict = first_broken (replace_rules m l sample new (length out))

  -- The answer and the output are those of the call.
  abbrev pub Answered : ReplaceAnswer → List ℕ → Type 0
  Answered answer out' = (answer ≡ replace_if m sample new (length out) (Ok l)) × (out' ≡ replace_output_if m sample new out (Ok l))

  refused-by : (reason : Reason) (place : ℕ) → eqb (number_of reason) 0 ≡ false → verdict ≡ Err (refusal reason place)
      → {answer : ReplaceAnswer} → answer ≡ refused_replace (refusal reason place)
      → Answered answer out
  refused-by reason place some v e = rw (v, some) (e, refl)

  -- 18.
  pub lacks-sample : there m l Sample sample ≡ false → {answer : ReplaceAnswer} → answer ≡ refused_replace (refusal NotThere 0) → Answered answer out
  lacks-sample t = refused-by NotThere 0 refl (rw t refl)

  module _ (t : there m l Sample sample ≡ true) where
    -- 19.
    pub odd-frames : length new % 2 ≢ 0 → {answer : ReplaceAnswer} → answer ≡ refused_replace (refusal OddFrames 0) → Answered answer out
    odd-frames odd = refused-by OddFrames 0 refl (rw (t, ne_eqb (length new % 2) 0 odd) refl)

    module _ (even : length new % 2 ≡ 0) where
      -- 1.
      pub too-long : 16777216 < length result → {answer : ReplaceAnswer} → answer ≡ refused_replace (refusal TooLong 0) → Answered answer out
      too-long long = refused-by TooLong 0 refl (rw (t, eq-eqb (length new % 2) 0 even, lt-leb (length result) 16777216 long) refl)

      module _ (short : length result ≤ 16777216) where
        -- 17.
        pub lacks-room : length out < length result → {needed : ℕ} → needed ≡ length result
            → {answer : ReplaceAnswer} → answer ≡ refused_replace (refusal Room needed)
            → Answered answer out
        lacks-room less size e =
            refused-by Room (length result) refl
            (rw (t, eq-eqb (length new % 2) 0 even, le-leb (length result) 16777216 short, lt-leb (length result) (length out) less) refl)
            (e ∙ ap (λ (k : ℕ). refused_replace (refusal Room k)) size)

        pub replaced : length result ≤ length out → {n cleared : ℕ} → n ≡ length result → cleared ≡ cleared_count m l sample (new_frames new)
            → {outcome : Outcome} → outcome ≡ no_refusal → {out' : List ℕ} → out' ≡ result ++ drop (length result) out
            → Answered (record { outcome = outcome; length = n; cleared = cleared }) out'
        replaced fits size counted none written =
            let passed : verdict ≡ Ok tt =
            rw (t, eq-eqb (length new % 2) 0 even, le-leb (length result) 16777216 short, le-leb (length result) (length out) fits) refl in
            rw (passed, size, counted, none) (refl, written)

-- A sample that was found, and one that was not.
module _ (m : List ℕ) (l : Layout) (sample : ℕ) where
  pub sample-found : {f : Result Block Refusal} {b : Block} → f ≡ found_in m l Sample sample → f ≡ Ok b
      → (there m l Sample sample ≡ true) × (b.at ≡ block_at m SampleBlock l.spans.smpl (sample - 1))
  sample-found {f} {b} e g = let (t, is) = found-there m l Sample sample b (sym e ∙ g) in (t, ap (λ (block : Block). block.at) is)

  pub sample-lacking : {f : Result Block Refusal} {r : Refusal} → f ≡ found_in m l Sample sample → f ≡ Err r
      → (there m l Sample sample ≡ false) × (r ≡ refusal NotThere 0)
  sample-lacking {f} {r} e g = not-there m l Sample sample r (sym e ∙ g)

-- The answer by the opened module.
module _ (m : List ℕ) (sample : ℕ) (new out : List ℕ) where
  pub by-outline : {o : Result Layout Refusal} → opened m ≡ o → {answer : ReplaceAnswer} {out' : List ℕ}
      → (answer ≡ replace_if m sample new (length out) o) × (out' ≡ replace_output_if m sample new out o)
      → (answer ≡ replace_answer m sample new (length out)) × (out' ≡ replace_output m sample new out)
  by-outline e both = rw e both
