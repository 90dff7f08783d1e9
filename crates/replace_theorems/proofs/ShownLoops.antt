-- In the encoding of a well-formed description, every loop that is shown lies within the frames that are shown for its sample.
use Prim.Native.Nat.{ℕ, ◌-◌, ◌≤◌, ◌<◌}
use mathlib.Core.Path.{◌≡◌, refl, sym, ap, subst, ◌∙◌}
use mathlib.Core.Bool.{Bool, true, false, cond, ◌&&◌}
use native.Mathlib.Omega.{arith}
use lib.ListN.{length, get_or}
use lib.Dec.{leb, ltb}
use borrow.Author.Tests.{le-leb, lt-ltb, ltb-true}
use Rattle.vocabulary.proofs.EveryOne.{every-at}
use Rattle.acceptance.proofs.Holding.{and-says}
use Rattle.samples.specs.Shown.{sample_answer}
use Rattle.samples.specs.declared.SampleAnswer.{SampleAnswer}
use Rattle.instruments.specs.Shown.{no_instrument}
use Rattle.instruments.specs.declared.InstrumentAnswer.{InstrumentAnswer}
use Rattle.format.specs.Description.{Instrument, Description}
use Rattle.format.specs.Encoding.{encoded}
use Rattle.format.specs.WellFormed.{frames_of, InstrumentFits, WellFormed}
use Rattle.format.specs.Shown.{not_there, empty_instrument, described_instrument, Shows}
use Rattle.format.proofs.Theorems.{encoding-shows}
use Rattle.replace_theorems.specs.ReplacedDescription.{ShownLooped, LoopInside, LoopsInside}

module _ (d : Description) (w : WellFormed d) where
  shows : Shows (encoded d) d
  shows = encoding-shows d w

  -- The number of frames that is shown for a sample.
  frames-shown : (number : ℕ) → 1 ≤ number → number ≤ length w.samples
      → (sample_answer (encoded d) number).frames ≡ frames_of w.samples number
  frames-shown number low high =
      let inside : number - 1 < length w.samples = omega arith in
      ap (λ (a : SampleAnswer). a.frames) (shows.sample w.samples w.samples_there number)
      ∙ rw (le-leb 1 number low, lt-ltb (number - 1) (length w.samples) inside) refl

  abbrev Inside : InstrumentAnswer → Type 0
  Inside a = ShownLooped a → LoopInside (encoded d) a

  described-inside : (i : Instrument) → InstrumentFits w.samples i → Inside (described_instrument i)
  described-inside i f looped =
      let (low, fits) = f.loop looped in
      (low, omega (arith, fits, frames-shown i.sample low f.sample))

  shown-inside : (number : ℕ) (b : Bool) → leb 1 number && ltb (number - 1) (length w.instruments) ≡ b
      → Inside (cond b (described_instrument (get_or w.instruments (number - 1) empty_instrument)) (no_instrument not_there))
  shown-inside number true e =
      let counted = ((and-says (leb 1 number) (ltb (number - 1) (length w.instruments))).0 e).1 in
      let inside : number - 1 < length w.instruments = ltb-true (number - 1) (length w.instruments) counted in
      described-inside (get_or w.instruments (number - 1) empty_instrument)
      (every-at (number - 1) empty_instrument inside w.lists.instruments_fit)
  shown-inside number false e = λ looped. absurd (omega (arith, looped.0))

  pub loops-inside : LoopsInside (encoded d)
  loops-inside number shown =
      subst Inside (sym (shows.instrument w.instruments w.instruments_there number)) (shown-inside number _ refl)
