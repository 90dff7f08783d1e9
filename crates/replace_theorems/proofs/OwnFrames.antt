-- A sample of 16 bits that is replaced by its own frames: the description and the module are unchanged.
use Prim.Native.Nat.{ℕ, ◌-◌, ◌*◌}
use Rattle.std.specs.Prelude.{Ok}
use mathlib.Core.Path.{◌≡◌, refl, sym, ap, subst, ◌∙◌}
use mathlib.Core.List.{List, [], map}
use mathlib.Core.Bool.{Bool, true, false, cond, ◌&&◌}
use native.Mathlib.Omega.{arith}
use lib.ListN.{length, get_or, set}
use lib.Seq.{set-get_or}
use lib.Dec.{leb, ltb}
use Rattle.vocabulary.specs.Lists.{joined}
use Rattle.vocabulary.proofs.EveryOne.{every_of}
use Rattle.vocabulary.proofs.MappedLists.{map-stays}
use Rattle.numbers.specs.Numbers.{Bytes, bytes16}
use Rattle.module.specs.Verdicts.{module_verdict}
use Rattle.acceptance.specs.Rules.{Covered}
use Rattle.replace.specs.Replaced.{sample_replaced}
use Rattle.samples.specs.Shown.{no_sample, sample_answer, frames_part}
use Rattle.samples.specs.declared.SampleAnswer.{SampleAnswer}
use Rattle.format.specs.Description.{Instrument, Width, eight, sixteen, thirty_two, Sample}
use Rattle.format.specs.Description.{Chunk, NAME, INFO, SONG, INST, PATT, SMPL, VENV, PENV, Other, Description}
use Rattle.format.specs.Encoding.{flags_of, frame_bytes, encoded}
use Rattle.format.specs.WellFormed.{empty_sample, frames_of, In, InstrumentFits, WellFormed}
use Rattle.format.specs.Shown.{not_there, described_sample, stored_frames}
use Rattle.format.proofs.ChunksIn.{every_in, in-once}
use Rattle.format.proofs.Theorems.{encoding-shows, accepted-encoded}
use Rattle.replace_theorems.specs.ReplacedDescription.{sixteen_bit, loop_outside, without_loop, cleared_instrument}
use Rattle.replace_theorems.specs.ReplacedDescription.{replaced_chunk, replaced_description}
use Rattle.replace_theorems.proofs.ReplacedModule.{replaced-encoded}
use Rattle.replace_theorems.proofs.ReplacedWellFormed.{outside-says}

module _ (d : Description) (w : WellFormed d) (sample : ℕ)
    (own : (get_or w.samples (sample - 1) empty_sample).width ≡ sixteen) where
  abbrev s : Sample
  s = get_or w.samples (sample - 1) empty_sample

  abbrev frames : List ℕ
  frames = s.frames

  -- No loop is outside its own sample.
  not-cleared : (i : Instrument) → InstrumentFits w.samples i → cleared_instrument sample (length frames) i ≡ i
  not-cleared i f = go (loop_outside sample (length frames) i) refl
    where
      go : (b : Bool) → loop_outside sample (length frames) i ≡ b → cond b (without_loop i) i ≡ i
      go true e =
          let (looped, on) = (outside-says sample (length frames) i).0 e in
          absurd (omega (arith, (f.loop looped).1, on.1, ap (frames_of w.samples) on.0))
      go false e = refl

  instruments-same : map (cleared_instrument sample (length frames)) w.instruments ≡ w.instruments
  instruments-same = map-stays (cleared_instrument sample (length frames)) (every_of not-cleared w.lists.instruments_fit)

  samples-same : set w.samples (sample - 1) (sixteen_bit frames) ≡ w.samples
  samples-same =
      let itself : sixteen_bit frames ≡ s = ap (λ (width : Width). record { width = width; frames = frames }) (sym own) in
      ap (set w.samples (sample - 1)) itself ∙ set-get_or w.samples (sample - 1) empty_sample

  chunk-same : (c : Chunk) → In d.chunks c → replaced_chunk sample frames c ≡ c
  chunk-same (NAME name) i = refl
  chunk-same (INFO info) i = refl
  chunk-same (SONG list) i = refl
  chunk-same (INST list) i =
      let same : w.instruments ≡ list = cc (in-once w.once w.instruments_there i Covered.inst refl) in
      ap INST
      (subst (λ (list : List Instrument). map (cleared_instrument sample (length frames)) list ≡ list) same instruments-same)
  chunk-same (PATT list) i = refl
  chunk-same (SMPL list) i =
      let same : w.samples ≡ list = cc (in-once w.once w.samples_there i Covered.smpl refl) in
      ap SMPL (subst (λ (list : List Sample). set list (sample - 1) (sixteen_bit frames) ≡ list) same samples-same)
  chunk-same (VENV list) i = refl
  chunk-same (PENV list) i = refl
  chunk-same (Other letters bytes) i = refl

  description-same : replaced_description sample frames d ≡ d
  description-same =
      ap (λ (chunks : List Chunk).
      record { version = d.version; revision = d.revision; reserved = d.reserved; chunks = chunks })
      (map-stays (replaced_chunk sample frames) (every_in d.chunks chunk-same))

  pub own-frames : sample_replaced (encoded d) sample (stored_frames (get_or w.samples (sample - 1) empty_sample)) ≡ encoded d
  own-frames =
      let stored : stored_frames s ≡ joined (map bytes16 frames) =
      ap (λ (width : Width). joined (map (frame_bytes width) frames)) own in
      ap (sample_replaced (encoded d) sample) stored ∙ replaced-encoded d w sample frames ∙ ap encoded description-same

-- The same by the answers of the queries.
width-sixteen : (width : Width) → 8 * flags_of width ≡ 16 → width ≡ sixteen
width-sixteen eight e = absurd (omega arith)
width-sixteen sixteen e = refl
width-sixteen thirty_two e = absurd (omega arith)

module _ (d : Description) (w : WellFormed d) (sample : ℕ) where
  abbrev old : Sample
  old = get_or w.samples (sample - 1) empty_sample

  own-part : (sample_answer (encoded d) sample).width ≡ 16
      → sample_replaced (encoded d) sample (frames_part (encoded d) sample) ≡ encoded d
  own-part shown =
      let shows = encoding-shows d w in
      let answer = shows.sample w.samples w.samples_there sample in
      go (leb 1 sample && ltb (sample - 1) (length w.samples)) (ap (λ (a : SampleAnswer). a.width) (sym answer) ∙ shown)
      (shows.frames w.samples w.samples_there sample).bytes
    where
      go : (b : Bool) → (cond b (described_sample old) (no_sample not_there)).width ≡ 16
          → frames_part (encoded d) sample ≡ cond b (stored_frames old) []
          → sample_replaced (encoded d) sample (frames_part (encoded d) sample) ≡ encoded d
      go true e part = ap (sample_replaced (encoded d) sample) part ∙ own-frames d w sample (width-sixteen old.width e)
      go false e part = absurd (omega (arith, e))

pub own-frames-shown : (m : List ℕ) → Bytes m → module_verdict m ≡ Ok tt → (sample : ℕ) → (sample_answer m sample).width ≡ 16
    → sample_replaced m sample (frames_part m sample) ≡ m
own-frames-shown m bytes accepted sample =
    let (d, w, is) = accepted-encoded m bytes accepted in
    subst (λ (m : List ℕ). (sample_answer m sample).width ≡ 16 → sample_replaced m sample (frames_part m sample) ≡ m) is
    (own-part d w sample)
