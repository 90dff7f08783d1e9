-- A description with a sample replaced is well formed, if its encoding is within the limit: the new sample fits, and so does every
-- instrument, because its loop is cleared or lies within its sample.
use Prim.Native.Nat.{ℕ, ◌+◌, ◌-◌, ◌≤◌, ◌<◌}
use mathlib.Core.Path.{◌≡◌, refl, sym, ap, subst, ◌∙◌}
use mathlib.Core.Logic.Iff
use mathlib.Core.Logic.{◌↔◌}
use mathlib.Core.List.{List, map}
use mathlib.Core.Bool.{Bool, true, false, cond, ◌||◌}
use native.Mathlib.Omega.{arith}
use lib.ListN.{length, get_or, set, length-map, length-set}
use lib.Seq.{get_or-set_same, get_or-set_other}
use lib.Dec.{eqb, leb}
use borrow.Author.Tests.{leb-true, leb-false, eqb-true, eqb-false}
use Rattle.vocabulary.specs.Lists.{joined, Every}
use Rattle.vocabulary.proofs.EveryOne.{every-at, every_set, every_of}
use Rattle.vocabulary.proofs.MappedLists.{every_map}
use Rattle.vocabulary.proofs.JoinedLists.{each-inside}
use Rattle.numbers.specs.Numbers.{bytes16}
use Rattle.acceptance.proofs.Holding.{and-says, eqb-says, ltb-says}
use Rattle.acceptance.proofs.FirstBroken.{never}
use Rattle.acceptance.proofs.BlockFields.{loop-says}
use Rattle.replace.specs.Replaced.{sample_replaced}
use Rattle.format.specs.Description.{Instrument, Sample, NAME, INFO, SONG, INST, PATT, SMPL, VENV, PENV, Other, Description}
use Rattle.format.specs.Encoding.{sample_bytes, chunk_bytes, encoded}
use Rattle.format.specs.WellFormed.{Fits16, Fits32, Looped, empty_sample, frames_of, InstrumentFits, WellFormed}
use Rattle.format.proofs.ReadingBlocks.{sample-size}
use Rattle.format.proofs.ChunksIn.{in-every}
use Rattle.format.proofs.ChunkKinds.{ChunkKind, instruments, samples}
use Rattle.format.proofs.ChangedDescriptions.{is_kind, stays, holds, Change, in-changed, changed-well-formed}
use Rattle.replace_theorems.specs.ReplacedDescription.{sixteen_bit, loop_outside, without_loop, cleared_instrument}
use Rattle.replace_theorems.specs.ReplacedDescription.{replaced_chunk, replaced_description}
use Rattle.replace_theorems.proofs.ReplacedModule.{replaced-encoded}

-- E3: what it means that a loop is outside.
pub outside-says : (sample frames : ℕ) (i : Instrument)
    → (loop_outside sample frames i ≡ true) ↔ (Looped i × ((i.sample ≡ sample) × (frames < i.loop_start + i.loop_length)))
outside-says sample frames i = simp (and-says, loop-says, eqb-says, ltb-says) Iff.rfl

-- A loop on this sample that is not outside ends within the frames.
pub not-outside : (sample frames : ℕ) (i : Instrument) → loop_outside sample frames i ≡ false → Looped i → i.sample ≡ sample
    → i.loop_start + i.loop_length ≤ frames
not-outside sample frames i e looped on = go (leb (i.loop_start + i.loop_length) frames) refl
  where
    go : (b : Bool) → leb (i.loop_start + i.loop_length) frames ≡ b → i.loop_start + i.loop_length ≤ frames
    go true t = leb-true (i.loop_start + i.loop_length) frames t
    go false t = absurd (never (outside-says sample frames i) e (looped, (on, leb-false (i.loop_start + i.loop_length) frames t)))

-- V6: the frames of the samples.
module _ (samples : List Sample) (sample : ℕ) (frames : List ℕ) (low : 1 ≤ sample) (high : sample ≤ length samples) where
  abbrev pub new_samples : List Sample
  new_samples = set samples (sample - 1) (sixteen_bit frames)

  sample-there : get_or new_samples (sample - 1) empty_sample ≡ sixteen_bit frames
  sample-there = get_or-set_same samples (sample - 1) (sixteen_bit frames) empty_sample (omega arith)

  frames-there : frames_of new_samples sample ≡ length frames
  frames-there = ap (λ (s : Sample). length s.frames) sample-there

  frames-others : (number : ℕ) → 1 ≤ number → (number ≡ sample → ⊥) → frames_of new_samples number ≡ frames_of samples number
  frames-others number from not =
      ap (λ (s : Sample). length s.frames)
      (get_or-set_other samples (sample - 1) (number - 1) (sixteen_bit frames) empty_sample (λ e. not (omega arith)))

  many : length new_samples ≡ length samples
  many = length-set samples (sample - 1) (sixteen_bit frames)

  -- E3, V6: the loop of an instrument that is not cleared lies within its sample.
  module _ (i : Instrument) (f : InstrumentFits samples i) where
    loop-inside : loop_outside sample (length frames) i ≡ false → Looped i
        → i.loop_start + i.loop_length ≤ frames_of new_samples i.sample
    loop-inside e looped = go (eqb i.sample sample) refl
      where
        go : (b : Bool) → eqb i.sample sample ≡ b → i.loop_start + i.loop_length ≤ frames_of new_samples i.sample
        go true t =
            let on : i.sample ≡ sample = eqb-true i.sample sample t in
            let fits = not-outside sample (length frames) i e looped on in
            omega (arith, fits, ap (frames_of new_samples) on ∙ frames-there)
        go false t =
            let old = f.loop looped in
            omega (arith, old.1, frames-others i.sample old.0 (eqb-false i.sample sample t))

    cleared-fits : InstrumentFits new_samples (cleared_instrument sample (length frames) i)
    cleared-fits = go (loop_outside sample (length frames) i) refl
      where
        go : (b : Bool) → loop_outside sample (length frames) i ≡ b → InstrumentFits new_samples (cond b (without_loop i) i)
        go true e = record {
          name = f.name;
          sample = omega (arith, f.sample, many);
          volume = f.volume;
          rate = f.rate;
          loop_start = omega arith;
          loop_length = omega arith;
          panning = f.panning;
          flags = omega arith;
          loop = λ looped. absurd (omega (arith, looped.0));
        }
        go false e = record {
          name = f.name;
          sample = omega (arith, f.sample, many);
          volume = f.volume;
          rate = f.rate;
          loop_start = f.loop_start;
          loop_length = f.loop_length;
          panning = f.panning;
          flags = f.flags;
          loop = λ looped. ((f.loop looped).0, loop-inside e looped);
        }

-- Only chunks of instruments and of samples change.
abbrev changes_both : ChunkKind → Bool
changes_both k = is_kind k instruments || is_kind k samples

both-kinds-change : (sample : ℕ) (frames : List ℕ) → Change changes_both (replaced_chunk sample frames)
both-kinds-change sample frames (NAME name) = stays (NAME name)
both-kinds-change sample frames (INFO info) = stays (INFO info)
both-kinds-change sample frames (SONG list) = stays (SONG list)
both-kinds-change sample frames (INST list) =
    holds instruments refl list (map (cleared_instrument sample (length frames)) list) refl
both-kinds-change sample frames (PATT list) = stays (PATT list)
both-kinds-change sample frames (SMPL list) = holds samples refl list (set list (sample - 1) (sixteen_bit frames)) refl
both-kinds-change sample frames (VENV list) = stays (VENV list)
both-kinds-change sample frames (PENV list) = stays (PENV list)
both-kinds-change sample frames (Other letters bytes) = stays (Other letters bytes)

module _ (d : Description) (w : WellFormed d) (sample : ℕ) (low : 1 ≤ sample) (high : sample ≤ length w.samples)
    (frames : List ℕ) (fits : Every Fits16 frames)
    (limit : length (sample_replaced (encoded d) sample (joined (map bytes16 frames))) ≤ 16777216) where
  abbrev result : Description
  result = replaced_description sample frames d

  short : length (encoded result) ≤ 16777216
  short = subst (λ (m : List ℕ). length m ≤ 16777216) (replaced-encoded d w sample frames) limit

  -- The new sample is within SMPL, and SMPL is within the module.
  new-many : Fits32 (length frames)
  new-many =
      let list : List Sample = new_samples w.samples sample frames low high in
      let there = in-changed (replaced_chunk sample frames) w.samples_there in
      let chunk = in-every (each-inside chunk_bytes result.chunks) there in
      let counted : sample - 1 < length list = omega (arith, many w.samples sample frames low high) in
      let one = every-at (sample - 1) empty_sample counted (each-inside sample_bytes list) in
      let same = ap (λ (s : Sample). length (sample_bytes s)) (sample-there w.samples sample frames low high) in
      omega (arith, short, chunk, one, same, sample-size (sixteen_bit frames))

  instruments_many : length (map (cleared_instrument sample (length frames)) w.instruments) ≡ length w.instruments
  instruments_many = length-map w.instruments (cleared_instrument sample (length frames))

  pub replaced-well-formed : WellFormed (replaced_description sample frames d)
  replaced-well-formed =
      changed-well-formed w (both-kinds-change sample frames)
      (record { name = refl; volume = refl; panning = refl; other = refl }) short
      (record {
        info = w.info;
        songs = w.songs;
        instruments = map (cleared_instrument sample (length frames)) w.instruments;
        patterns = w.patterns;
        samples = new_samples w.samples sample frames low high;
        info_is = refl;
        songs_are = refl;
        instruments_are = refl;
        patterns_are = refl;
        samples_are = refl;
        lists = record {
          info_fits = w.lists.info_fits;
          song_count = w.lists.song_count;
          instrument_count = instruments_many ∙ w.lists.instrument_count;
          pattern_count = w.lists.pattern_count;
          sample_count = many w.samples sample frames low high ∙ w.lists.sample_count;
          songs_fit = w.lists.songs_fit;
          instruments_fit = (every_map (cleared_instrument sample (length frames)) w.instruments).1
              (every_of (cleared-fits w.samples sample frames low high) w.lists.instruments_fit);
          patterns_fit = w.lists.patterns_fit;
          samples_fit = every_set (sample - 1) (sixteen_bit frames) (record { many = new-many; frames = fits })
              w.lists.samples_fit;
        };
        as_many = sym instruments_many;
      })
