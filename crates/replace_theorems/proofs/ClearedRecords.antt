-- The number of instruments whose loop is cleared is the number of instruments that are shown differently.
use Prim.Native.Nat.{ℕ, ◌+◌, ◌-◌, ◌≤◌, ◌<◌}
use Rattle.std.specs.Prelude.{Ok}
use mathlib.Core.Path.{◌≡◌, refl, sym, ap, ◌∙◌}
use mathlib.Core.List.{List, [], ◌∷◌, map}
use mathlib.Core.Bool.{Bool, true, false, cond}
use native.Mathlib.Omega.{arith}
use lib.ListN.{length, get_or, length-map}
use borrow.Author.Tests.{le-leb, lt-ltb}
use Rattle.vocabulary.specs.Lists.{joined, Every}
use Rattle.numbers.specs.Numbers.{each_from, bytes16}
use Rattle.packed_rows.specs.Entries.{count}
use Rattle.layout.specs.declared.Layout.{Layout}
use Rattle.module.specs.Verdicts.{opened}
use Rattle.replace.specs.Replaced.{new_frames, cleared_count, sample_replaced}
use Rattle.instruments.specs.Shown.{instrument_answer}
use Rattle.instruments.specs.declared.InstrumentAnswer.{InstrumentAnswer}
use Rattle.format.specs.Description.{Instrument, INST, Description}
use Rattle.format.specs.Encoding.{encoded}
use Rattle.format.specs.WellFormed.{Fits16, In, WellFormed}
use Rattle.format.specs.Shown.{empty_instrument, described_instrument}
use Rattle.format.proofs.ShownBlocks.{each-listed}
use Rattle.format.proofs.Placed.{encoded-opens}
use Rattle.format.proofs.ChangedDescriptions.{in-changed}
use Rattle.format.proofs.Theorems.{encoding-shows}
use Rattle.replace_theorems.specs.ReplacedDescription.{loop_outside, without_loop, cleared_instrument, replaced_chunk}
use Rattle.replace_theorems.specs.ReplacedDescription.{replaced_description, Differing, ended, same, other}
use Rattle.replace_theorems.proofs.ReplacedBlocks.{new-frames}
use Rattle.replace_theorems.proofs.ReplacedModule.{count_same, replaced-encoded}
use Rattle.replace_theorems.proofs.ReplacedWellFormed.{outside-says, replaced-well-formed}

-- All instruments of a description, as they are shown.
instruments-shown : (d : Description) → WellFormed d → (instruments : List Instrument) → In d.chunks (INST instruments)
    → each_from (instrument_answer (encoded d)) 1 (length instruments) ≡ map described_instrument instruments
instruments-shown d w instruments i =
    each-listed (instrument_answer (encoded d)) described_instrument empty_instrument instruments 1 each
  where
    each : (k : ℕ) → k < length instruments
        → instrument_answer (encoded d) (1 + k) ≡ described_instrument (get_or instruments k empty_instrument)
    each k h =
        let place : 1 + k - 1 ≡ k = omega arith in
        (encoding-shows d w).instrument instruments i (1 + k)
        ∙ rw (le-leb 1 (1 + k) (omega arith), place, lt-ltb k (length instruments) h) refl

-- A cleared instrument had a loop length other than 0, and shows 0.
module _ (sample frames : ℕ) where
  records-differ : (list : List Instrument)
      → Differing (map described_instrument list) (map described_instrument (map (cleared_instrument sample frames) list))
      (count (map (loop_outside sample frames) list))
  records-differ [] = ended
  records-differ (i ∷ list) = go (loop_outside sample frames i) refl (records-differ list)
    where
      go : (b : Bool) → loop_outside sample frames i ≡ b
          → Differing (map described_instrument list) (map described_instrument (map (cleared_instrument sample frames) list))
          (count (map (loop_outside sample frames) list))
          → Differing (described_instrument i ∷ map described_instrument list)
          (described_instrument (cond b (without_loop i) i) ∷ map described_instrument (map (cleared_instrument sample frames) list))
          (count (b ∷ map (loop_outside sample frames) list))
      go true e rest =
          let looped = ((outside-says sample frames i).0 e).0 in
          let differs : described_instrument i ≡ described_instrument (without_loop i) → ⊥ =
          λ alike. omega (arith, looped.0, ap (λ (a : InstrumentAnswer). a.loop_length) alike) in
          other differs rest
      go false e rest = same (described_instrument i) rest

module _ (d : Description) (w : WellFormed d) (sample : ℕ) (low : 1 ≤ sample) (high : sample ≤ length w.samples)
    (frames : List ℕ) (fits : Every Fits16 frames)
    (limit : length (sample_replaced (encoded d) sample (joined (map bytes16 frames))) ≤ 16777216) where
  abbrev new : List ℕ
  new = joined (map bytes16 frames)

  abbrev rewritten : List Instrument
  rewritten = map (cleared_instrument sample (length frames)) w.instruments

  counted : (l : Layout) → opened (encoded d) ≡ Ok l
      → cleared_count (encoded d) l sample (new_frames new) ≡ count (map (loop_outside sample (length frames)) w.instruments)
  counted l opens =
      let (k, opens_as, layout) = encoded-opens d w in
      let one : k ≡ l = cc in
      ap (cleared_count (encoded d) l sample) (new-frames frames)
      ∙ ap (λ (l : Layout). cleared_count (encoded d) l sample (length frames)) (sym one)
      ∙ count_same d w layout sample (length frames)

  before : each_from (instrument_answer (encoded d)) 1 w.info.instruments ≡ map described_instrument w.instruments
  before = rw (← w.lists.instrument_count) (instruments-shown d w w.instruments w.instruments_there)

  after : each_from (instrument_answer (sample_replaced (encoded d) sample new)) 1 w.info.instruments
      ≡ map described_instrument rewritten
  after =
      let many : length rewritten ≡ w.info.instruments =
      length-map w.instruments (cleared_instrument sample (length frames)) ∙ w.lists.instrument_count in
      ap (λ (m : List ℕ). each_from (instrument_answer m) 1 w.info.instruments) (replaced-encoded d w sample frames)
      ∙ ap (each_from (instrument_answer (encoded (replaced_description sample frames d))) 1) (sym many)
      ∙ instruments-shown (replaced_description sample frames d)
      (replaced-well-formed d w sample low high frames fits limit) rewritten
      (in-changed (replaced_chunk sample frames) w.instruments_there)

  pub cleared-differ : (l : Layout) → opened (encoded d) ≡ Ok l
      → Differing (each_from (instrument_answer (encoded d)) 1 w.info.instruments)
      (each_from (instrument_answer (sample_replaced (encoded d) sample (joined (map bytes16 frames)))) 1 w.info.instruments)
      (cleared_count (encoded d) l sample (new_frames (joined (map bytes16 frames))))
  cleared-differ l opens = rw (before, after, counted l opens) (records-differ sample (length frames) w.instruments)
