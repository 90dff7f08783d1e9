-- The blocks of instruments and samples in a module, each where the encoding of its record is: what replacing a sample makes from the
-- block at each place is the encoding of the new record.
use Prim.Native.Nat.{ℕ, ◌+◌, ◌*◌, ◌/◌}
use mathlib.Core.Path.{◌≡◌, refl, sym, ap, ◌∙◌}
use mathlib.Core.List.{List, ◌++◌, map, append_assoc}
use mathlib.Core.Bool.{Bool, true, false, cond}
use native.Mathlib.Omega.{arith}
use lib.ListN.{length, replicate, length-append}
use Rattle.vocabulary.specs.Lists.{joined}
use Rattle.numbers.specs.Numbers.{number16, number32, part_of, bytes16, bytes32}
use Rattle.blocks.specs.declared.BlockKind.TheVariants.{Sample as SampleBlock}
use Rattle.acceptance.proofs.Locating.{PartAt, part-is}
use Rattle.acceptance.proofs.Cutting.{part-first, part-rest, part-size}
use Rattle.replace.specs.Replaced.{new_frames, new_block, sample_block, loop_cleared, rewritten_instrument}
use Rattle.instruments.specs.declared.InstrumentAnswer.{InstrumentAnswer}
use Rattle.format.specs.Description.{Instrument, Sample}
use Rattle.format.specs.Encoding.{instrument_bytes, sample_bytes}
use Rattle.format.specs.WellFormed.{InstrumentFits}
use Rattle.format.proofs.Stored.{pieces-size}
use Rattle.format.proofs.ReadingBlocks.{instrument-size}
use Rattle.format.proofs.ShownInstruments.{instrument-shown}
use Rattle.format.proofs.ShownSamples.{sample-sized}
use Rattle.replace_theorems.specs.ReplacedDescription.{sixteen_bit, loop_outside, without_loop, cleared_instrument}

-- E3: the rewritten block of an instrument.
module _ {samples : List Sample} (i : Instrument) (f : InstrumentFits samples i) {m : List ℕ} {at : ℕ}
    (p : PartAt m at (instrument_bytes i)) (sample frames : ℕ) where
  pub cleared-same : loop_cleared m sample frames at ≡ loop_outside sample frames i
  cleared-same =
      let shown = instrument-shown i f p in
      let flags : number16 m (at + 48) ≡ i.flags = ap (λ (a : InstrumentAnswer). a.flags) shown in
      let number : number16 m (at + 30) ≡ i.sample = ap (λ (a : InstrumentAnswer). a.sample) shown in
      let start : number32 m (at + 38) ≡ i.loop_start = ap (λ (a : InstrumentAnswer). a.loop_start) shown in
      let long : number32 m (at + 42) ≡ i.loop_length = ap (λ (a : InstrumentAnswer). a.loop_length) shown in
      rw (flags, number, start, long) refl

  -- The parts of the block: up to the loop, the loop, panning and flags.
  abbrev between : List ℕ
  between = bytes16 i.sample ++ (bytes16 i.volume ++ bytes32 i.rate)

  abbrev front : List ℕ
  front = i.name ++ between

  abbrev loop : List ℕ
  loop = bytes32 i.loop_start ++ bytes32 i.loop_length

  abbrev last : List ℕ
  last = bytes16 i.panning ++ bytes16 i.flags

  parts : PartAt m at (front ++ (loop ++ last))
  parts = rw (append_assoc i.name between (loop ++ last)) p

  front-size : length front ≡ 38
  front-size = length-append i.name between ∙ omega (arith, f.name.0)

  front-there : part_of m at 38 ≡ front
  front-there = ap (part_of m at) (sym front-size) ∙ part-is (part-first front (loop ++ last) parts)

  panning-there : part_of m (at + 46) 2 ≡ bytes16 i.panning
  panning-there =
      let rest = part-rest loop last (part-rest front (loop ++ last) parts) in
      let place : at + 46 ≡ at + length front + length loop = omega (arith, front-size) in
      ap (λ (k : ℕ). part_of m k 2) place ∙ part-is (part-first (bytes16 i.panning) (bytes16 i.flags) rest)

  pub instrument-rewritten : rewritten_instrument m sample frames at ≡ instrument_bytes (cleared_instrument sample frames i)
  instrument-rewritten = ap by cleared-same ∙ go (loop_outside sample frames i)
    where
      by : Bool → List ℕ
      by b = cond b (part_of m at 38 ++ (replicate 8 0 ++ (part_of m (at + 46) 2 ++ replicate 2 0))) (part_of m at 50)

      go : (b : Bool) → by b ≡ instrument_bytes (cond b (without_loop i) i)
      go true =
          ap (λ (one : List ℕ). one ++ (replicate 8 0 ++ (part_of m (at + 46) 2 ++ replicate 2 0))) front-there
          ∙ ap (λ (two : List ℕ). front ++ (replicate 8 0 ++ (two ++ replicate 2 0))) panning-there
          ∙ append_assoc i.name between (replicate 8 0 ++ (bytes16 i.panning ++ replicate 2 0))
      go false = ap (part_of m at) (sym (instrument-size i f.name.0)) ∙ part-is p

-- E2: the block of a sample that is unchanged, and the new block.
pub sample-copied : (s : Sample) {m : List ℕ} {at : ℕ} → PartAt m at (sample_bytes s) → sample_block m at ≡ sample_bytes s
sample-copied s {m} {at} p = ap (part_of m at) (part-size SampleBlock p (sample-sized s)) ∙ part-is p

half : (a n : ℕ) → a ≡ n * 2 → a / 2 ≡ n
half a n e = omega arith

pub new-frames : (frames : List ℕ) → new_frames (joined (map bytes16 frames)) ≡ length frames
new-frames frames = half (length (joined (map bytes16 frames))) (length frames) (pieces-size bytes16 2 (λ x. refl) frames)

pub new-block : (frames : List ℕ) → new_block (joined (map bytes16 frames)) ≡ sample_bytes (sixteen_bit frames)
new-block frames = ap (λ (n : ℕ). bytes32 2 ++ (bytes32 n ++ joined (map bytes16 frames))) (new-frames frames)
