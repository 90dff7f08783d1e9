-- Instruments: what the query shows of the encoding of an instrument in the module is the instrument.
use Prim.Native.Nat.{ℕ, ◌+◌, ◌≤◌}
use mathlib.Core.Path.{◌≡◌, ◌∙◌}
use mathlib.Core.List.{List}
use native.Mathlib.Omega.{arith}
use lib.ListN.{length}
use Rattle.numbers.specs.Numbers.{number16, number32, bytes_from}
use Rattle.blocks.specs.Sizes.{size_of}
use Rattle.blocks.specs.declared.BlockKind.TheVariants.{Instrument as InstrumentBlock}
use Rattle.acceptance.proofs.Locating.{PartAt, number16-at, number32-at}
use Rattle.acceptance.proofs.Cutting.{Sized, part-first}
use Rattle.instruments.specs.Shown.{shown_instrument}
use Rattle.format.specs.Description.{Instrument, Sample}
use Rattle.format.specs.Encoding.{instrument_bytes}
use Rattle.format.specs.WellFormed.{InstrumentFits}
use Rattle.format.specs.Shown.{described_instrument}
use Rattle.format.proofs.ReadingBlocks.{instrument-size, instrument-sample, instrument-volume, instrument-rate}
use Rattle.format.proofs.ReadingBlocks.{instrument-loop-start, instrument-loop-length, instrument-panning}
use Rattle.format.proofs.ReadingBlocks.{instrument-flags}
use Rattle.format.proofs.ShownBlocks.{bytes-at}

module _ {samples : List Sample} (i : Instrument) (f : InstrumentFits samples i) where
  size : length (instrument_bytes i) ≡ 50
  size = instrument-size i f.name.0

  pub instrument-sized : Sized InstrumentBlock (instrument_bytes i)
  unfolding size_of
  instrument-sized = size

  module _ {m : List ℕ} {at : ℕ} (p : PartAt m at (instrument_bytes i)) where
    at16 : (k : ℕ) → k + 2 ≤ 50 → number16 m (at + k) ≡ number16 (instrument_bytes i) k
    at16 k h = number16-at p k (omega (arith, size))

    at32 : (k : ℕ) → k + 4 ≤ 50 → number32 m (at + k) ≡ number32 (instrument_bytes i) k
    at32 k h = number32-at p k (omega (arith, size))

    name : bytes_from m at 30 ≡ i.name
    name = bytes-at (part-first i.name _ p) 30 f.name.0

    pub instrument-shown : shown_instrument m at ≡ described_instrument i
    instrument-shown =
        rw (
          name,
          at16 30 (omega arith) ∙ instrument-sample i f.name.0,
          at16 32 (omega arith) ∙ instrument-volume i f.name.0,
          at32 34 (omega arith) ∙ instrument-rate i f.name.0,
          at32 38 (omega arith) ∙ instrument-loop-start i f.name.0,
          at32 42 (omega arith) ∙ instrument-loop-length i f.name.0,
          at16 46 (omega arith) ∙ instrument-panning i f.name.0,
          at16 48 (omega arith) ∙ instrument-flags i f.name.0,
        )
