-- Instruments: every field is in the instrument's block.
use Prim.Native.Nat.{ℕ}
use mathlib.Core.Path.{◌≡◌, refl}
use mathlib.Core.List.{List}
use native.Mathlib.Omega.{arith}
use Rattle.blocks.specs.Sizes.{size_of}
use Rattle.blocks.specs.declared.BlockKind.TheVariants.{Instrument as InstrumentBlock}
use Rattle.blocks.specs.declared.RecordKind.TheVariants.{Instrument}
use Rattle.instruments.specs.Shown.{shown_instrument, instrument_if, instrument_answer}
use Rattle.showing_theorems.proofs.Alike.{SameBlock, Alike}
use Rattle.showing_theorems.proofs.SameBytes.{same-16, same-32, same-front}
use Rattle.showing_theorems.proofs.AlikeAnswers.{by-finding}

pub instrument-same : {m n : List ℕ} {at to : ℕ} → SameBlock InstrumentBlock m n at to → shown_instrument n to ≡ shown_instrument m at
unfolding size_of
instrument-same s =
    rw (
      same-front s 30 (omega arith),
      same-16 s 30 (omega arith),
      same-16 s 32 (omega arith),
      same-32 s 34 (omega arith),
      same-32 s 38 (omega arith),
      same-32 s 42 (omega arith),
      same-16 s 46 (omega arith),
      same-16 s 48 (omega arith),
    )

pub same-instrument : {m n : List ℕ} → Alike m n → (instrument : ℕ) → instrument_answer n instrument ≡ instrument_answer m instrument
same-instrument {m} {n} a instrument = by-finding a Instrument instrument (instrument_if m) (instrument_if n) (λ r. refl) (λ b c e v t s. instrument-same s)
