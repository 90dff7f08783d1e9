-- FORMAT.md, B3, Q3 and Q8 (document 01, "Layout"): an instrument as it is shown. The answer begins with the refusal's number and place, 0
-- and 0 if there is none; on a refusal all other fields are 0.
use Rattle.std.specs.Prelude.{ℕ, List, replicate, pos, Result, Ok, Err}
use Rattle.queries.specs.declared.Block.{Block}
use Rattle.refusal.specs.Numbers.{no_refusal, refused_outcome}
use Rattle.refusal.specs.declared.Refusal.{Refusal}
use Rattle.numbers.specs.Numbers.{signed16}
use Rattle.blocks.specs.StoredFields.{instrument_name, instrument_sample, instrument_volume, instrument_rate}
use Rattle.blocks.specs.StoredFields.{instrument_loop_start, instrument_loop_length, instrument_panning, instrument_flags}
use Rattle.blocks.specs.declared.RecordKind.TheVariants.{Instrument}
use Rattle.queries.specs.Finding.{found}
use Rattle.instruments.specs.declared.InstrumentAnswer.{InstrumentAnswer}

abbrev pub no_instrument : Refusal → InstrumentAnswer
no_instrument r = record {
  outcome = refused_outcome r;
  name = replicate 30 0;
  sample = 0;
  volume = 0;
  panning = pos 0;
  flags = 0;
  rate = 0;
  loop_start = 0;
  loop_length = 0;
}

-- B3, Q8: name 30, sample 2, volume 2, rate 4, loop start 4, loop length 4, panning 2 (signed, and as stored in both versions),
-- flags 2.
abbrev pub shown_instrument : List ℕ → ℕ → InstrumentAnswer
shown_instrument m at = record {
  outcome = no_refusal;
  name = instrument_name m at;
  sample = instrument_sample m at;
  volume = instrument_volume m at;
  panning = signed16 (instrument_panning m at);
  flags = instrument_flags m at;
  rate = instrument_rate m at;
  loop_start = instrument_loop_start m at;
  loop_length = instrument_loop_length m at;
}

abbrev pub instrument_if : List ℕ → Result Block Refusal → InstrumentAnswer
instrument_if m (Ok b) = shown_instrument m b.at
instrument_if m (Err r) = no_instrument r

-- Q1: the module's own refusal, then 18, else the instrument.
abbrev pub instrument_answer : List ℕ → ℕ → InstrumentAnswer
instrument_answer m instrument = instrument_if m (found m Instrument instrument)
