-- An instrument is shown if each of its fields is.
use Prim.Native.Nat.{ℕ}
use mathlib.Core.Path.{◌≡◌}
use mathlib.Core.List.{List}
use lib.IntN.{ℤ}
use Rattle.refusal.specs.Numbers.{no_refusal}
use Rattle.refusal.specs.declared.Outcome.{Outcome}
use Rattle.numbers.specs.Numbers.{signed16}
use Rattle.blocks.specs.StoredFields.{instrument_name, instrument_sample, instrument_volume, instrument_rate}
use Rattle.blocks.specs.StoredFields.{instrument_loop_start, instrument_loop_length, instrument_panning, instrument_flags}
use Rattle.instruments.specs.Shown.{shown_instrument}
use Rattle.instruments.specs.declared.InstrumentAnswer.{InstrumentAnswer}

pub fields-shown : (m : List ℕ) (at : ℕ) {outcome : Outcome} {name : List ℕ} {sample volume stored flags rate start length : ℕ} {panning : ℤ}
    → outcome ≡ no_refusal → name ≡ instrument_name m at → sample ≡ instrument_sample m at → volume ≡ instrument_volume m at
    → stored ≡ instrument_panning m at → panning ≡ signed16 stored → flags ≡ instrument_flags m at → rate ≡ instrument_rate m at
    → start ≡ instrument_loop_start m at
    → length ≡ instrument_loop_length m at
    → ◌≡◌ {A = InstrumentAnswer} (record {
      outcome = outcome;
      name = name;
      sample = sample;
      volume = volume;
      panning = panning;
      flags = flags;
      rate = rate;
      loop_start = start;
      loop_length = length;
    }) (shown_instrument m at)
fields-shown m at o n s v p z f r b l = rw (o, n, s, v, z, p, f, r, b, l)
