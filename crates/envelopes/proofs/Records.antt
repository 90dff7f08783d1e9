-- An envelope is shown if each of its fields is.
use Prim.Native.Nat.{ℕ}
use mathlib.Core.Path.{◌≡◌}
use mathlib.Core.List.{List}
use lib.IntN.{ℤ}
use Rattle.refusal.specs.Numbers.{no_refusal}
use Rattle.refusal.specs.declared.Outcome.{Outcome}
use Rattle.numbers.specs.Numbers.{each_from}
use Rattle.blocks.specs.StoredFields.{envelope_instrument, envelope_flags, envelope_sections}
use Rattle.blocks.specs.StoredFields.{envelope_first_sustain, envelope_loop_first, envelope_loop_last, envelope_second_sustain}
use Rattle.envelopes.specs.Shown.{position_shown, value_shown, shown_envelope}
use Rattle.envelopes.specs.declared.EnvelopeAnswer.{EnvelopeAnswer}
use Rattle.envelopes.specs.declared.EnvelopeKind.{EnvelopeKind}

pub fields-shown : (m : List ℕ) (kind : EnvelopeKind) (version at : ℕ) {outcome : Outcome}
    {instrument flags sections s₁ l₁ l₂ s₂ : ℕ} {positions : List ℕ} {values : List ℤ}
    → sections ≡ envelope_sections m at → outcome ≡ no_refusal → instrument ≡ envelope_instrument m at
    → flags ≡ envelope_flags m at → s₁ ≡ envelope_first_sustain m at → l₁ ≡ envelope_loop_first m at → l₂ ≡ envelope_loop_last m at
    → s₂ ≡ envelope_second_sustain m at → positions ≡ each_from (position_shown m at sections) 0 32
    → values ≡ each_from (value_shown m kind version at sections) 0 32
    → ◌≡◌ {A = EnvelopeAnswer} (record {
      outcome = outcome;
      instrument = instrument;
      flags = flags;
      sections = sections;
      first_sustain = s₁;
      loop_first = l₁;
      loop_last = l₂;
      second_sustain = s₂;
      positions = positions;
      values = values;
    }) (shown_envelope m kind version at)
fields-shown m kind version at n o i f a b c d p v = rw (o, p, v, n, i, f, a, b, c, d)
