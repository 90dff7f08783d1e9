-- FORMAT.md, B6, Q3 and Q9 (document 01, "Layout"): envelopes as they are shown. Each answer begins with the refusal's number and place, 0
-- and 0 if there is none; on a refusal all other fields are 0.
use Rattle.std.specs.Prelude.{ℕ, ◌*◌, List, cond, replicate, eqb, leb, ℤ, pos, ◌-ℤ◌, Result, Ok, Err}
use Rattle.layout.specs.declared.Layout.{Layout}
use Rattle.queries.specs.declared.Block.{Block}
use Rattle.refusal.specs.Numbers.{no_refusal, refused_outcome}
use Rattle.refusal.specs.declared.Refusal.{Refusal}
use Rattle.numbers.specs.Numbers.{signed16, each_from}
use Rattle.blocks.specs.StoredFields.{envelope_instrument, envelope_flags, envelope_sections}
use Rattle.blocks.specs.StoredFields.{envelope_first_sustain, envelope_loop_first, envelope_loop_last, envelope_second_sustain}
use Rattle.blocks.specs.StoredFields.{envelope_position, envelope_value}
use Rattle.blocks.specs.Sizes.{envelope_count}
use Rattle.blocks.specs.RecordKinds.{chunk_of}
use Rattle.blocks.specs.declared.RecordKind.{RecordKind}
use Rattle.blocks.specs.declared.RecordKind.TheVariants.{VolumeEnvelope, PanningEnvelope}
use Rattle.module.specs.Verdicts.{opened}
use Rattle.queries.specs.Finding.{found}
use Rattle.envelopes.specs.declared.EnvelopeKind.{EnvelopeKind}
use Rattle.envelopes.specs.declared.EnvelopeKind.TheVariants.{Volume, Panning}
use Rattle.envelopes.specs.declared.CountAnswer.{CountAnswer}
use Rattle.envelopes.specs.declared.EnvelopeAnswer.{EnvelopeAnswer}

-- The record kind of each kind of envelope: VENV has volume envelopes, PENV has panning envelopes.
abbrev pub record_kind : EnvelopeKind → RecordKind
record_kind Volume = VolumeEnvelope
record_kind Panning = PanningEnvelope

abbrev pub no_count : Refusal → CountAnswer
no_count r = record { outcome = refused_outcome r; count = 0 }

abbrev pub count_if : List ℕ → EnvelopeKind → Result Layout Refusal → CountAnswer
count_if m kind (Ok l) = record { outcome = no_refusal; count = envelope_count m (chunk_of l (record_kind kind)) }
count_if m kind (Err r) = no_count r

-- Q9: the number of envelopes: the count of their chunk, 0 if it is missing.
abbrev pub count_answer : List ℕ → EnvelopeKind → CountAnswer
count_answer m kind = count_if m kind (opened m)

-- Q9: sections + 1 points are in use, so the number of the last one is the number of sections. The others are shown as zeros.
abbrev pub position_shown : List ℕ → ℕ → ℕ → ℕ → ℕ
position_shown m at sections point = cond (leb point sections) (envelope_position m at point) 0

-- Q9: a volume value is shown as stored. A panning value is signed; in version 2 a stored v is shown as 4v − 128.
abbrev pub value_of : EnvelopeKind → ℕ → ℕ → ℤ
value_of Volume version v = pos v
value_of Panning version v = cond (eqb version 2) (pos (4 * v) -ℤ pos 128) (signed16 v)

abbrev pub value_shown : List ℕ → EnvelopeKind → ℕ → ℕ → ℕ → ℕ → ℤ
value_shown m kind version at sections point = cond (leb point sections) (value_of kind version (envelope_value m at point)) (pos 0)

abbrev pub no_envelope : Refusal → EnvelopeAnswer
no_envelope r = record {
  outcome = refused_outcome r;
  instrument = 0;
  flags = 0;
  sections = 0;
  first_sustain = 0;
  loop_first = 0;
  loop_last = 0;
  second_sustain = 0;
  positions = replicate 32 0;
  values = replicate 32 (pos 0);
}

-- B6: instrument 2, flags 1, sections 1, S1, L1, L2, S2, then 32 points of position 2 and value 2.
abbrev pub shown_envelope : List ℕ → EnvelopeKind → ℕ → ℕ → EnvelopeAnswer
shown_envelope m kind version at = record {
  outcome = no_refusal;
  instrument = envelope_instrument m at;
  flags = envelope_flags m at;
  sections = envelope_sections m at;
  first_sustain = envelope_first_sustain m at;
  loop_first = envelope_loop_first m at;
  loop_last = envelope_loop_last m at;
  second_sustain = envelope_second_sustain m at;
  positions = each_from (position_shown m at (envelope_sections m at)) 0 32;
  values = each_from (value_shown m kind version at (envelope_sections m at)) 0 32;
}

abbrev pub envelope_if : List ℕ → EnvelopeKind → Result Block Refusal → EnvelopeAnswer
envelope_if m kind (Ok b) = shown_envelope m kind b.version b.at
envelope_if m kind (Err r) = no_envelope r

-- Q1: the module's own refusal, then 18, else the envelope.
abbrev pub envelope_answer : List ℕ → EnvelopeKind → ℕ → EnvelopeAnswer
envelope_answer m kind envelope = envelope_if m kind (found m (record_kind kind) envelope)
