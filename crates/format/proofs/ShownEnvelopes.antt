-- Envelopes: what the query shows of the encoding of an envelope in the module is the envelope.
use Prim.Native.Nat.{ℕ, ◌+◌, ◌*◌, ◌<◌}
use mathlib.Core.Path.{◌≡◌, ap, ◌∙◌}
use mathlib.Core.List.{List}
use mathlib.Core.Bool.{cond}
use native.Mathlib.Omega.{arith}
use native.Mathlib.Nat.{add_assoc}
use lib.ListN.{length, get_or}
use lib.Dec.{leb}
use lib.IntN.{pos}
use Rattle.numbers.specs.Numbers.{byte_at, each_from}
use Rattle.blocks.specs.StoredFields.{envelope_position, envelope_value}
use Rattle.blocks.specs.Sizes.{size_of}
use Rattle.blocks.specs.declared.BlockKind.TheVariants.{Envelope as EnvelopeBlock}
use Rattle.acceptance.proofs.Locating.{PartAt, byte_at-at, number16-at, number16-start}
use Rattle.acceptance.proofs.Cutting.{Sized}
use Rattle.envelopes.specs.Shown.{position_shown, value_of, value_shown, shown_envelope}
use Rattle.envelopes.specs.declared.EnvelopeKind.{EnvelopeKind}
use Rattle.showing_theorems.proofs.SameBytes.{each_same, same_if}
use Rattle.format.specs.Description.{Envelope}
use Rattle.format.specs.Encoding.{envelope_bytes}
use Rattle.format.specs.WellFormed.{no_point, EnvelopeFits}
use Rattle.format.specs.Shown.{described_envelope}
use Rattle.format.proofs.ReadingBlocks.{envelope-size, envelope-instrument, envelope-flags, envelope-sections}
use Rattle.format.proofs.ReadingBlocks.{envelope-first-sustain, envelope-loop-first, envelope-loop-last}
use Rattle.format.proofs.ReadingBlocks.{envelope-second-sustain, envelope-position, envelope-value}

module _ {instruments : ℕ} {ValueFits : ℕ → Type 0} (e : Envelope) (f : EnvelopeFits instruments ValueFits e) where
  size : length (envelope_bytes e) ≡ 136
  size = envelope-size e f.many

  pub envelope-sized : Sized EnvelopeBlock (envelope_bytes e)
  unfolding size_of
  envelope-sized = size

  module _ {m : List ℕ} {at : ℕ} (p : PartAt m at (envelope_bytes e)) where
    at8 : (k : ℕ) → k < 136 → byte_at m (at + k) ≡ byte_at (envelope_bytes e) k
    at8 k h = byte_at-at p k (omega (arith, size))

    position : (i : ℕ) → i < 32 → envelope_position m at i ≡ (get_or e.points i no_point).position
    position i h = simp add_assoc (number16-at p (8 + 4 * i) (omega (arith, size)) ∙ envelope-position e f.many i h)

    value : (i : ℕ) → i < 32 → envelope_value m at i ≡ (get_or e.points i no_point).value
    value i h = simp add_assoc (number16-at p (10 + 4 * i) (omega (arith, size)) ∙ envelope-value e f.many i h)

    positions : each_from (position_shown m at e.sections) 0 32
        ≡ each_from (λ point. cond (leb point e.sections) (get_or e.points point no_point).position 0) 0 32
    positions =
        each_same (position_shown m at e.sections)
        (λ point. cond (leb point e.sections) (get_or e.points point no_point).position 0) 32 0 0
        (λ i h. same_if (leb (0 + i) e.sections) 0 (λ used. position (0 + i) (omega arith)))

    values : (kind : EnvelopeKind) (version : ℕ)
        → each_from (value_shown m kind version at e.sections) 0 32
        ≡ each_from (λ point. cond (leb point e.sections) (value_of kind version (get_or e.points point no_point).value) (pos 0)) 0 32
    values kind version =
        each_same (value_shown m kind version at e.sections)
        (λ point. cond (leb point e.sections) (value_of kind version (get_or e.points point no_point).value) (pos 0)) 32 0 0
        (λ i h. same_if (leb (0 + i) e.sections) (pos 0) (λ used. ap (value_of kind version) (value (0 + i) (omega arith))))

    pub envelope-shown : (kind : EnvelopeKind) (version : ℕ) → shown_envelope m kind version at ≡ described_envelope kind version e
    envelope-shown kind version =
        rw (
          number16-start p (omega (arith, size)) ∙ envelope-instrument e f.many,
          at8 2 (omega arith) ∙ envelope-flags e f.many,
          at8 3 (omega arith) ∙ envelope-sections e f.many,
          at8 4 (omega arith) ∙ envelope-first-sustain e f.many,
          at8 5 (omega arith) ∙ envelope-loop-first e f.many,
          at8 6 (omega arith) ∙ envelope-loop-last e f.many,
          at8 7 (omega arith) ∙ envelope-second-sustain e f.many,
          positions,
          values kind version,
        )
