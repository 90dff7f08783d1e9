-- The bytes of two envelopes of one kind are equal exactly if the queries show the same of the two blocks. A shown value is −128 to 128
-- (theorem 18), so that its 2 bytes determine it.
use Prim.Native.Nat.{ℕ, zero, suc, ◌+◌, ◌≤◌, ◌<◌}
use Rattle.std.specs.Prelude.{Result, Ok}
use Rattle.refusal.specs.declared.Refusal.{Refusal}
use mathlib.Core.Path.{◌≡◌, refl, ap, subst}
use mathlib.Core.Logic.{◌↔◌}
use mathlib.Core.List.{List, ◌∷◌}
use native.Mathlib.Omega.{arith}
use lib.ListN.{get_or, drop}
use lib.IntN.{ℤ, pos, negsuc}
use borrow.Author.Tests.{leb-true}
use Rattle.refusal.specs.Numbers.{no_refusal}
use Rattle.numbers.specs.Numbers.{each_from, unsigned16}
use Rattle.blocks.specs.StoredFields.{envelope_instrument, envelope_flags, envelope_sections, envelope_first_sustain, envelope_loop_first}
use Rattle.blocks.specs.StoredFields.{envelope_loop_last, envelope_second_sustain}
use Rattle.queries.specs.Finding.{found}
use Rattle.queries.specs.declared.Block.{Block}
use Rattle.acceptance.proofs.BlockFields.{le_z-says}
use Rattle.envelopes.specs.Shown.{record_kind, position_shown, value_shown, shown_envelope, envelope_if}
use Rattle.envelopes.specs.declared.EnvelopeKind.{EnvelopeKind}
use Rattle.envelopes.specs.declared.EnvelopeKind.TheVariants.{Volume, Panning}
use Rattle.records.specs.Records.{point_records, envelope_record}
use Rattle.query_theorems.specs.Queries.{value_at, Between}
use Rattle.query_theorems.proofs.EnvelopeValues.{volume-values, panning-values}
use Rattle.format.proofs.Delimited.{next16}

-- A value of at most 128 without its sign: the 2 bytes of such a value determine it.
abbrev pub Small : ℤ → Type 0
Small (pos n) = n ≤ 128
Small (negsuc n) = n < 128

small-told : (v w : ℤ) → Small v → Small w → unsigned16 v ≡ unsigned16 w → v ≡ w
small-told (pos a) (pos b) h l e = ap pos e
small-told (pos a) (negsuc b) h l e = absurd (omega (arith, e))
small-told (negsuc a) (pos b) h l e = absurd (omega (arith, e))
small-told (negsuc a) (negsuc b) h l e = let same : a ≡ b = omega (arith, e) in ap negsuc same

small-volume : (v : ℤ) → Between (pos 0) (pos 64) v → Small v
small-volume (pos n) h = let most = leb-true n 64 ((le_z-says (pos n) (pos 64)).1 h.1) in omega (arith, most)
small-volume (negsuc n) h = absurd h.0.le

small-panning : (v : ℤ) → Between (negsuc 127) (pos 128) v → Small v
small-panning (pos n) h = leb-true n 128 ((le_z-says (pos n) (pos 128)).1 h.1)
small-panning (negsuc n) h = let most = leb-true n 127 ((le_z-says (negsuc 127) (negsuc n)).1 h.0) in omega (arith, most)

abbrev pub AllSmall : List ℤ → Type 0
AllSmall values = (i : ℕ) → Small (get_or values i (pos 0))

-- The bytes of points determine the points.
points-told : (f g : ℕ → ℕ) (v w : ℕ → ℤ) (n k : ℕ) → AllSmall (each_from v k n) → AllSmall (each_from w k n)
    → point_records (each_from f k n) (each_from v k n) ≡ point_records (each_from g k n) (each_from w k n)
    → (each_from f k n ≡ each_from g k n) × (each_from v k n ≡ each_from w k n)
points-told f g v w zero k h l e = (refl, refl)
points-told f g v w (suc n) k h l e =
    let position = next16 (f k) (g k) e in
    let value = next16 (unsigned16 (v k)) (unsigned16 (w k)) position.1 in
    let same : v k ≡ w k = small-told (v k) (w k) (h 0) (l 0) value.0 in
    let rest = points-told f g v w n (k + 1) (λ i. h (suc i)) (λ i. l (suc i)) value.1 in
    (λ i. position.0 i ∷ rest.0 i, λ i. same i ∷ rest.1 i)

module _ (m k : List ℕ) (kind : EnvelopeKind) (version other at to : ℕ) where
  pub envelope-exact : AllSmall (shown_envelope m kind version at).values → AllSmall (shown_envelope k kind other to).values
      → (envelope_record (shown_envelope m kind version at) ≡ envelope_record (shown_envelope k kind other to))
      ↔ (shown_envelope m kind version at ≡ shown_envelope k kind other to)
  envelope-exact h l = (told, ap envelope_record)
    where
      told : envelope_record (shown_envelope m kind version at) ≡ envelope_record (shown_envelope k kind other to)
          → shown_envelope m kind version at ≡ shown_envelope k kind other to
      told e =
          let instrument = next16 (envelope_instrument m at) (envelope_instrument k to) e in
          let flags : envelope_flags m at ≡ envelope_flags k to = ap (λ (l : List ℕ). get_or l 0 0) instrument.1 in
          let sections : envelope_sections m at ≡ envelope_sections k to = ap (λ (l : List ℕ). get_or l 1 0) instrument.1 in
          let first : envelope_first_sustain m at ≡ envelope_first_sustain k to = ap (λ (l : List ℕ). get_or l 2 0) instrument.1 in
          let start : envelope_loop_first m at ≡ envelope_loop_first k to = ap (λ (l : List ℕ). get_or l 3 0) instrument.1 in
          let last : envelope_loop_last m at ≡ envelope_loop_last k to = ap (λ (l : List ℕ). get_or l 4 0) instrument.1 in
          let second : envelope_second_sustain m at ≡ envelope_second_sustain k to = ap (λ (l : List ℕ). get_or l 5 0) instrument.1 in
          let points = points-told (position_shown m at (envelope_sections m at)) (position_shown k to (envelope_sections k to))
          (value_shown m kind version at (envelope_sections m at)) (value_shown k kind other to (envelope_sections k to)) 32 0 h l
          (ap (λ (l : List ℕ). drop 6 l) instrument.1) in
          λ i. record {
            outcome = no_refusal;
            instrument = instrument.0 i;
            flags = flags i;
            sections = sections i;
            first_sustain = first i;
            loop_first = start i;
            loop_last = last i;
            second_sustain = second i;
            positions = points.0 i;
            values = points.1 i;
          }

-- The values of an envelope that is found.
pub values-small : (m : List ℕ) (kind : EnvelopeKind) (number : ℕ) (b : Block) → found m (record_kind kind) number ≡ Ok b
    → AllSmall (shown_envelope m kind b.version b.at).values
values-small m kind number b e i = subst (λ (f : Result Block Refusal). Small (get_or (envelope_if m kind f).values i (pos 0))) e (all kind)
  where
    all : (kind : EnvelopeKind) → Small (value_at m kind number i)
    all Volume = small-volume (value_at m Volume number i) (volume-values m number i)
    all Panning = small-panning (value_at m Panning number i) (panning-values m number i)
