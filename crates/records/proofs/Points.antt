-- The values of envelopes fit 2 bytes, and the points are written as specified.
use Prim.Native.Nat.{ℕ, ◌*◌, ◌≤◌, ◌<◌}
use mathlib.Core.Path.{◌≡◌, refl, ap, ◌∙◌}
use mathlib.Core.List.{List, [], ◌∷◌, ◌++◌, flatten}
use mathlib.Core.Bool.{Bool, true, false}
use native.Mathlib.Omega.{arith}
use lib.ListN.{length, drop}
use lib.Dec.{eqb, leb, ltb}
use lib.IntN.{ℤ}
use lib.Signed.{mag}
use mir.Syntax.{w32}
use mir.Val.{SFits, to_z, of_z}
use mir.ValLaws.{to_z-of_z}
use borrow.Author.Tests.{eqb-true, leb-true}
use Rattle.numbers.specs.Numbers.{Bytes, signed16, bytes16, unsigned16, put_at}
use Rattle.numbers.proofs.PutBytes.{put_front}
use Rattle.numbers.proofs.AllBytes.{number16-below}
use Rattle.blocks.specs.StoredFields.{envelope_sections, envelope_value}
use Rattle.envelopes.specs.Shown.{record_kind, position_shown, value_of, value_shown}
use Rattle.envelopes.proofs.Scaling.{less-mag}
use Rattle.envelopes.specs.declared.EnvelopeKind.{EnvelopeKind}
use Rattle.envelopes.specs.declared.EnvelopeKind.TheVariants.{Volume, Panning}
use Rattle.records.specs.Steps.{point_record, ValueScales, ValuesScale}

-- A shown value fits 2 bytes.
signed-mag : (v : ℕ) → v < 65536 → mag (signed16 v) < 65536
signed-mag v h = go (ltb v 32768) refl
  where
    go : (t : Bool) → ltb v 32768 ≡ t → mag (signed16 v) < 65536
    go true t = simp t h
    go false t = simp t (omega arith)

value-mag : (kind : EnvelopeKind) (version v : ℕ) → v < 65536 → ValueScales kind version v → mag (value_of kind version v) < 65536
value-mag Volume version v h fits = h
value-mag Panning version v h fits = go (eqb version 2) refl
  where
    go : (t : Bool) → eqb version 2 ≡ t → mag (value_of Panning version v) < 65536
    go true t = simp t (less-mag (4 * v) 65536 (omega (arith, fits (eqb-true version 2 t))) (omega arith))
    go false t = simp t (signed-mag v h)

-- The condition on a value in use.
value-ready : (m : List ℕ) (kind : EnvelopeKind) (version at : ℕ) → ValuesScale m version (record_kind kind) at → (point : ℕ)
    → point ≤ envelope_sections m at
    → ValueScales kind version (envelope_value m at point)
value-ready m Volume version at fits point h = tt
value-ready m Panning version at fits point h = fits point h

shown-mag : (m : List ℕ) (kind : EnvelopeKind) (version at point : ℕ) → Bytes m → ValuesScale m version (record_kind kind) at
    → mag (value_shown m kind version at (envelope_sections m at) point) < 65536
shown-mag m kind version at point bytes fits = go (leb point (envelope_sections m at)) refl
  where
    go : (t : Bool) → leb point (envelope_sections m at) ≡ t → mag (value_shown m kind version at (envelope_sections m at) point) < 65536
    go true t =
        let used = leb-true point (envelope_sections m at) t in
        simp t (value-mag kind version (envelope_value m at point) (number16-below m bytes _) (value-ready m kind version at fits point used))
    go false t = simp t (omega arith)

-- A point: its position, and its value, which the code passes in 4 bytes.
module _ (m : List ℕ) (kind : EnvelopeKind) (version at point sections : ℕ) (v : ℤ) (s : sections ≡ envelope_sections m at) (small : SFits w32 v)
    (shown : v ≡ value_shown m kind version at sections point) where
  passed : to_z w32 (of_z w32 v) ≡ value_shown m kind version at (envelope_sections m at) point
  passed = to_z-of_z w32 v small ∙ shown ∙ ap (λ (n : ℕ). value_shown m kind version at n point) s

  pub passed-mag : Bytes m → ValuesScale m version (record_kind kind) at → mag (to_z w32 (of_z w32 v)) < 65536
  passed-mag bytes fits = rw passed (shown-mag m kind version at point bytes fits)

  pub point-written : (p u : ℕ) (out : List ℕ) → p ≡ position_shown m at sections point → u ≡ unsigned16 (to_z w32 (of_z w32 v))
      → 4 ≤ length out
      → put_at (bytes16 u) 2 (put_at (bytes16 p) 0 out) ≡ point_record m kind version at point ++ drop 4 out
  unfolding flatten
  point-written p u out e f room = put_front (bytes16 p ∷ bytes16 u ∷ []) out room ∙ rw (e, f, passed, s) refl
