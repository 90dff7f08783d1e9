-- Envelopes that are shown the same: point by point, and with the bytes before the points.
use Prim.Native.Nat.{ℕ, zero, suc, ◌+◌, ◌*◌, ◌<◌, ◌≤◌}
use mathlib.Core.Path.{◌≡◌, refl, sym, ap, ◌∙◌}
use mathlib.Core.List.{List, ◌++◌}
use mathlib.Core.Bool.{Bool, true, false, ◌&&◌}
use native.Mathlib.Omega.{arith}
use lib.ListN.{length, get_or}
use lib.Dec.{eqb, leb, ltb}
use lib.IntN.{ℤ, pos, ◌-ℤ◌}
use mir.Syntax.{w32}
use mir.Val.{of_z}
use borrow.Author.Tests.{eqb-true, leb-true, ltb-true, ltb-false}
use Rattle.std.specs.List.{list_all, range_with_len}
use Rattle.numbers.specs.Numbers.{Bytes, byte_at, part_of, bytes_from, bytes16, unsigned16, signed16}
use Rattle.numbers.proofs.AllBytes.{number16-below}
use Rattle.numbers.proofs.Parts.{bytes-part}
use Rattle.differences.specs.Differences.{equal_bytes}
use Rattle.differences.proofs.EqualBytes.{equal-says, equal-parts}
use Rattle.blocks.specs.StoredFields.{envelope_sections, envelope_value}
use Rattle.envelopes.specs.Shown.{record_kind, position_shown, value_of, value_shown}
use Rattle.envelopes.specs.declared.EnvelopeKind.{EnvelopeKind}
use Rattle.envelopes.specs.declared.EnvelopeKind.TheVariants.{Volume, Panning}
use Rattle.records.specs.Records.{record_at}
use Rattle.records.specs.Steps.{point_record, points_from, ValuesScale}
use Rattle.records.proofs.StoredRecords.{envelope-stored}
use Rattle.compare.proofs.SameRecords.{bytes16-same, Apart, values_same, equal_of}

-- Panning values are signed, volume values are not.
abbrev signed_in : EnvelopeKind → Bool
signed_in Volume = false
signed_in Panning = true

signed-apart : (v : ℕ) → v < 65536 → Apart true (signed16 v)
signed-apart v h = go (ltb v 32768) refl
  where
    go : (t : Bool) → ltb v 32768 ≡ t → Apart true (signed16 v)
    go true t = simp t (ltb-true v 32768 t)
    go false t = let high = ltb-false v 32768 t in simp t (omega (arith, h, high))

scaled-apart : (v : ℕ) → v ≤ 64 → Apart true (pos (4 * v) -ℤ pos 128)
scaled-apart v h = go (ltb (4 * v) 128) refl
  where
    go : (t : Bool) → ltb (4 * v) 128 ≡ t → Apart true (pos (4 * v) -ℤ pos 128)
    go true t = simp t (omega (arith, h))
    go false t = simp t (omega (arith, h))

module _ (m : List ℕ) (bytes : Bytes m) where
  value-apart : (kind : EnvelopeKind) (version at : ℕ) → ValuesScale m version (record_kind kind) at → (point : ℕ) → point ≤ envelope_sections m at
      → Apart (signed_in kind) (value_of kind version (envelope_value m at point))
  value-apart Volume version at fits point h = number16-below m bytes _
  value-apart Panning version at fits point h = go (eqb version 2) refl
    where
      go : (t : Bool) → eqb version 2 ≡ t → Apart true (value_of Panning version (envelope_value m at point))
      go true t = simp t (scaled-apart (envelope_value m at point) (fits point h (eqb-true version 2 t)))
      go false t = simp t (signed-apart (envelope_value m at point) (number16-below m bytes _))

  zero-apart : (kind : EnvelopeKind) → Apart (signed_in kind) (pos 0)
  zero-apart Volume = omega arith
  zero-apart Panning = omega arith

  pub shown-apart : (kind : EnvelopeKind) (version at point : ℕ) → ValuesScale m version (record_kind kind) at
      → Apart (signed_in kind) (value_shown m kind version at (envelope_sections m at) point)
  shown-apart kind version at point fits = go (leb point (envelope_sections m at)) refl
    where
      go : (t : Bool) → leb point (envelope_sections m at) ≡ t → Apart (signed_in kind) (value_shown m kind version at (envelope_sections m at) point)
      go true t = simp t (value-apart kind version at fits point (leb-true point (envelope_sections m at) t))
      go false t = simp t (zero-apart kind)

-- Two points, by their positions and values.
two-numbers : (signed : Bool) (p q : ℕ) (v w : ℤ) → Apart signed v → Apart signed w
    → (eqb p q && eqb (of_z w32 v) (of_z w32 w)) ≡ equal_bytes (bytes16 p ++ bytes16 (unsigned16 v)) (bytes16 q ++ bytes16 (unsigned16 w))
two-numbers signed p q v w h k =
    sym (equal-parts (bytes16 p) (bytes16 q) (bytes16 (unsigned16 v)) (bytes16 (unsigned16 w)) refl
    ∙ ap (◌&& equal_bytes (bytes16 (unsigned16 v)) (bytes16 (unsigned16 w))) (bytes16-same p q)
    ∙ ap (eqb p q &&◌) (bytes16-same (unsigned16 v) (unsigned16 w) ∙ sym (values_same signed v w h k)))

module _ (m k : List ℕ) (bytes : Bytes m) (others : Bytes k) (kind : EnvelopeKind) (version other at to : ℕ)
    (fits : ValuesScale m version (record_kind kind) at) (fits' : ValuesScale k other (record_kind kind) to) where
  -- A point, by the numbers that the code has read.
  pub point-same : (sections point : ℕ) → sections ≡ envelope_sections m at → sections ≡ envelope_sections k to
      → (p q : ℕ) (v w : ℤ) → p ≡ position_shown m at sections point → q ≡ position_shown k to sections point
      → v ≡ value_shown m kind version at sections point → w ≡ value_shown k kind other to sections point
      → (eqb p q && eqb (of_z w32 v) (of_z w32 w)) ≡ equal_bytes (point_record m kind version at point) (point_record k kind other to point)
  point-same sections point s t p q v w e f g h =
      let e' : p ≡ position_shown m at (envelope_sections m at) point = e ∙ ap (λ (n : ℕ). position_shown m at n point) s in
      let f' : q ≡ position_shown k to (envelope_sections k to) point = f ∙ ap (λ (n : ℕ). position_shown k to n point) t in
      let g' : v ≡ value_shown m kind version at (envelope_sections m at) point = g ∙ ap (λ (n : ℕ). value_shown m kind version at n point) s in
      let h' : w ≡ value_shown k kind other to (envelope_sections k to) point = h ∙ ap (λ (n : ℕ). value_shown k kind other to n point) t in
      two-numbers (signed_in kind) p q v w (rw g' (shown-apart m bytes kind version at point fits)) (rw h' (shown-apart k others kind other to point fits'))
      ∙ rw (e', f', g', h') refl

-- The points of two envelopes, one by one.
module _ (m k : List ℕ) (kind : EnvelopeKind) (version other at to : ℕ) where
  abbrev pub point_same : ℕ → Bool
  point_same point = equal_bytes (point_record m kind version at point) (point_record k kind other to point)

  abbrev pub points_same : ℕ → ℕ → Bool
  points_same n point = equal_bytes (points_from m kind version at n point) (points_from k kind other to n point)

  pub each-same : (n point : ℕ) → list_all point_same (range_with_len point n) ≡ points_same n point
  each-same zero point = refl
  each-same (suc n) point =
      ap (point_same point &&◌) (each-same n (point + 1))
      ∙ sym (equal-parts (point_record m kind version at point) (point_record k kind other to point) (points_from m kind version at n (point + 1))
      (points_from k kind other to n (point + 1)) refl)

-- The bytes before the points, and the points.
module _ (m k : List ℕ) (bytes : Bytes m) (others : Bytes k) (kind : EnvelopeKind) (version other at to : ℕ)
    (inside : at + 136 ≤ length m) (inside' : to + 136 ≤ length k) where
  head-is : part_of m at 8 ≡ bytes_from m at 8
  head-is = sym (bytes-part m 8 at (omega (arith, inside)))

  head-is' : part_of k to 8 ≡ bytes_from k to 8
  head-is' = sym (bytes-part k 8 to (omega (arith, inside')))

  in_parts : equal_bytes (record_at m version (record_kind kind) at) (record_at k other (record_kind kind) to)
      ≡ (equal_bytes (part_of m at 8) (part_of k to 8) && points_same m k kind version other at to 32 0)
  in_parts =
      rw (envelope-stored m bytes kind version at, envelope-stored k others kind other to, head-is, head-is')
      (equal-parts (bytes_from m at 8) (bytes_from k to 8) (points_from m kind version at 32 0) (points_from k kind other to 32 0) refl)

  -- By what the code has compared.
  module _ (a b : List ℕ) (p : a ≡ part_of m at 8) (q : b ≡ part_of k to 8) (r : Bool) (e : r ≡ equal_bytes a b) where
    abbrev records_same : Bool
    records_same = equal_bytes (record_at m version (record_kind kind) at) (record_at k other (record_kind kind) to)

    decided : (same : Bool) → r ≡ same → records_same ≡ (same && points_same m k kind version other at to 32 0)
    decided same h = in_parts ∙ ap (◌&& points_same m k kind version other at to 32 0) (sym (equal_of a b p q e) ∙ h)

    pub head-differs : r ≡ false → false ≡ records_same
    head-differs h = sym (decided false h)

    pub head-same : r ≡ true → (s : Bool) → s ≡ points_same m k kind version other at to 32 0 → s ≡ records_same
    head-same h s f = f ∙ sym (decided true h)

    pub sections-same : r ≡ true → envelope_sections m at ≡ envelope_sections k to
    sections-same h =
        let same : bytes_from m at 8 ≡ bytes_from k to 8 = sym head-is ∙ sym p ∙ equal-says a b (sym e ∙ h) ∙ q ∙ head-is' in
        let third : at + 1 + 1 + 1 ≡ at + 3 = omega arith in
        let third' : to + 1 + 1 + 1 ≡ to + 3 = omega arith in
        ap (byte_at m) (sym third) ∙ ap (λ (xs : List ℕ). get_or xs 3 0) same ∙ ap (byte_at k) third'
