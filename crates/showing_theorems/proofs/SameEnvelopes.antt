-- Envelopes: every field and every point is in the envelope's block. How panning values are shown depends on the version.
use Prim.Native.Nat.{ℕ, ◌+◌, ◌*◌, ◌≤◌}
use mathlib.Core.Path.{◌≡◌, refl}
use mathlib.Core.List.{List}
use mathlib.Core.Bool.{cond}
use native.Mathlib.Omega.{arith}
use native.Mathlib.Nat.{add_assoc}
use lib.Dec.{leb}
use lib.IntN.{pos}
use Rattle.numbers.specs.Numbers.{number16, each_from}
use Rattle.blocks.specs.StoredFields.{envelope_sections}
use Rattle.blocks.specs.Sizes.{size_of}
use Rattle.blocks.specs.declared.BlockKind.TheVariants.{Envelope}
use Rattle.envelopes.specs.Shown.{record_kind, value_of, shown_envelope, envelope_if, envelope_answer, count_if, count_answer}
use Rattle.envelopes.specs.declared.EnvelopeKind.{EnvelopeKind}
use Rattle.envelopes.specs.declared.EnvelopeKind.TheVariants.{Volume, Panning}
use Rattle.showing_theorems.proofs.Alike.{SameBlock, SameRecord, Alike}
use Rattle.showing_theorems.proofs.SameBytes.{each_same, same_if, same_byte, same-16, same-first16}
use Rattle.showing_theorems.proofs.AlikeAnswers.{by-opening, by-finding}

-- One of the two numbers of a point, as it is shown if the point is in use; `offset` is that of the first point's number in the block.
abbrev point_shown : {A : Type 0} → (ℕ → A) → A → ℕ → ℕ → List ℕ → ℕ → ℕ → A
point_shown shown unused offset sections m at point = cond (leb point sections) (shown (number16 m (at + offset + 4 * point))) unused

module _ {m n : List ℕ} {at to : ℕ} (s : SameBlock Envelope m n at to) where
  points-same : {A : Type 0} (shown : ℕ → A) (unused : A) (offset sections : ℕ) → offset ≤ 10
      → each_from (point_shown shown unused offset sections n to) 0 32 ≡ each_from (point_shown shown unused offset sections m at) 0 32
  unfolding size_of
  points-same shown unused offset sections first =
      each_same (point_shown shown unused offset sections n to) (point_shown shown unused offset sections m at) 32 0 0
      (λ i h. same_if (leb (0 + i) sections) unused (λ used. simp add_assoc (rw (same-16 s (offset + 4 * (0 + i)) (omega arith)))))

  pub envelope-same : (kind : EnvelopeKind) {version other : ℕ} → other ≡ version → shown_envelope n kind other to ≡ shown_envelope m kind version at
  unfolding size_of
  envelope-same kind {version} v =
      rw (
        v,
        same-first16 s (omega arith),
        same_byte s 2 (omega arith),
        same_byte s 3 (omega arith),
        same_byte s 4 (omega arith),
        same_byte s 5 (omega arith),
        same_byte s 6 (omega arith),
        same_byte s 7 (omega arith),
        points-same (λ v. v) 0 8 (envelope_sections m at) (omega arith),
        points-same (value_of kind version) (pos 0) 10 (envelope_sections m at) (omega arith),
      )

-- Envelopes of either kind are the same if their blocks are.
envelope-block : (kind : EnvelopeKind) (tracks : ℕ) {m n : List ℕ} {at to : ℕ} → SameRecord (record_kind kind) tracks m n at to → SameBlock Envelope m n at to
envelope-block Volume tracks s = s
envelope-block Panning tracks s = s

module _ {m n : List ℕ} (a : Alike m n) where
  pub same-envelopes : (kind : EnvelopeKind) → count_answer n kind ≡ count_answer m kind
  same-envelopes Volume = by-opening a (count_if m Volume) (count_if n Volume) (rw a.volume_envelopes)
  same-envelopes Panning = by-opening a (count_if m Panning) (count_if n Panning) (rw a.panning_envelopes)

  pub same-envelope : (kind : EnvelopeKind) (envelope : ℕ) → envelope_answer n kind envelope ≡ envelope_answer m kind envelope
  same-envelope kind envelope =
      by-finding a (record_kind kind) envelope (envelope_if m kind) (envelope_if n kind) (λ r. refl)
      (λ b c e v t s. envelope-same (envelope-block kind b.tracks s) kind v)
