-- The values of envelopes that queries show (theorem 18): the module is accepted, so the values of the points in use fit; the others are
-- shown as 0.
use Prim.Native.Nat.{ℕ, zero, suc, ◌+◌, ◌-◌, ◌*◌, ◌≤◌, ◌<◌}
use Rattle.std.specs.Prelude.{Result, Ok, Err}
use Rattle.refusal.specs.declared.Refusal.{Refusal}
use mathlib.Core.Path.{◌≡◌, refl, sym, ap, subst, ◌∙◌}
use mathlib.Core.List.{List}
use mathlib.Core.Bool.{Bool, true, false, cond}
use native.Mathlib.Omega.{arith}
use lib.ListN.{get_or, replicate, get_or-eq_default}
use lib.Dec.{eqb, leb, ltb}
use lib.IntN.{ℤ, pos, negsuc, ◌-ℤ◌}
use borrow.Author.Tests.{leb-true, ltb-true, ltb-false, eqb-true, le-leb, lt-ltb}
use Rattle.numbers.specs.Numbers.{signed16, each_from}
use Rattle.numbers.proofs.Each.{each-length}
use Rattle.blocks.specs.StoredFields.{envelope_sections, envelope_value}
use Rattle.blocks.specs.Sizes.{size_of, first_block, envelope_count}
use Rattle.blocks.specs.declared.BlockKind.TheVariants.{Envelope}
use Rattle.blocks.specs.declared.RecordKind.TheVariants.{VolumeEnvelope, PanningEnvelope}
use Rattle.fields.specs.Fields.{value_fits, envelope_rules}
use Rattle.queries.specs.Finding.{found}
use Rattle.queries.specs.declared.Block.{Block}
use Rattle.acceptance.proofs.OpenModules.{module-opens}
use Rattle.acceptance.proofs.Holding.{every-place, AllHold}
use Rattle.acceptance.proofs.BlockFields.{le_z-says, panning-says}
use Rattle.acceptance.proofs.PointsInUse.{sections-fit, value-fits}
use Rattle.envelopes.specs.Shown.{record_kind, value_of, value_shown, envelope_if}
use Rattle.envelopes.specs.declared.EnvelopeKind.{EnvelopeKind}
use Rattle.envelopes.specs.declared.EnvelopeKind.TheVariants.{Volume, Panning}
use Rattle.query_theorems.specs.Queries.{value_at, Between}
use Rattle.query_theorems.proofs.FoundBlocks.{found-numbered, found-opened}

-- The element of a list that a function fills, and of a list of one value.
each_at : {A : Type 0} (f : ℕ → A) (other : A) (n k i : ℕ) → i < n → get_or (each_from f k n) i other ≡ f (k + i)
each_at f other zero k i h = absurd (omega arith)
each_at f other (suc n) k zero h = ap f (omega arith)
each_at f other (suc n) k (suc i) h = each_at f other n (k + 1) i (omega arith) ∙ ap f (omega arith)

same_at : {A : Type 0} (x : A) (n i : ℕ) → get_or (replicate n x) i x ≡ x
same_at x zero i = refl
same_at x (suc n) zero = refl
same_at x (suc n) (suc i) = same_at x n i

-- The rules of an envelope that is found.
volume-holds : (m : List ℕ) (envelope : ℕ) (b : Block) → found m VolumeEnvelope envelope ≡ Ok b
    → (instruments : ℕ) × AllHold (envelope_rules m instruments false b.at)
volume-holds m envelope b e =
    let (l, o) = found-opened m VolumeEnvelope envelope b e in
    let s = found-numbered m VolumeEnvelope envelope b l o e in
    let rules = (module-opens m l o).content.fields.volume_envelopes in (
      l.instruments,
      subst (λ (c : Block). AllHold (envelope_rules m l.instruments false c.at)) (sym s.block)
          ((every-place (λ at. AllHold (envelope_rules m l.instruments false at)) (size_of Envelope m)
          (envelope_count m l.spans.venv) (first_block Envelope l.spans.venv)).0 rules (envelope - 0) s.counted),
    )

panning-holds : (m : List ℕ) (envelope : ℕ) (b : Block) → found m PanningEnvelope envelope ≡ Ok b
    → (instruments : ℕ) × AllHold (envelope_rules m instruments (eqb b.version 3) b.at)
panning-holds m envelope b e =
    let (l, o) = found-opened m PanningEnvelope envelope b e in
    let s = found-numbered m PanningEnvelope envelope b l o e in
    let rules = (module-opens m l o).content.fields.panning_envelopes in (
      l.instruments,
      subst (λ (c : Block). AllHold (envelope_rules m l.instruments (eqb c.version 3) c.at)) (sym s.block)
          ((every-place (λ at. AllHold (envelope_rules m l.instruments (eqb l.version 3) at)) (size_of Envelope m)
          (envelope_count m l.spans.penv) (first_block Envelope l.spans.penv)).0 rules (envelope - 0) s.counted),
    )

-- The value that is shown for a point of an envelope that is found.
point-shown : (m : List ℕ) (kind : EnvelopeKind) (envelope : ℕ) (b : Block) → found m (record_kind kind) envelope ≡ Ok b
    → (point : ℕ) → point < 32
    → value_at m kind envelope point ≡ value_shown m kind b.version b.at (envelope_sections m b.at) point
point-shown m kind envelope b e point h =
    ap (λ (f : Result Block Refusal). get_or (envelope_if m kind f).values point (pos 0)) e
    ∙ each_at (value_shown m kind b.version b.at (envelope_sections m b.at)) (pos 0) 32 0 point h
    ∙ ap (value_shown m kind b.version b.at (envelope_sections m b.at)) (omega arith)

-- What holds for 0 and for each value in use holds for each value that is shown.
each-value : (P : ℤ → Type 0) (m : List ℕ) (kind : EnvelopeKind) (envelope : ℕ) → P (pos 0)
    → ((b : Block) → found m (record_kind kind) envelope ≡ Ok b → (point : ℕ) → point ≤ envelope_sections m b.at
    → P (value_of kind b.version (envelope_value m b.at point))) → (point : ℕ)
    → P (value_at m kind envelope point)
each-value P m kind envelope none each point = go (found m (record_kind kind) envelope) refl
  where
    used : (b : Block) → found m (record_kind kind) envelope ≡ Ok b → (t : Bool) → leb point (envelope_sections m b.at) ≡ t
        → P (cond t (value_of kind b.version (envelope_value m b.at point)) (pos 0))
    used b e true h = each b e point (leb-true point (envelope_sections m b.at) h)
    used b e false h = none

    within : (b : Block) → found m (record_kind kind) envelope ≡ Ok b → (t : Bool) → ltb point 32 ≡ t → P (value_at m kind envelope point)
    within b e true h = subst P (sym (point-shown m kind envelope b e point (ltb-true point 32 h))) (used b e (leb point (envelope_sections m b.at)) refl)
    within b e false h =
        let values : List ℤ = each_from (value_shown m kind b.version b.at (envelope_sections m b.at)) 0 32 in
        let past : get_or values point (pos 0) ≡ pos 0 =
        get_or-eq_default values (pos 0) {n = point}
        (omega (arith, each-length (value_shown m kind b.version b.at (envelope_sections m b.at)) 32 0, ltb-false point 32 h)) in
        subst P (sym (ap (λ (f : Result Block Refusal). get_or (envelope_if m kind f).values point (pos 0)) e ∙ past)) none

    go : (f : Result Block Refusal) → found m (record_kind kind) envelope ≡ f → P (value_at m kind envelope point)
    go (Ok b) e = within b e (ltb point 32) refl
    go (Err r) e = subst P (sym (ap (λ (f : Result Block Refusal). get_or (envelope_if m kind f).values point (pos 0)) e ∙ same_at (pos 0) 32 point)) none

-- The ranges of the shown values.
zero-panning : Between (negsuc 127) (pos 128) (pos 0)
zero-panning = (record { le = tt }, record { le = tt })

scaled-between : (v : ℕ) → v ≤ 64 → Between (negsuc 127) (pos 128) (pos (4 * v) -ℤ pos 128)
scaled-between v h = go (ltb (4 * v) 128) refl
  where
    go : (t : Bool) → ltb (4 * v) 128 ≡ t → Between (negsuc 127) (pos 128) (cond t (negsuc (128 - suc (4 * v))) (pos (4 * v - 128)))
    go true less = ((le_z-says _ _).0 (le-leb (128 - suc (4 * v)) 127 (omega arith)), record { le = tt })
    go false over = (record { le = tt }, (le_z-says _ _).0 (le-leb (4 * v - 128) 128 (omega arith)))

small-between : (v : ℕ) → v ≤ 64 → Between (negsuc 127) (pos 128) (signed16 v)
small-between v h = rw (lt-ltb v 32768 (omega arith)) (record { le = tt }, (le_z-says (pos v) (pos 128)).0 (le-leb v 128 (omega arith)))

panning-between : (version v : ℕ) → value_fits (eqb version 3) v ≡ true → Between (negsuc 127) (pos 128) (value_of Panning version v)
panning-between version v = go (eqb version 2) (eqb version 3) refl refl
  where
    go : (two three : Bool) → eqb version 2 ≡ two → eqb version 3 ≡ three → value_fits three v ≡ true
        → Between (negsuc 127) (pos 128) (cond two (pos (4 * v) -ℤ pos 128) (signed16 v))
    go true true a c h = absurd (omega (arith, eqb-true version 2 a, eqb-true version 3 c))
    go true false a c h = scaled-between v (leb-true v 64 h)
    go false true a c h = (panning-says v).0 h
    go false false a c h = small-between v (leb-true v 64 h)

pub volume-values : (m : List ℕ) (envelope point : ℕ) → Between (pos 0) (pos 64) (value_at m Volume envelope point)
volume-values m envelope = each-value (Between (pos 0) (pos 64)) m Volume envelope (record { le = tt }, record { le = tt }) each
  where
    each : (b : Block) → found m VolumeEnvelope envelope ≡ Ok b → (point : ℕ) → point ≤ envelope_sections m b.at
        → Between (pos 0) (pos 64) (pos (envelope_value m b.at point))
    each b e point h =
        let (instruments, hold) = volume-holds m envelope b e in
        let v = envelope_value m b.at point in
        ((le_z-says (pos 0) (pos v)).0 (le-leb 0 v (omega arith)), (le_z-says (pos v) (pos 64)).0 (value-fits m instruments false b.at hold point h))

pub panning-values : (m : List ℕ) (envelope point : ℕ) → Between (negsuc 127) (pos 128) (value_at m Panning envelope point)
panning-values m envelope = each-value (Between (negsuc 127) (pos 128)) m Panning envelope zero-panning each
  where
    each : (b : Block) → found m PanningEnvelope envelope ≡ Ok b → (point : ℕ) → point ≤ envelope_sections m b.at
        → Between (negsuc 127) (pos 128) (value_of Panning b.version (envelope_value m b.at point))
    each b e point h =
        let (instruments, hold) = panning-holds m envelope b e in
        panning-between b.version (envelope_value m b.at point) (value-fits m instruments (eqb b.version 3) b.at hold point h)

-- Version 2: the scaled panning values.
pub panning-scaled : (m : List ℕ) (envelope : ℕ) (b : Block) → found m PanningEnvelope envelope ≡ Ok b → b.version ≡ 2
    → (point : ℕ) → point ≤ envelope_sections m b.at
    → (envelope_value m b.at point ≤ 64) × (value_at m Panning envelope point ≡ pos (4 * envelope_value m b.at point) -ℤ pos 128)
panning-scaled m envelope b e two point h =
    let (instruments, hold) = panning-holds m envelope b e in
    let fits = value-fits m instruments (eqb b.version 3) b.at hold point h in
    let sections = sections-fit m instruments (eqb b.version 3) b.at hold in (
      leb-true (envelope_value m b.at point) 64 (rw two at fits),
      point-shown m Panning envelope b e point (omega arith) ∙ rw (le-leb point (envelope_sections m b.at) h, two),
    )
