-- The entries of one kind in the list of differences, number by number: one entry for a record of which the two modules do not show the
-- same; and for patterns with the same sizes, the entries of their cells.
use Prim.Native.Nat.{ℕ, ◌+◌, ◌-◌, ◌≤◌, ◌<◌, max}
use Rattle.std.specs.Prelude.{Result, Ok, Err}
use Rattle.refusal.specs.declared.Refusal.{Refusal}
use Rattle.queries.specs.declared.Block.{Block}
use mathlib.Core.Path.{◌≡◌, refl, sym, ap, subst, ◌∙◌}
use mathlib.Core.Logic.{◌↔◌, ◌⊎◌, inl, inr}
use mathlib.Core.List.{List, [], ◌∷◌}
use mathlib.Core.Bool.{Bool, true, false, cond, not}
use native.Mathlib.Omega.{arith}
use lib.Dec.{leb, ltb}
use borrow.Author.Tests.{leb-true, ltb-true, ltb-false, le-leb, lt-ltb}
use Rattle.vocabulary.proofs.Splits.{Within}
use Rattle.refusal.specs.Numbers.{refusal}
use Rattle.refusal.specs.declared.Reason.TheVariants.{NotThere}
use Rattle.numbers.specs.Numbers.{Bytes}
use Rattle.differences.specs.Differences.{whole_difference, difference_if}
use Rattle.differences.specs.declared.Difference.{Difference}
use Rattle.packed_rows.specs.Comparing.{stream_differences}
use Rattle.layout.specs.declared.Layout.{Layout}
use Rattle.blocks.specs.StoredFields.{pattern_rows, packed_bytes}
use Rattle.blocks.specs.RecordKinds.{count_of}
use Rattle.blocks.specs.declared.RecordKind.{RecordKind}
use Rattle.blocks.specs.declared.RecordKind.TheVariants.{Song, Instrument, Pattern, Sample, VolumeEnvelope, PanningEnvelope}
use Rattle.module.specs.Verdicts.{opened}
use Rattle.queries.specs.Finding.{first_of, there, block_of, found_in, found_if, found}
use Rattle.queries.proofs.Numbering.{found-there}
use Rattle.acceptance.proofs.Holding.{and-says, false-never}
use Rattle.compare.specs.Compared.{kind_of, block_differences, numbered_differences, kind_differences}
use Rattle.compare_theorems.proofs.InList.{in_one, in-joined}
use Rattle.compare_theorems.proofs.SameShown.{Same, same_test, first-only, second-only, both-lack, both-compared}

-- What is found for a number in the two modules: a block in both, in one of them or in none.
pub data WhichHave (m k : List ℕ) (l j : Layout) (kind : RecordKind) (number : ℕ) : Result Block Refusal → Result Block Refusal → Type 0 where
  both : there m l kind number ≡ true → there k j kind number ≡ true
      → WhichHave m k l j kind number (Ok (block_of m l kind number)) (Ok (block_of k j kind number))
  first : there m l kind number ≡ true → there k j kind number ≡ false
      → WhichHave m k l j kind number (Ok (block_of m l kind number)) (Err (refusal NotThere 0))
  second : there m l kind number ≡ false → there k j kind number ≡ true
      → WhichHave m k l j kind number (Err (refusal NotThere 0)) (Ok (block_of k j kind number))
  neither : there m l kind number ≡ false → there k j kind number ≡ false
      → WhichHave m k l j kind number (Err (refusal NotThere 0)) (Err (refusal NotThere 0))

-- The entries for two blocks of which the same is shown: those of the cells of two patterns; none for the other kinds.
abbrev pub cell_entries : List ℕ → Layout → List ℕ → Layout → RecordKind → ℕ → ℕ → ℕ → List Difference
cell_entries m l k j Song number at to = []
cell_entries m l k j Instrument number at to = []
cell_entries m l k j Pattern number at to = stream_differences (packed_bytes m at) (packed_bytes k to) (pattern_rows m at) l.tracks number
cell_entries m l k j Sample number at to = []
cell_entries m l k j VolumeEnvelope number at to = []
cell_entries m l k j PanningEnvelope number at to = []

-- Two blocks: one entry, or those of the cells.
module _ (m k : List ℕ) (l j : Layout) where
  block-entries : (kind : RecordKind) (number at to : ℕ)
      → block_differences m l k j kind number at to
      ≡ cond (same_test m l k j kind at to) (cell_entries m l k j kind number at to) (whole_difference (kind_of kind) number ∷ [])
  block-entries kind number at to = go kind
    where
      one : (same : Bool) (e : Difference) → difference_if (not same) e ≡ cond same [] (e ∷ [])
      one true e = refl
      one false e = refl

      go : (kind : RecordKind)
          → block_differences m l k j kind number at to
          ≡ cond (same_test m l k j kind at to) (cell_entries m l k j kind number at to) (whole_difference (kind_of kind) number ∷ [])
      go Song = one (same_test m l k j Song at to) _
      go Instrument = one (same_test m l k j Instrument at to) _
      go Pattern = refl
      go Sample = one (same_test m l k j Sample at to) _
      go VolumeEnvelope = one (same_test m l k j VolumeEnvelope at to) _
      go PanningEnvelope = one (same_test m l k j PanningEnvelope at to) _

-- A number that a module has.
pub there-says : (m : List ℕ) (l : Layout) (kind : RecordKind) (number : ℕ)
    → (there m l kind number ≡ true) ↔ ((first_of kind ≤ number) × (number < first_of kind + count_of m l kind))
there-says m l kind number =
    let tests = and-says (leb (first_of kind) number) (ltb (number - first_of kind) (count_of m l kind)) in (
      λ h.
          let least = leb-true (first_of kind) number (tests.0 h).0 in
          let most = ltb-true (number - first_of kind) (count_of m l kind) (tests.0 h).1 in
          (least, omega (arith, least, most)),
      λ h.
          let least = h.0 in
          let most = h.1 in
          tests.1 (le-leb (first_of kind) number least, lt-ltb (number - first_of kind) (count_of m l kind) (omega (arith, least, most))),
    )

module _ (m k : List ℕ) (l j : Layout) (o : opened m ≡ Ok l) (p : opened k ≡ Ok j) (kind : RecordKind) where
  pub which-have : (number : ℕ) → WhichHave m k l j kind number (found m kind number) (found k kind number)
  which-have number =
      subst (λ (f : Result Block Refusal). WhichHave m k l j kind number f (found k kind number)) (sym (ap (found_if m kind number) o))
      (subst (λ (g : Result Block Refusal). WhichHave m k l j kind number (found_in m l kind number) g) (sym (ap (found_if k kind number) p))
      (go (there m l kind number) (there k j kind number) refl refl))
    where
      go : (t u : Bool) → there m l kind number ≡ t → there k j kind number ≡ u
          → WhichHave m k l j kind number (cond t (Ok (block_of m l kind number)) (Err (refusal NotThere 0)))
          (cond u (Ok (block_of k j kind number)) (Err (refusal NotThere 0)))
      go true true t u = both t u
      go true false t u = first t u
      go false true t u = second t u
      go false false t u = neither t u

-- What is in the list for a kind.
pub data KindDiffers (m k : List ℕ) (l j : Layout) (kind : RecordKind) (d : Difference) : Type 0 where
  whole : (number : ℕ) → (Same m k kind number → ⊥) → d ≡ whole_difference (kind_of kind) number → KindDiffers m k l j kind d
  cells : (number : ℕ) → found m kind number ≡ Ok (block_of m l kind number) → found k kind number ≡ Ok (block_of k j kind number) → Same m k kind number
      → Within (cell_entries m l k j kind number (block_of m l kind number).at (block_of k j kind number).at) d
      → KindDiffers m k l j kind d

module _ (m k : List ℕ) (bytes : Bytes m) (others : Bytes k) (l j : Layout) (o : opened m ≡ Ok l) (p : opened k ≡ Ok j) (kind : RecordKind) where
  abbrev at : ℕ → ℕ
  at number = (block_of m l kind number).at

  abbrev to : ℕ → ℕ
  to number = (block_of k j kind number).at

  -- Records that both modules have.
  module _ (number : ℕ) (e : found m kind number ≡ Ok (block_of m l kind number)) (f : found k kind number ≡ Ok (block_of k j kind number)) where
    compared : (same_test m l k j kind (at number) (to number) ≡ true) ↔ Same m k kind number
    compared = rw (e, f) (both-compared m k bytes others l j o p kind number e f)

    block-entry : (d : Difference) → Within (block_differences m l k j kind number (at number) (to number)) d → KindDiffers m k l j kind d
    block-entry d w =
        go (same_test m l k j kind (at number) (to number)) refl
        (subst (λ (ds : List Difference). Within ds d) (block-entries m k l j kind number (at number) (to number)) w)
      where
        go : (t : Bool) → same_test m l k j kind (at number) (to number) ≡ t
            → Within (cond t (cell_entries m l k j kind number (at number) (to number)) (whole_difference (kind_of kind) number ∷ [])) d
            → KindDiffers m k l j kind d
        go true t v = cells number e f (compared.0 t) v
        go false t v = whole number (λ s. false-never (sym t ∙ compared.1 s)) ((in_one _).0 v)

    block-whole : (Same m k kind number → ⊥) → Within (block_differences m l k j kind number (at number) (to number)) (whole_difference (kind_of kind) number)
    block-whole h =
        subst (λ (ds : List Difference). Within ds (whole_difference (kind_of kind) number))
        (sym (block-entries m k l j kind number (at number) (to number)))
        (go (same_test m l k j kind (at number) (to number)) refl)
      where
        go : (t : Bool) → same_test m l k j kind (at number) (to number) ≡ t
            → Within (cond t (cell_entries m l k j kind number (at number) (to number)) (whole_difference (kind_of kind) number ∷ []))
            (whole_difference (kind_of kind) number)
        go true t = absurd (h (compared.0 t))
        go false t = (in_one _).1 refl

    block-cells : (d : Difference) → Same m k kind number → Within (cell_entries m l k j kind number (at number) (to number)) d
        → Within (block_differences m l k j kind number (at number) (to number)) d
    block-cells d s w =
        subst (λ (ds : List Difference). Within ds d) (sym (block-entries m k l j kind number (at number) (to number)))
        (rw (compared.1 s) w)

  -- The numbers that are compared are those that one of the modules has.
  numbered : (number : ℕ) → first_of kind ≤ number → number < first_of kind + max (count_of m l kind) (count_of k j kind)
      → (there m l kind number ≡ true) ⊎ (there k j kind number ≡ true)
  numbered number least most = go (ltb number (first_of kind + count_of m l kind)) refl
    where
      go : (t : Bool) → ltb number (first_of kind + count_of m l kind) ≡ t → (there m l kind number ≡ true) ⊎ (there k j kind number ≡ true)
      go true t = inl ((there-says m l kind number).1 (least, ltb-true number _ t))
      go false t = let over = ltb-false number (first_of kind + count_of m l kind) t in inr ((there-says k j kind number).1 (least, omega (arith, most, over)))

  -- The list of a number that one of the modules has.
  number-entry : (number : ℕ) (d : Difference) → (there m l kind number ≡ true) ⊎ (there k j kind number ≡ true)
      → Within (numbered_differences m l k j kind number) d → KindDiffers m k l j kind d
  number-entry number d = go refl refl (which-have m k l j o p kind number)
    where
      go : {f g : Result Block Refusal} → found m kind number ≡ f → found k kind number ≡ g → WhichHave m k l j kind number f g
          → (there m l kind number ≡ true) ⊎ (there k j kind number ≡ true)
          → Within (numbered_differences m l k j kind number) d → KindDiffers m k l j kind d
      go e f (both t u) h w = block-entry number e f d (rw (t, u) at w)
      go e f (first t u) h w = whole number (λ s. first-only m k (block_of m l kind number) kind (rw (e, f) at s)) ((in_one _).0 (rw (t, u) at w))
      go e f (second t u) h w = whole number (λ s. second-only m k (block_of k j kind number) kind (rw (e, f) at s)) ((in_one _).0 (rw t at w))
      go e f (neither t u) (inl h) w = false-never (sym t ∙ h)
      go e f (neither t u) (inr h) w = false-never (sym u ∙ h)

  -- The list of all numbers has what is in the list of a number that one of the modules has.
  in-kind : (number : ℕ) (d : Difference) → (there m l kind number ≡ true) ⊎ (there k j kind number ≡ true)
      → Within (numbered_differences m l k j kind number) d → Within (kind_differences m l k j kind) d
  in-kind number d h w =
      (in-joined (numbered_differences m l k j kind) (first_of kind) (max (count_of m l kind) (count_of k j kind))).1
      (record { number = number; least = (range h).0; most = (range h).1; within = w })
    where
      range : (there m l kind number ≡ true) ⊎ (there k j kind number ≡ true)
          → (first_of kind ≤ number) × (number < first_of kind + max (count_of m l kind) (count_of k j kind))
      range (inl t) = let says = (there-says m l kind number).0 t in (says.0, omega (arith, says.1))
      range (inr t) = let says = (there-says k j kind number).0 t in (says.0, omega (arith, says.1))

  whole_in : (number : ℕ) → (Same m k kind number → ⊥) → Within (kind_differences m l k j kind) (whole_difference (kind_of kind) number)
  whole_in number = go refl refl (which-have m k l j o p kind number)
    where
      go : {f g : Result Block Refusal} → found m kind number ≡ f → found k kind number ≡ g → WhichHave m k l j kind number f g → (Same m k kind number → ⊥)
          → Within (kind_differences m l k j kind) (whole_difference (kind_of kind) number)
      go e f (both t u) h = in-kind number _ (inl t) (rw (t, u) (block-whole number e f h))
      go e f (first t u) h = in-kind number _ (inl t) (rw (t, u) ((in_one _).1 refl))
      go e f (second t u) h = in-kind number _ (inr u) (rw t ((in_one _).1 refl))
      go e f (neither t u) h = absurd (h (rw (e, f) (both-lack m k kind)))

  cells_in : (number : ℕ) (d : Difference) → found m kind number ≡ Ok (block_of m l kind number) → found k kind number ≡ Ok (block_of k j kind number)
      → Same m k kind number → Within (cell_entries m l k j kind number (at number) (to number)) d
      → Within (kind_differences m l k j kind) d
  cells_in number d e f s w =
      let t = (found-there m l kind number _ (sym (ap (found_if m kind number) o) ∙ e)).0 in
      let u = (found-there k j kind number _ (sym (ap (found_if k kind number) p) ∙ f)).0 in
      in-kind number d (inl t) (rw (t, u) (block-cells number e f d s w))

  pub kind-exact : (d : Difference) → Within (kind_differences m l k j kind) d ↔ KindDiffers m k l j kind d
  kind-exact d = (
    λ w.
        let a = (in-joined (numbered_differences m l k j kind) (first_of kind) (max (count_of m l kind) (count_of k j kind))).0 w in
        number-entry a.number d (numbered a.number a.least a.most) a.within,
    back,
  )
    where
      back : KindDiffers m k l j kind d → Within (kind_differences m l k j kind) d
      back (whole number h e) = subst (Within (kind_differences m l k j kind)) (sym e) (whole_in number h)
      back (cells number e f s w) = cells_in number d e f s w

  -- Whether the same is shown is decided by the test.
  pub same_or_not : (number : ℕ) → Same m k kind number ⊎ (Same m k kind number → ⊥)
  same_or_not number = go refl refl (which-have m k l j o p kind number)
    where
      tested : found m kind number ≡ Ok (block_of m l kind number) → found k kind number ≡ Ok (block_of k j kind number)
          → (t : Bool) → same_test m l k j kind (at number) (to number) ≡ t → Same m k kind number ⊎ (Same m k kind number → ⊥)
      tested e f true t = inl ((compared number e f).0 t)
      tested e f false t = inr (λ s. false-never (sym t ∙ (compared number e f).1 s))

      go : {f g : Result Block Refusal} → found m kind number ≡ f → found k kind number ≡ g → WhichHave m k l j kind number f g
          → Same m k kind number ⊎ (Same m k kind number → ⊥)
      go e f (both t u) = tested e f (same_test m l k j kind (at number) (to number)) refl
      go e f (first t u) = inr (λ s. first-only m k (block_of m l kind number) kind (rw (e, f) at s))
      go e f (second t u) = inr (λ s. second-only m k (block_of k j kind number) kind (rw (e, f) at s))
      go e f (neither t u) = inl (rw (e, f) (both-lack m k kind))
