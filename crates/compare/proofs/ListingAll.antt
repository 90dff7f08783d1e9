-- Lists that are listed one after the other: those of the records of a kind, the numbers of INFO, and all differences.
use Prim.Native.Nat.{ℕ, zero, suc, ◌+◌, ◌-◌, ◌<◌, ◌≤◌, min, max}
use mathlib.Core.Path.{◌≡◌, refl, sym, ap, subst, ◌∙◌}
use mathlib.Core.List.{List, [], ◌∷◌, ◌++◌, map, append_assoc, append-nil}
use native.Mathlib.Omega.{arith}
use native.Mathlib.Numerals.{add-one}
use lib.ListN.{length, drop, get_or, length-append, drop_of_length-le}
use Rattle.vocabulary.specs.Lists.{joined}
use Rattle.numbers.specs.Numbers.{Bytes}
use Rattle.differences.specs.Differences.{entries_listed}
use Rattle.differences.specs.declared.Difference.{Difference}
use Rattle.differences.proofs.Listing.{listed-append, Listing, listing-length, listing-turn, listing-last}
use Rattle.packed_rows.specs.ComparingSteps.{SmallCount}
use Rattle.layout.specs.declared.Layout.{Layout}
use Rattle.blocks.specs.RecordKinds.{count_of}
use Rattle.blocks.specs.declared.RecordKind.{RecordKind}
use Rattle.blocks.specs.declared.RecordKind.TheVariants.{Song, Instrument, Pattern, Sample, VolumeEnvelope, PanningEnvelope}
use Rattle.queries.specs.Finding.{first_of}
use Rattle.compare.specs.Compared.{name_differences, info_differences, kind_differences, differences}
use Rattle.compare.specs.Steps.{BothOpen, common_differences, whole_differences}
use Rattle.compare.proofs.EntryCounts.{differences-small}
use Rattle.compare.proofs.WalkingRecords.{kind-split}

-- What a function does that lists entries after n others: it returns their number, and the output has them.
abbrev pub Lists : List Difference → ℕ → List ℕ → ℕ → List ℕ → Type 0
Lists ds n out r out' = (r ≡ length ds) × (out' ≡ entries_listed ds n out)

-- Two lists, one after the other.
pub lists-two : (a b : List Difference) (n : ℕ) (out : List ℕ) {r s : ℕ} {out₁ out₂ : List ℕ} → Lists a n out r out₁ → Lists b (n + r) out₁ s out₂
    → Lists (a ++ b) n out (r + s) out₂
lists-two a b n out {r} {s} {out₁} {out₂} one two = (
  omega (arith, length-append a b, one.0, two.0),
  two.1
      ∙ ap (entries_listed b (n + r)) one.1
      ∙ ap (λ (i : ℕ). entries_listed b (n + i) (entries_listed a n out)) one.0
      ∙ sym (listed-append a b n out),
)

lists-same : {a b : List Difference} → a ≡ b → (n : ℕ) (out : List ℕ) {r : ℕ} {out' : List ℕ} → Lists a n out r out' → Lists b n out r out'
lists-same e n out {r} {out'} lists = subst (λ (ds : List Difference). Lists ds n out r out') e lists

-- The same after another number of entries that is equal.
pub lists-at : (ds : List Difference) (out : List ℕ) {to n r : ℕ} {out' : List ℕ} → to ≡ n → Lists ds to out r out' → Lists ds n out r out'
lists-at ds out {to} {n} {r} {out'} same lists = subst (λ (i : ℕ). Lists ds i out r out') same lists

lists-front : (ds : List Difference) (out : List ℕ) (n : ℕ) {r : ℕ} {out' : List ℕ} → Lists ds n out r out' → Lists ds (0 + n) out r out'
lists-front ds out n lists = lists-at ds out (omega arith) lists

-- All records of a kind.
module _ (m : List ℕ) (l : Layout) (k : List ℕ) (j : Layout) (kind : RecordKind) (n : ℕ) (out : List ℕ) {first a b common : ℕ}
    (first-is : first ≡ first_of kind) (a-is : a ≡ count_of m l kind) (b-is : b ≡ count_of k j kind) (common-is : common ≡ min a b)
  where
    pub kind-small : SmallCount (n + length (kind_differences m l k j kind)) → SmallCount (n + length (common_differences m l k j kind common))
    kind-small small =
        let rest = whole_differences kind (first + common) (first + max a b - (first + common)) in
        let all : length (kind_differences m l k j kind) ≡ length (common_differences m l k j kind common) + length rest =
        ap length (kind-split m l k j kind first-is a-is b-is common-is refl) ∙ length-append (common_differences m l k j kind common) rest in
        omega (arith, small, all)

    pub kind-listed : {more : ℕ} → more ≡ max a b → {r s : ℕ} {out₁ out₂ : List ℕ} → Lists (common_differences m l k j kind common) n out r out₁
        → Lists (whole_differences kind (first + common) (first + more - (first + common))) (n + r) out₁ s out₂
        → Lists (kind_differences m l k j kind) n out (r + s) out₂
    kind-listed {more} more-is one two =
        lists-same (sym (kind-split m l k j kind first-is a-is b-is common-is more-is)) n out
        (lists-two (common_differences m l k j kind common) (whole_differences kind (first + common) (first + more - (first + common))) n out one two)

-- The numbers of INFO.
pub five-listed : (a b c d e : List Difference) (n : ℕ) (out : List ℕ) {r s t u v : ℕ} {out₁ out₂ out₃ out₄ out₅ : List ℕ}
    → Lists a n out r out₁ → Lists b (n + r) out₁ s out₂ → Lists c (n + (r + s)) out₂ t out₃ → Lists d (n + (r + s + t)) out₃ u out₄
    → Lists e (n + (r + s + t + u)) out₄ v out₅
    → Lists (a ++ (b ++ (c ++ (d ++ e)))) n out (r + s + t + u + v) out₅
five-listed a b c d e n out one two three four five =
    let same : (((a ++ b) ++ c) ++ d) ++ e ≡ a ++ (b ++ (c ++ (d ++ e))) = simp append_assoc in
    lists-same same n out
    (lists-two (((a ++ b) ++ c) ++ d) e n out
    (lists-two ((a ++ b) ++ c) d n out (lists-two (a ++ b) c n out (lists-two a b n out one two) three) four) five)

-- All differences: the name, INFO, and the kinds one after the other.
abbrev pub kinds : List RecordKind
kinds = Song ∷ Instrument ∷ VolumeEnvelope ∷ PanningEnvelope ∷ Sample ∷ Pattern ∷ []

module _ (m : List ℕ) (l : Layout) (k : List ℕ) (j : Layout) where
  abbrev pub of_kinds : List RecordKind → List Difference
  of_kinds some = joined (map (kind_differences m l k j) some)

  kind-next : (some : List RecordKind) (i : ℕ) → i < length some
      → of_kinds (drop i some) ≡ kind_differences m l k j (get_or some i Song) ++ of_kinds (drop (suc i) some)
  kind-next [] i h = absurd (omega arith)
  kind-next (kind ∷ some) zero h = refl
  kind-next (kind ∷ some) (suc i) h = kind-next some i (omega arith)

  in_parts : differences m l k j ≡ (name_differences m l k j ++ info_differences l j) ++ of_kinds kinds
  in_parts = sym (simp (append_assoc, append-nil))

  -- The loop over the kinds: those before an index are listed.
  abbrev pub KindsFrom : List ℕ → List ℕ → ℕ → ℕ → Type 0
  KindsFrom out₀ out n i = Listing (differences m l k j) 0 out₀ out n (of_kinds (drop i kinds))

  pub kinds-first : {out out₁ out₂ : List ℕ} {r s : ℕ} → Lists (name_differences m l k j) 0 out r out₁ → Lists (info_differences l j) r out₁ s out₂
      → KindsFrom out out₂ (r + s) 0
  kinds-first {out} {out₁} {r = r} one two =
      let both = lists-two (name_differences m l k j) (info_differences l j) 0 out one (lists-front (info_differences l j) out₁ r two) in
      record { done = name_differences m l k j ++ info_differences l j; splits = in_parts; counted = sym both.0; written = both.1 }

  module _ {out₀ out : List ℕ} {n i : ℕ} (state : KindsFrom out₀ out n i) where
    pub kinds-turn : i < 6 → {r : ℕ} {out' : List ℕ} → Lists (kind_differences m l k j (get_or kinds i Song)) n out r out' → KindsFrom out₀ out' (n + r) (i + 1)
    kinds-turn less {r} {out'} one =
        let new = kind_differences m l k j (get_or kinds i Song) in
        rw (add-one i) (listing-turn state new (of_kinds (drop (suc i) kinds)) out' r (kind-next kinds i less) one.0 (lists-front new out n one).1)

    module _ (bytes : Bytes m) (others : Bytes k) (opens : BothOpen m l k j) where
      pub kinds-small : i < 6 → SmallCount (n + length (kind_differences m l k j (get_or kinds i Song)))
      kinds-small less =
          let new = kind_differences m l k j (get_or kinds i Song) in
          omega (
            arith,
            differences-small m bytes l k others j opens,
            listing-length state,
            ap length (kind-next kinds i less) ∙ length-append new (of_kinds (drop (suc i) kinds)),
          )

      pub kinds-last : 6 ≤ i → (n ≡ length (differences m l k j)) × SmallCount n × (out ≡ entries_listed (differences m l k j) 0 out₀)
      kinds-last over =
          let all = listing-last state (ap of_kinds (drop_of_length-le kinds {i = i} over)) in
          (all.0, omega (arith, all.0, differences-small m bytes l k others j opens), all.1)
