-- The walk over the records of a kind that both modules have, and an entry for each record that only one of them has.
use Prim.Native.Nat.{ℕ, zero, suc, ◌+◌, ◌-◌, ◌*◌, ◌≤◌, ◌<◌, min, max}
use mathlib.Core.Path.{◌≡◌, refl, sym, ap, ◌∙◌}
use mathlib.Core.List.{List, [], ◌∷◌, ◌++◌}
use mathlib.Core.Bool.{Bool, true, false}
use native.Mathlib.Omega.{arith}
use lib.ListN.{length}
use lib.Dec.{leb}
use borrow.Author.Tests.{le-leb, lt-ltb, le-ltb, leb-true, leb-false}
use Rattle.vocabulary.specs.Lists.{joined}
use Rattle.numbers.specs.Numbers.{Bytes, each_from}
use Rattle.differences.specs.Differences.{whole_difference, entries_listed}
use Rattle.differences.specs.declared.Difference.{Difference}
use Rattle.differences.proofs.Listing.{listed-length, Listing, listing-first, listing-length, listing-turn, listing-last}
use Rattle.packed_rows.specs.ComparingSteps.{SmallCount}
use Rattle.layout.specs.declared.ChunkSpan.{ChunkSpan}
use Rattle.layout.specs.declared.Layout.{Layout}
use Rattle.blocks.specs.Sizes.{size_of, place_after, first_block, block_at}
use Rattle.blocks.specs.RecordKinds.{block_kind_of, chunk_of, count_of}
use Rattle.blocks.specs.declared.BlockKind.{BlockKind}
use Rattle.blocks.specs.declared.RecordKind.{RecordKind}
use Rattle.blocks.specs.declared.RecordKind.TheVariants.{Song, Instrument, Pattern, Sample, VolumeEnvelope, PanningEnvelope}
use Rattle.queries.specs.Finding.{first_of, there, block_of}
use Rattle.compare.specs.Compared.{kind_of, block_differences, numbered_differences, kind_differences}
use Rattle.compare.specs.Steps.{BothOpen, BothThere, common_differences, whole_differences}
use Rattle.packed_rows.proofs.EachFrom.{joined-parts, joined-first, each-alike}
use Rattle.compare.proofs.EntryCounts.{count_small}

-- Records are counted from 0 or from 1.
pub first-low : (kind : RecordKind) → first_of kind ≤ 1
first-low Song = omega arith
first-low Instrument = omega arith
first-low Pattern = omega arith
first-low Sample = omega arith
first-low VolumeEnvelope = omega arith
first-low PanningEnvelope = omega arith

-- A module has the records from the first number on, as many as are counted.
module _ (m : List ℕ) (l : Layout) (kind : RecordKind) (number : ℕ) (first : first_of kind ≤ number) where
  pub is-there : number - first_of kind < count_of m l kind → there m l kind number ≡ true
  is-there h = simp (le-leb (first_of kind) number first, lt-ltb (number - first_of kind) (count_of m l kind) h)

  pub not-there : count_of m l kind ≤ number - first_of kind → there m l kind number ≡ false
  not-there h = simp (le-leb (first_of kind) number first, le-ltb (number - first_of kind) (count_of m l kind) h)

-- The place after one block more.
after_more : (size : ℕ → ℕ) (n at : ℕ) → place_after size (suc n) at ≡ place_after size n at + size (place_after size n at)
after_more size zero at = refl
after_more size (suc n) at = after_more size n (at + size at)

-- The walk over the blocks of a kind is at the block of the record with this number.
pub record Walked (m : List ℕ) (l : Layout) (kind : RecordKind) (number at : ℕ) : Type 0 where
  pub first : first_of kind ≤ number
  pub here : at ≡ (block_of m l kind number).at
  pub low : at < 0x200000000 + (number - first_of kind) * 0x800000000

module _ (m : List ℕ) (l : Layout) (kind : RecordKind) where
  pub walked-first : {blocks : BlockKind} {chunk : ChunkSpan} {number at : ℕ} → blocks ≡ block_kind_of kind → chunk ≡ chunk_of l kind
      → number ≡ first_of kind
      → (at ≡ block_at m blocks chunk 0) × (at < 0x200000000 + 0 * 0x800000000)
      → Walked m l kind number at
  walked-first {number = number} is chunk-is number_is block =
      let none : number - first_of kind ≡ 0 = omega (arith, number_is) in
      record {
        first = omega (arith, number_is);
        here = block.0 ∙ rw (is, chunk-is, none) refl;
        low = omega (arith, block.1, none);
      }

  pub walked-turn : {blocks : BlockKind} {number at s : ℕ} → blocks ≡ block_kind_of kind → Walked m l kind number at
      → (s ≡ size_of blocks m at) × (s < 0x800000000)
      → Walked m l kind (number + 1) (at + s)
  walked-turn {number = number} {at = at} {s = s} is walked sized =
      let i = number - first_of kind in
      let more : number + 1 - first_of kind ≡ suc i = omega (arith, walked.first) in
      let size : s ≡ size_of (block_kind_of kind) m at = sized.0 ∙ ap (λ b. size_of b m at) is in
      record {
        first = omega (arith, walked.first);
        here = rw (more, size, walked.here) (sym (after_more (size_of (block_kind_of kind) m) i (first_block (block_kind_of kind) (chunk_of l kind))));
        low = omega (arith, more, walked.low, sized.1);
      }

-- The differences of a record that both modules have, and of one that only one of them has.
module _ (m : List ℕ) (l : Layout) (k : List ℕ) (j : Layout) (kind : RecordKind) where
  pub both-numbered : {number at to : ℕ} → BothThere m l k j kind number at to
      → numbered_differences m l k j kind number ≡ block_differences m l k j kind number at to
  both-numbered both = rw (both.first, both.second, both.here, both.other) refl

  pub one-numbered : (number : ℕ) → first_of kind ≤ number → min (count_of m l kind) (count_of k j kind) ≤ number - first_of kind
      → numbered_differences m l k j kind number ≡ whole_difference (kind_of kind) number ∷ []
  one-numbered number first h = go (leb a i) refl
    where
      i : ℕ
      i = number - first_of kind

      a : ℕ
      a = count_of m l kind

      go : (b : Bool) → leb a i ≡ b → numbered_differences m l k j kind number ≡ whole_difference (kind_of kind) number ∷ []
      go true t = rw (not-there m l kind number first (leb-true a i t)) refl
      go false t =
          let more : i < a = leb-false a i t in
          rw (is-there m l kind number first more, not-there k j kind number first (omega (arith, h))) refl

-- The loop over the records that both modules have.
pub record Common (m : List ℕ) (l : Layout) (k : List ℕ) (j : Layout) (kind : RecordKind) (common n : ℕ) (out₀ out : List ℕ)
    (at to number count left : ℕ) : Type 0 where
  pub listing : Listing (common_differences m l k j kind common) n out₀ out count (joined (each_from (numbered_differences m l k j kind) number left))
  pub here : Walked m l kind number at
  pub other : Walked k j kind number to
  pub counts : number + left ≡ first_of kind + common

module _ {m : List ℕ} {l : Layout} {k : List ℕ} {j : Layout} {kind : RecordKind} {common n : ℕ} {out₀ : List ℕ} where
  pub common-first : {number at to : ℕ} → number ≡ first_of kind → Walked m l kind number at → Walked k j kind number to
      → Common m l k j kind common n out₀ out₀ at to number 0 common
  common-first number_is here other =
      record {
        listing = rw number_is (listing-first (common_differences m l k j kind common) n out₀);
        here = here;
        other = other;
        counts = omega (arith, number_is);
      }

  module _ {out : List ℕ} {at to number count left : ℕ} (state : Common m l k j kind common n out₀ out at to number count left) where
    -- No number wraps.
    pub common-length : length out ≡ length out₀
    common-length = ap length state.listing.written ∙ listed-length state.listing.done n out₀

    pub common-small : SmallCount (n + length (common_differences m l k j kind common)) → SmallCount (n + count)
    common-small small = omega (arith, small, listing-length state.listing)

    module _ (bytes : Bytes m) (opens : BothOpen m l k j) (firsts : common ≤ count_of m l kind) (seconds : common ≤ count_of k j kind) where
      common-most : common ≤ 65535
      common-most = omega (arith, firsts, count_small m bytes l opens.first kind)

      pub common-number : 0 < left → number < 65536
      common-number some = omega (arith, common-most, state.counts, first-low kind)

      pub common-at : at < 0x10000000000000
      common-at = omega (arith, common-most, state.counts, state.here.low)

      pub common-to : to < 0x10000000000000
      common-to = omega (arith, common-most, state.counts, state.other.low)

      pub common-there : 0 < left → BothThere m l k j kind number at to
      common-there some =
          let first : first_of kind ≤ number = state.here.first in
          record {
            opens = opens;
            first = is-there m l kind number first (omega (arith, firsts, state.counts));
            second = is-there k j kind number first (omega (arith, seconds, state.counts));
            here = state.here.here;
            other = state.other.here;
          }

      -- The next record: what is listed for it, and the state afterwards.
      module _ (some : 0 < left) (r : ℕ) (out' : List ℕ)
          (lists : (r ≡ length (block_differences m l k j kind number at to))
          × (out' ≡ entries_listed (block_differences m l k j kind number at to) (n + count) out))
        where
          listing-more : Listing (common_differences m l k j kind common) n out₀ out' (count + r)
              (joined (each_from (numbered_differences m l k j kind) (number + 1) (left - 1)))
          listing-more =
              let f = numbered_differences m l k j kind in
              let new = block_differences m l k j kind number at to in
              let is : f number ≡ new = both-numbered m l k j kind (common-there some) in
              let later = joined (each_from f (number + 1) (left - 1)) in
              let more : left ≡ suc (left - 1) = omega arith in
              listing-turn state.listing new later out' r (joined-first f left (left - 1) number more ∙ ap (◌++ later) is) lists.0 lists.1

          pub common-count : SmallCount (n + length (common_differences m l k j kind common)) → count + r < 0x10000000000000
          common-count small = omega (arith, small, listing-length listing-more)

          pub common-turn : {blocks : BlockKind} {s t : ℕ} → blocks ≡ block_kind_of kind → (s ≡ size_of blocks m at) × (s < 0x800000000)
              → (t ≡ size_of blocks k to) × (t < 0x800000000)
              → Common m l k j kind common n out₀ out' (at + s) (to + t) (number + 1) (count + r) (left - 1)
          common-turn is sized sized-other =
              record {
                listing = listing-more;
                here = walked-turn m l kind is state.here sized;
                other = walked-turn k j kind is state.other sized-other;
                counts = omega (arith, state.counts, some);
              }

    pub common-last : left ≤ 0
        → (count ≡ length (common_differences m l k j kind common))
        × (out ≡ entries_listed (common_differences m l k j kind common) n out₀)
    common-last none =
        let e : left ≡ 0 = omega arith in
        listing-last state.listing (ap (λ (i : ℕ). joined (each_from (numbered_differences m l k j kind) number i)) e)

-- The loop that lists an entry for each record.
pub record Single (kind : RecordKind) (start end n : ℕ) (out₀ out : List ℕ) (count number : ℕ) : Type 0 where
  pub listing : Listing (whole_differences kind start (end - start)) n out₀ out count (whole_differences kind number (end - number))
  pub counts : start + count ≡ number
  pub inside : number ≤ end

module _ {kind : RecordKind} {start end n : ℕ} {out₀ : List ℕ} where
  pub single-first : start ≤ end → Single kind start end n out₀ out₀ 0 start
  single-first h = record { listing = listing-first (whole_differences kind start (end - start)) n out₀; counts = omega arith; inside = h }

  module _ {out : List ℕ} {count number : ℕ} (state : Single kind start end n out₀ out count number) where
    pub single-length : length out ≡ length out₀
    single-length = ap length state.listing.written ∙ listed-length state.listing.done n out₀

    pub single-turn : number < end → (r : ℕ) (out' : List ℕ) → r ≡ 1 → out' ≡ entries_listed (whole_difference (kind_of kind) number ∷ []) (n + count) out
        → Single kind start end n out₀ out' (count + r) (number + 1)
    single-turn less r out' one wrote =
        let f : ℕ → List Difference = λ (i : ℕ). whole_difference (kind_of kind) i ∷ [] in
        let fewer : end - number - 1 ≡ end - (number + 1) = omega arith in
        let more : end - number ≡ suc (end - number - 1) = omega arith in
        let rest : whole_differences kind number (end - number) ≡ f number ++ whole_differences kind (number + 1) (end - (number + 1)) =
        joined-first f (end - number) (end - number - 1) number more
        ∙ ap (λ (i : ℕ). f number ++ whole_differences kind (number + 1) i) fewer in
        record {
          listing = listing-turn state.listing (f number) (whole_differences kind (number + 1) (end - (number + 1))) out' r rest one wrote;
          counts = omega (arith, state.counts, one);
          inside = omega arith;
        }

    pub single-last : end ≤ 65536 → end ≤ number
        → (count ≡ length (whole_differences kind start (end - start))) × (count ≤ 65536)
        × (out ≡ entries_listed (whole_differences kind start (end - start)) n out₀)
    single-last low over =
        let none : end - number ≡ 0 = omega arith in
        let all = listing-last state.listing (ap (λ (i : ℕ). whole_differences kind number i) none) in
        (all.0, omega (arith, state.counts, state.inside, low), all.1)

-- All records of a kind: those that both modules have, and then those that only one of them has.
module _ (m : List ℕ) (l : Layout) (k : List ℕ) (j : Layout) (kind : RecordKind) where
  pub kind-split : {first a b common more : ℕ} → first ≡ first_of kind → a ≡ count_of m l kind → b ≡ count_of k j kind → common ≡ min a b
      → more ≡ max a b
      → kind_differences m l k j kind ≡ common_differences m l k j kind common ++ whole_differences kind (first + common) (first + more - (first + common))
  kind-split {first} {a} {b} {common} {more} first-is a-is b-is common-is more-is =
      let f = numbered_differences m l k j kind in
      let g : ℕ → List Difference = λ (i : ℕ). whole_difference (kind_of kind) i ∷ [] in
      let rest = first + more - (first + common) in
      let all : max (count_of m l kind) (count_of k j kind) ≡ common + rest = omega (arith, a-is, b-is, common-is, more-is) in
      let least : min (count_of m l kind) (count_of k j kind) ≡ common = omega (arith, a-is, b-is, common-is) in
      let singles : each_from f (first_of kind + common) rest ≡ each_from g (first_of kind + common) rest =
      each-alike f g rest (first_of kind + common)
      (λ i low high. one-numbered m l k j kind i (omega (arith, low)) (omega (arith, low, least))) in
      ap (λ (i : ℕ). joined (each_from f (first_of kind) i)) all
      ∙ joined-parts f common rest (first_of kind)
      ∙ ap (λ (xss : List (List Difference)). common_differences m l k j kind common ++ joined xss) singles
      ∙ ap (λ (i : ℕ). common_differences m l k j kind common ++ whole_differences kind (i + common) rest) (sym first-is)
