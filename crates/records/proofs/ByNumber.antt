-- From the places of blocks to their numbers: the records of all blocks of a kind are the records of what is found, number by number.
use Prim.Native.Nat.{ℕ, zero, suc, ◌+◌, ◌-◌, ◌<◌}
use Rattle.std.specs.Prelude.{Result, Ok}
use Rattle.refusal.specs.declared.Refusal.{Refusal}
use mathlib.Core.Path.{◌≡◌, refl, ap, ◌∙◌}
use mathlib.Core.List.{List, map}
use native.Mathlib.Omega.{arith}
use native.Mathlib.Nat.{add-zero}
use Rattle.vocabulary.specs.Lists.{joined}
use Rattle.numbers.specs.Numbers.{each_from}
use Rattle.layout.specs.declared.Layout.{Layout}
use Rattle.blocks.specs.Sizes.{size_of, places_from, place_after, first_block, block_at}
use Rattle.blocks.specs.RecordKinds.{block_kind_of, chunk_of, count_of}
use Rattle.blocks.specs.declared.RecordKind.{RecordKind}
use Rattle.module.specs.Verdicts.{opened}
use Rattle.queries.specs.Finding.{first_of, found}
use Rattle.queries.specs.declared.Block.{Block}
use Rattle.queries.proofs.Numbering.{counted-found}
use Rattle.records.specs.Records.{record_at, records_of}

-- The results of a function for each number, if they are those of another function for the place of the block with that number.
each_placed : {A : Type 0} (f g : ℕ → A) (size : ℕ → ℕ) (n k at : ℕ)
    → ((i : ℕ) → i < n → f (k + i) ≡ g (place_after size i at))
    → each_from f k n ≡ map g (places_from size n at)
each_placed f g size zero k at h = refl
each_placed f g size (suc n) k at h =
    let first : f k ≡ g at = simp add-zero at (h 0 (omega arith)) in
    let rest : each_from f (k + 1) n ≡ map g (places_from size n (at + size at)) =
    each_placed f g size n (k + 1) (at + size at) (λ i less. ap f (omega arith) ∙ h (suc i) (omega arith)) in
    cc

module _ (m : List ℕ) (l : Layout) (o : opened m ≡ Ok l) (kind : RecordKind) where
  -- The block with a number that exists.
  abbrev numbered : ℕ → Block
  numbered i = record { at = block_at m (block_kind_of kind) (chunk_of l kind) i; version = l.version; tracks = l.tracks }

  number-found : (i : ℕ) → i < count_of m l kind → found m kind (first_of kind + i) ≡ Ok (numbered i)
  number-found i h =
      let same : first_of kind + i - first_of kind ≡ i = omega arith in
      rw same at (counted-found m l kind (first_of kind + i) o (omega arith) (omega (arith, h)))

  pub records-numbered : (tell : Result Block Refusal → List ℕ) → ((b : Block) → tell (Ok b) ≡ record_at m b.version kind b.at)
      → joined (each_from (λ (number : ℕ). tell (found m kind number)) (first_of kind) (count_of m l kind)) ≡ records_of m l kind
  records-numbered tell same =
      ap joined (each_placed (λ (number : ℕ). tell (found m kind number)) (record_at m l.version kind)
      (size_of (block_kind_of kind) m) (count_of m l kind) (first_of kind) (first_block (block_kind_of kind) (chunk_of l kind))
      (λ i h. ap tell (number-found i h) ∙ same (numbered i)))
