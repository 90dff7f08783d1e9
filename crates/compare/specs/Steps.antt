-- Definitions that the contracts of private functions cite.
use Rattle.std.specs.Prelude.{ℕ, ◌≡◌, List, [], ◌∷◌, true, Ok}
use Rattle.vocabulary.specs.Lists.{joined}
use Rattle.numbers.specs.Numbers.{each_from}
use Rattle.differences.specs.Differences.{whole_difference}
use Rattle.differences.specs.declared.Difference.{Difference}
use Rattle.layout.specs.declared.Layout.{Layout}
use Rattle.blocks.specs.declared.RecordKind.{RecordKind}
use Rattle.module.specs.Verdicts.{opened}
use Rattle.queries.specs.Finding.{first_of, there, block_of}
use Rattle.compare.specs.Compared.{kind_of, numbered_differences}

-- Both modules are accepted.
pub record BothOpen (m : List ℕ) (l : Layout) (k : List ℕ) (j : Layout) : Type 0 where
  pub first : opened m ≡ Ok l
  pub second : opened k ≡ Ok j

-- Both modules have the record with this number, and these are the places of its blocks.
pub record BothThere (m : List ℕ) (l : Layout) (k : List ℕ) (j : Layout) (kind : RecordKind) (number at to : ℕ) : Type 0 where
  pub opens : BothOpen m l k j
  pub first : there m l kind number ≡ true
  pub second : there k j kind number ≡ true
  pub here : at ≡ (block_of m l kind number).at
  pub other : to ≡ (block_of k j kind number).at

-- The differences of the first records of a kind that both modules have.
abbrev pub common_differences : List ℕ → Layout → List ℕ → Layout → RecordKind → ℕ → List Difference
common_differences m l k j kind common = joined (each_from (numbered_differences m l k j kind) (first_of kind) common)

-- An entry for each of n records, from a number on.
abbrev pub whole_differences : RecordKind → ℕ → ℕ → List Difference
whole_differences kind number n = joined (each_from (λ (i : ℕ). whole_difference (kind_of kind) i ∷ []) number n)
