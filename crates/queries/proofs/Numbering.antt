-- The numbers of records: which of them are found.
use Prim.Native.Nat.{ℕ, ◌-◌, ◌≤◌, ◌<◌}
use Rattle.std.specs.Prelude.{Result, Ok, Err}
use mathlib.Core.Path.{◌≡◌, refl, ap, ◌∙◌}
use mathlib.Core.List.{List}
use mathlib.Core.Bool.{Bool, true, false, cond}
use native.Mathlib.Omega.{arith}
use borrow.Author.Tests.{le-leb, lt-ltb}
use Rattle.refusal.specs.Numbers.{refusal}
use Rattle.refusal.specs.declared.Reason.TheVariants.{NotThere}
use Rattle.refusal.specs.declared.Refusal.{Refusal}
use Rattle.layout.specs.declared.Layout.{Layout}
use Rattle.blocks.specs.RecordKinds.{count_of}
use Rattle.blocks.specs.declared.RecordKind.{RecordKind}
use Rattle.module.specs.Verdicts.{opened}
use Rattle.queries.specs.Finding.{first_of, there, block_of, found_in, found_if, found}
use Rattle.queries.specs.declared.Block.{Block}

-- Every number from the first record to the last is found.
pub counted-found : (m : List ℕ) (l : Layout) (kind : RecordKind) (number : ℕ) → opened m ≡ Ok l → first_of kind ≤ number
    → number - first_of kind < count_of m l kind
    → found m kind number ≡ Ok (block_of m l kind number)
counted-found m l kind number o first counted =
    ap (found_if m kind number) o ∙ simp (le-leb (first_of kind) number first, lt-ltb (number - first_of kind) (count_of m l kind) counted)

-- If a block is found, there is a record with this number and the block is its block; if none is found, there is no such record.
module _ (m : List ℕ) (l : Layout) (kind : RecordKind) (number : ℕ) where
  abbrev found_by : Bool → Result Block Refusal
  found_by t = cond t (Ok (block_of m l kind number)) (Err (refusal NotThere 0))

  pub found-there : (b : Block) → found_in m l kind number ≡ Ok b → (there m l kind number ≡ true) × (b ≡ block_of m l kind number)
  found-there b = go (there m l kind number) refl
    where
      go : (t : Bool) → there m l kind number ≡ t → found_by t ≡ Ok b → (there m l kind number ≡ true) × (b ≡ block_of m l kind number)
      go true t e = (t, cc)
      go false t e = let z : ◌≡◌ {A = ℕ} 0 1 = cc in absurd (omega arith)

  pub not-there : (r : Refusal) → found_in m l kind number ≡ Err r → (there m l kind number ≡ false) × (r ≡ refusal NotThere 0)
  not-there r = go (there m l kind number) refl
    where
      go : (t : Bool) → there m l kind number ≡ t → found_by t ≡ Err r → (there m l kind number ≡ false) × (r ≡ refusal NotThere 0)
      go true t e = let z : ◌≡◌ {A = ℕ} 0 1 = cc in absurd (omega arith)
      go false t e = (t, cc)
