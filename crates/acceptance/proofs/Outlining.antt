-- Induction along the outline of a module. What holds if a rule of the header is broken, if a rule of a chunk is, if all chunks are read
-- and a mandatory one is missing, and if none is, holds for every outline.
use Prim.Native.Nat.{ℕ, ◌<◌}
use Rattle.std.specs.Prelude.{⊤, Result, Ok, Err}
use Rattle.layout.specs.declared.Layout.{Layout}
use mathlib.Core.Path.{◌≡◌, refl}
use mathlib.Core.List.{List, [], ◌++◌}
use mathlib.Core.Bool.{Bool, true, false, cond}
use lib.ListN.{length, take}
use Rattle.vocabulary.specs.Lists.{joined}
use Rattle.refusal.specs.Numbers.{refusal}
use Rattle.refusal.specs.Rules.{first_broken}
use Rattle.refusal.specs.declared.Reason.TheVariants.{Missing}
use Rattle.refusal.specs.declared.Refusal.{Refusal}
use Rattle.layout.specs.Header.{header_rules}
use Rattle.layout.specs.Chunks.{Walk, chunk_rules, chunks}
use Rattle.layout.specs.Outlines.{spans_of, layout_with, mandatory_there, outline_of, outline_if, outline}
use Rattle.acceptance.proofs.Holding.{AllHold, accepted-hold, plain}
use Rattle.acceptance.proofs.Recorded.{records_from}
use Rattle.acceptance.proofs.Chunking.{InTurn, Reached, reached-first, along}

-- All chunks of the module are read.
pub record AllRead (m : List ℕ) (all : List (List ℕ)) : Type 0 where
  pub header : AllHold (header_rules m)
  pub front : Reached m (take 8 m) [] 8
  pub bytes : m ≡ take 8 m ++ joined all
  pub turn : InTurn [] all

-- What has to be proved for each result of an outline.
pub record EachOutline (m : List ℕ) (P : Result Layout Refusal → Type 0) : Type 0 where
  pub header : (r : Refusal) → first_broken (header_rules m) ≡ Err r → P (Err r)
  pub chunk : (before : List (List ℕ)) (at : ℕ) → Reached m (take 8 m) before at → at < length m
      → (r : Refusal) → first_broken (chunk_rules m (records_from 8 before) at) ≡ Err r → P (Err r)
  pub missing : (all : List (List ℕ)) → AllRead m all → mandatory_there (records_from 8 all) ≡ false → P (Err (refusal Missing (length m)))
  pub found : (all : List (List ℕ)) → AllRead m all → mandatory_there (records_from 8 all) ≡ true → P (Ok (layout_with m (spans_of (records_from 8 all))))

module _ (m : List ℕ) (P : Result Layout Refusal → Type 0) (each : EachOutline m P) where
  all_read : (all : List (List ℕ)) → AllRead m all → (b : Bool) → mandatory_there (records_from 8 all) ≡ b
      → P (cond b (Ok (layout_with m (spans_of (records_from 8 all)))) (Err (refusal Missing (length m))))
  all_read all read true h = each.found all read h
  all_read all read false h = each.missing all read h

  by-header : (v : Result ⊤ Refusal) → first_broken (header_rules m) ≡ v → P (outline_if v (outline_of m (chunks m)))
  by-header (Err r) h = each.header r h
  by-header (Ok _) h =
      let hold = (accepted-hold (header_rules m)).0 h in
      let front = reached-first m (simp plain at hold).1.0.0 in
      along (λ (w : Walk). P (outline_of m w))
      (λ all bytes turn. all_read all (record { header = hold; front = front; bytes = bytes; turn = turn }) (mandatory_there (records_from 8 all)) refl)
      each.chunk front

  pub along-outline : P (outline m)
  along-outline = by-header (first_broken (header_rules m)) refl
