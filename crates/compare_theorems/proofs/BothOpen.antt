-- The list of differences of two modules: by their layouts if both open, and empty if one of them is refused.
use Prim.Native.Nat.{ℕ, ◌*◌}
use Rattle.std.specs.Prelude.{Result, Ok, Err}
use mathlib.Core.Path.{◌≡◌, refl, sym, ap, subst, ◌∙◌}
use mathlib.Core.List.{List, []}
use lib.ListN.{length}
use Rattle.differences.specs.Differences.{list_bytes}
use Rattle.differences.specs.declared.Difference.{Difference}
use Rattle.refusal.specs.Lengths.{output_of}
use Rattle.refusal.specs.declared.Refusal.{Refusal}
use Rattle.layout.specs.declared.Layout.{Layout}
use Rattle.module.specs.Verdicts.{opened, module_verdict}
use Rattle.acceptance.proofs.OpenModules.{accepted-opens}
use Rattle.compare.specs.Compared.{differences, differences_second, differences_first, module_differences}
use Rattle.compare.specs.Compared.{compared_if, compare_second, compare_first, compare_answer, output_second, output_first, compare_output}

module _ (m k : List ℕ) where
  pub both_found : {l j : Layout} → opened m ≡ Ok l → opened k ≡ Ok j → module_differences m k ≡ differences m l k j
  both_found {l} o p = ap (differences_first m k) o ∙ ap (differences_second m l k) p

  pub first-refused : {r : Refusal} → opened m ≡ Err r → module_differences m k ≡ []
  first-refused o = ap (differences_first m k) o

  pub second-refused : {r : Refusal} → opened k ≡ Err r → module_differences m k ≡ []
  second-refused {r} p = go (opened m) refl
    where
      go : (o : Result Layout Refusal) → opened m ≡ o → module_differences m k ≡ []
      go (Ok l) o = ap (differences_first m k) o ∙ ap (differences_second m l k) p
      go (Err s) o = first-refused o

  -- What holds for the empty list, and for the differences by any two layouts with which the modules open.
  pub by-layouts : (P : List Difference → Type 0) → P []
      → ((l j : Layout) → opened m ≡ Ok l → opened k ≡ Ok j → P (differences m l k j))
      → P (module_differences m k)
  by-layouts P nothing found = go (opened m) (opened k) refl refl
    where
      go : (o p : Result Layout Refusal) → opened m ≡ o → opened k ≡ p → P (module_differences m k)
      go (Ok l) (Ok j) o p = subst P (sym (both_found o p)) (found l j o p)
      go (Ok l) (Err r) o p = subst P (sym (second-refused p)) nothing
      go (Err r) (Ok j) o p = subst P (sym (first-refused o)) nothing
      go (Err r) (Err s) o p = subst P (sym (first-refused o)) nothing

-- What the call answers and writes for two modules that the check accepts.
module _ (m k : List ℕ) (accepted : module_verdict m ≡ Ok tt) (too : module_verdict k ≡ Ok tt) where
  abbrev first : (l : Layout) × (opened m ≡ Ok l)
  first = accepted-opens m accepted

  abbrev second : (j : Layout) × (opened k ≡ Ok j)
  second = accepted-opens k too

  pub list-answered : (room : ℕ) → compare_answer m k room ≡ compared_if (module_differences m k) room
  list-answered room =
      ap (compare_first m k room) first.1
      ∙ ap (compare_second m first.0 k room) second.1
      ∙ ap (λ (ds : List Difference). compared_if ds room) (sym (both_found m k first.1 second.1))

  pub list_written : (out : List ℕ) → compare_output m k out ≡ output_of (10 * length (module_differences m k)) (list_bytes (module_differences m k)) out
  list_written out =
      ap (output_first m k out) first.1
      ∙ ap (output_second m first.0 k out) second.1
      ∙ ap (λ (ds : List Difference). output_of (10 * length ds) (list_bytes ds) out) (sym (both_found m k first.1 second.1))
