-- The answer of comparing two modules, and what the output then holds.
use Prim.Native.Nat.{ℕ, ◌*◌, ◌≤◌, ◌<◌}
use Rattle.std.specs.Prelude.{Result, Ok}
use Rattle.refusal.specs.declared.Refusal.{Refusal}
use mathlib.Core.Path.{◌≡◌, refl, ◌∙◌}
use mathlib.Core.List.{List}
use native.Mathlib.Omega.{arith}
use lib.ListN.{length}
use borrow.Author.Tests.{lt-ltb, le-ltb}
use Rattle.refusal.specs.Numbers.{refusal, no_refusal}
use Rattle.refusal.specs.declared.Reason.TheVariants.{Room}
use Rattle.refusal.specs.declared.Outcome.{Outcome}
use Rattle.refusal.proofs.FilledOutputs.{lacking, enough}
use Rattle.differences.specs.Differences.{list_bytes, entries_listed}
use Rattle.differences.specs.declared.Difference.{Difference}
use Rattle.differences.proofs.Listing.{listed-whole, list_length}
use Rattle.layout.specs.declared.Layout.{Layout}
use Rattle.module.specs.Verdicts.{opened}
use Rattle.compare.specs.Compared.{differences, refused_compare, compared_if, compare_first, compare_second, output_first, output_second}
use Rattle.compare.specs.declared.CompareAnswer.{CompareAnswer}

-- 17, or the list.
module _ (m : List ℕ) (l : Layout) (k : List ℕ) (j : Layout) (out : List ℕ) where
  abbrev all : List Difference
  all = differences m l k j

  pub opened-lacks : (entries : ℕ) → entries ≡ length all → length out < 10 * entries
      → (answer : CompareAnswer) → answer ≡ refused_compare (refusal Room (10 * entries))
      → (answer ≡ compared_if all (length out)) × (out ≡ output_second m l k out (Ok j))
  opened-lacks entries is less answer answered =
      let short : length out < 10 * length all = omega (arith, is, less) in (
        answered ∙ rw (is, lt-ltb (length out) (10 * length all) short) refl,
        (lacking (10 * length all) (list_bytes all) out short).1,
      )

  pub opened-done : (entries : ℕ) → entries ≡ length all → 10 * entries ≤ length out → (outcome : Outcome) (n : ℕ) (out' : List ℕ) → outcome ≡ no_refusal
      → n ≡ length all → out' ≡ entries_listed all 0 out
      → (◌≡◌ {A = CompareAnswer} (record { outcome = outcome; entries = n }) (compared_if all (length out))) × (out' ≡ output_second m l k out (Ok j))
  opened-done entries is room outcome n out' none size wrote =
      let fits : 10 * length all ≤ length out = omega (arith, is, room) in (
        rw (none, size, le-ltb (length out) (10 * length all) fits) refl,
        wrote ∙ listed-whole all out fits ∙ (enough (10 * length all) (list_bytes all) out (list_length all) fits).1,
      )

-- From a case of opening a module to the whole answer.
module _ (m : List ℕ) (l : Layout) (k out : List ℕ) where
  pub by-second : {o : Result Layout Refusal} → opened k ≡ o → {answer : CompareAnswer} {out' : List ℕ}
      → (answer ≡ compare_second m l k (length out) o) × (out' ≡ output_second m l k out o)
      → (answer ≡ compare_second m l k (length out) (opened k)) × (out' ≡ output_second m l k out (opened k))
  by-second is e = rw is e

module _ (m k out : List ℕ) where
  pub by_first : {o : Result Layout Refusal} → opened m ≡ o → {answer : CompareAnswer} {out' : List ℕ}
      → (answer ≡ compare_first m k (length out) o) × (out' ≡ output_first m k out o)
      → (answer ≡ compare_first m k (length out) (opened m)) × (out' ≡ output_first m k out (opened m))
  by_first is e = rw is e
