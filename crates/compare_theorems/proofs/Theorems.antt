-- The theorems about comparing two modules.
--
-- 21. For every two lists of bytes that the check accepts: an entry is in the list of differences exactly if the two modules differ there
--     (`Differs`), which is said by the answers of the queries alone: the name; a number of INFO; a song, by its name, length and entries; an
--     instrument; an envelope; a sample, by its width, number of frames and frames; a pattern, by its rows and tracks; and, for a pattern
--     with the same rows and tracks in both, a field of a cell. An answer for a record that a module does not have is a refusal, so a record
--     that is in one module only differs.
--     For all lists of numbers the entries are ascending, so each is listed once. For bytes every number of an entry fits 2 bytes.
--     The list is empty exactly if all these answers agree (`AnswersAgree`).
--     A module has no differences from itself, and from itself repacked. The two modules exchanged have the same list.
--     If a sample is replaced and the call is not refused, the list of differences of the module and the result has exactly these entries:
--     the sample, unless it had the new frames at 16 bits; and each instrument whose loop is cleared.
--
-- 28. Some fifty comparisons of small modules and of streams, computed as one table: the entries for each kind of difference, as bytes;
--     which refusal is given, at which place, which of two comes first; and what the output then holds.
--
-- The list is `module_differences`. The contract of the call cites `compare_answer` and `compare_output`: for accepted modules it answers the
-- number of entries of this list and writes its bytes, or answers 17 (`list-answered`, `list_written`).
use Prim.Native.Nat.{ℕ, ◌*◌}
use Rattle.std.specs.Prelude.{Ok}
use mathlib.Core.Path.{◌≡◌}
use mathlib.Core.Logic.{◌↔◌}
use mathlib.Core.List.{List, [], map}
use lib.ListN.{length}
use Rattle.vocabulary.specs.Lists.{Every}
use Rattle.vocabulary.proofs.Splits.{Within}
use Rattle.refusal.specs.Lengths.{output_of}
use Rattle.numbers.specs.Numbers.{Bytes}
use Rattle.differences.specs.Differences.{list_bytes}
use Rattle.differences.specs.declared.Difference.{Difference}
use Rattle.module.specs.Verdicts.{module_verdict}
use Rattle.repack.specs.Repacked.{repacked}
use Rattle.replace.specs.Replaced.{replace_answer, sample_replaced}
use Rattle.compare.specs.Compared.{compared_if, compare_answer, compare_output, module_differences}
use Rattle.compare_theorems.specs.Differs.{Differs, AnswersAgree, Ascending, Fits}
use Rattle.compare_theorems.specs.ReplacedDiffers.{ReplacedDiffers}
use Rattle.compare_theorems.proofs.BothOpen as BothOpen
use Rattle.compare_theorems.proofs.Exact as Exact
use Rattle.compare_theorems.proofs.Agreeing as Agreeing
use Rattle.compare_theorems.proofs.AscendingEntries as AscendingEntries
use Rattle.compare_theorems.proofs.TwoBytes as TwoBytes
use Rattle.compare_theorems.proofs.Itself as Itself
use Rattle.compare_theorems.proofs.Swapped as Swapped
use Rattle.compare_theorems.proofs.AfterRepacking as AfterRepacking
use Rattle.compare_theorems.proofs.AfterReplacing as AfterReplacing
use Rattle.compare_theorems.proofs.WorkedComparisons as WorkedComparisons
use Rattle.compare_theorems.proofs.WorkedComparisons.{WorkedComparison, worked_comparisons}

-- Theorem 21.
module _ (m k : List ℕ) (bytes : Bytes m) (others : Bytes k) (accepted : module_verdict m ≡ Ok tt) (too : module_verdict k ≡ Ok tt) where
  pub differences-exact : (d : Difference) → Within (module_differences m k) d ↔ Differs m k d
  differences-exact = Exact.differences-exact m k bytes others accepted too

  pub differences-none : (module_differences m k ≡ []) ↔ AnswersAgree m k
  differences-none = Agreeing.differences-none m k bytes others accepted too

module _ (m k : List ℕ) where
  pub differences-ascending : Ascending (module_differences m k)
  differences-ascending = AscendingEntries.differences-ascending m k

  pub differences-fit : Bytes m → Bytes k → Every Fits (module_differences m k)
  differences-fit = TwoBytes.differences-fit m k

  pub differences-swapped : module_differences m k ≡ module_differences k m
  differences-swapped = Swapped.differences-swapped m k

pub differences-itself : (m : List ℕ) → module_differences m m ≡ []
differences-itself = Itself.differences-itself

pub differences-repacked : (m : List ℕ) → Bytes m → module_verdict m ≡ Ok tt → module_differences m (repacked m) ≡ []
differences-repacked = AfterRepacking.differences-repacked

pub differences-replaced : (m : List ℕ) → Bytes m → (sample : ℕ) (new : List ℕ) → Bytes new → (room : ℕ)
    → (replace_answer m sample new room).outcome.number ≡ 0
    → (d : Difference) → Within (module_differences m (sample_replaced m sample new)) d ↔ ReplacedDiffers m sample new d
differences-replaced = AfterReplacing.differences-replaced

-- The call: what it answers and writes is this list.
module _ (m k : List ℕ) (accepted : module_verdict m ≡ Ok tt) (too : module_verdict k ≡ Ok tt) where
  pub list-answered : (room : ℕ) → compare_answer m k room ≡ compared_if (module_differences m k) room
  list-answered = BothOpen.list-answered m k accepted too

  pub list_written : (out : List ℕ) → compare_output m k out ≡ output_of (10 * length (module_differences m k)) (list_bytes (module_differences m k)) out
  list_written = BothOpen.list_written m k accepted too

-- Theorem 28.
pub comparisons-agree : map (λ (w : WorkedComparison). w.found) worked_comparisons ≡ map (λ (w : WorkedComparison). w.said) worked_comparisons
comparisons-agree = WorkedComparisons.comparisons-agree
