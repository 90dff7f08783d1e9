-- The theorems about repacking a module. For every module, a list of bytes, that the check accepts:
--
-- 11. The repacked module is a list of bytes, and the check accepts it.
--     It shows the same: every query gives the same answer for it as for the module, and leaves the same lent output; the frames of a
--     sample are the same bytes, wherever they are.
--     It is no longer than the module. So an output of the module's length is always enough: repacking then answers the length of the
--     repacked module, and no refusal.
--     Repacking it again gives itself.
--     It is the module itself exactly if the stream of every pattern is the packer's and every filler is 0.
--
-- The repacked module is `repacked`, the check is `module_verdict` and the answer is `repack_answer`; the contracts cite these. `ShowsSame`
-- lists the answers of the queries.
use Prim.Native.Nat.{ℕ, ◌≤◌}
use Rattle.std.specs.Prelude.{Ok}
use mathlib.Core.Path.{◌≡◌, refl, sym, ap, subst, ◌∙◌}
use mathlib.Core.Logic.{◌↔◌}
use mathlib.Core.List.{List}
use native.Mathlib.Omega.{arith}
use lib.ListN.{length}
use borrow.Author.Tests.{le-ltb}
use Rattle.refusal.specs.Lengths.{written_length}
use Rattle.numbers.specs.Numbers.{Bytes}
use Rattle.layout.specs.declared.Layout.{Layout}
use Rattle.blocks.specs.declared.RecordKind.TheVariants.{Pattern}
use Rattle.module.specs.Verdicts.{opened, verdict_of_outline, module_verdict}
use Rattle.module.specs.Outputs.{answer_opened}
use Rattle.queries.specs.Finding.{found}
use Rattle.queries.specs.declared.Block.{Block}
use Rattle.acceptance.proofs.OpenModules.{accepted-opens}
use Rattle.repack.specs.Repacked.{repacked_module, repack_answer, repacked}
use Rattle.showing_theorems.specs.Showing.{ShowsSame}
use Rattle.showing_theorems.proofs.Theorems.{alike-shows}
use Rattle.repack_theorems.specs.Packed.{PackedAt}
use Rattle.repack_theorems.proofs.Opening.{repacked-opened}
use Rattle.repack_theorems.proofs.RewrittenModule.{no_longer, bytes-rewritten}
use Rattle.repack_theorems.proofs.RewrittenAlike.{other_opens, repacked-alike}
use Rattle.repack_theorems.proofs.RewrittenAgain.{repacked-again}
use Rattle.repack_theorems.proofs.RewrittenSame.{same-exactly}

-- Theorem 11.
module _ (m : List ℕ) (bytes : Bytes m) (accepted : module_verdict m ≡ Ok tt) where
  abbrev layout : Layout
  layout = (accepted-opens m accepted).0

  opens : opened m ≡ Ok layout
  opens = (accepted-opens m accepted).1

  is : repacked m ≡ repacked_module m layout
  is = repacked-opened m layout opens

  pub repacked-bytes : Bytes (repacked m)
  repacked-bytes = subst Bytes (sym is) (bytes-rewritten m bytes layout opens)

  pub repacked-accepted : module_verdict (repacked m) ≡ Ok tt
  repacked-accepted = ap module_verdict is ∙ ap verdict_of_outline (other_opens m bytes layout opens)

  pub repacked-shows-same : ShowsSame m (repacked m)
  repacked-shows-same = subst (ShowsSame m) (sym is) (alike-shows (repacked-alike m bytes layout opens))

  pub repacked-no-longer : length (repacked m) ≤ length m
  repacked-no-longer = subst (λ (n : List ℕ). length n ≤ length m) (sym is) (no_longer m bytes layout opens)

  pub room-enough : (room : ℕ) → length m ≤ room → repack_answer m room ≡ written_length (length (repacked m))
  room-enough room h =
      let fits : length (repacked_module m layout) ≤ room = omega (arith, no_longer m bytes layout opens) in
      ap (answer_opened (repacked_module m) room) opens ∙ rw (le-ltb room (length (repacked_module m layout)) fits, is) refl

  pub repacked-twice : repacked (repacked m) ≡ repacked m
  repacked-twice = ap repacked is ∙ repacked-again m bytes layout opens ∙ sym is

  pub repacked-same-exactly : (repacked m ≡ m) ↔ ((pattern : ℕ) (b : Block) → found m Pattern pattern ≡ Ok b → PackedAt m b.tracks b.at)
  repacked-same-exactly =
      let exactly = same-exactly m bytes layout opens in
      (λ e. exactly.0 (sym is ∙ e), λ all. is ∙ exactly.1 all)
