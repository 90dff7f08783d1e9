-- Repacking the repacked module gives the repacked module itself.
use Prim.Native.Nat.{ℕ, ◌+◌}
use Rattle.std.specs.Prelude.{Ok}
use mathlib.Core.Path.{◌≡◌, refl, sym, ap, subst, ◌∙◌}
use mathlib.Core.List.{List, ◌++◌, map}
use Rattle.vocabulary.specs.Lists.{joined}
use Rattle.vocabulary.proofs.EveryOne.{every_of}
use Rattle.vocabulary.proofs.MappedLists.{every_map, map-stays}
use Rattle.numbers.specs.Numbers.{Bytes}
use Rattle.layout.specs.Chunks.{patt_identifier}
use Rattle.layout.specs.declared.Layout.{Layout}
use Rattle.blocks.specs.Sizes.{size_of, places_from}
use Rattle.blocks.specs.declared.BlockKind.TheVariants.{Pattern}
use Rattle.module.specs.Verdicts.{opened}
use Rattle.acceptance.proofs.ChangedData.{no_change, data-twice}
use Rattle.repack.specs.Repacked.{repacked_block, repacked_patterns, repacked_module, repacked_if, repacked}
use Rattle.repack.proofs.RewrittenChunks.{rewritten_chunk, module-rewritten}
use Rattle.repack_theorems.proofs.RewrittenBlock.{rewritten_block, blocks-rewritten, rewritten-again}
use Rattle.repack_theorems.proofs.RewrittenModule.{header, chunks, blocks, rewritten, sound-blocks, changed, rules, data_is, repacked-bytes}
use Rattle.repack_theorems.proofs.RewrittenModule.{rules-rewritten}
use Rattle.repack_theorems.proofs.RewrittenAlike.{n, k, other_opens, counts, patterns-there}

module _ (m : List ℕ) (bytes : Bytes m) (l : Layout) (o : opened m ≡ Ok l) where
  -- The rewritten patterns of the repacked module are its patterns.
  data-again : repacked_patterns (n m bytes l o) (k m bytes l o) ≡ repacked_patterns m l
  data-again =
      let there = patterns-there m bytes l o in
      let start : ℕ = (k m bytes l o).spans.patt.at + 8 in
      let again : map (repacked_block (n m bytes l o) l.tracks) (places_from (size_of Pattern (n m bytes l o)) (k m bytes l o).patterns start)
      ≡ map (rewritten_block l.tracks) (rewritten m bytes l o) =
      subst (λ (count : ℕ).
      map (repacked_block (n m bytes l o) l.tracks) (places_from (size_of Pattern (n m bytes l o)) count start)
      ≡ map (rewritten_block l.tracks) (rewritten m bytes l o)) there.filled.number
      (blocks-rewritten l.tracks start (rewritten m bytes l o) there.there there.sized) in
      ap (λ (tracks : ℕ).
      joined (map (repacked_block (n m bytes l o) tracks) (places_from (size_of Pattern (n m bytes l o)) (k m bytes l o).patterns start)))
      (counts m bytes l o).4
      ∙ ap joined (again
      ∙ map-stays (rewritten_block l.tracks)
      ((every_map (rewritten_block l.tracks) (blocks m bytes l o)).1 (every_of (rewritten-again l.tracks) (sound-blocks m bytes l o))))
      ∙ sym (data_is m bytes l o)

  pub repacked-again : repacked (repacked_module m l) ≡ repacked_module m l
  repacked-again =
      ap (repacked_if (n m bytes l o)) (other_opens m bytes l o)
      ∙ module-rewritten (rules-rewritten m bytes l o) (k m bytes l o)
      ∙ ap (λ (content : List ℕ). header m bytes l o ++ joined (map (rewritten_chunk content) (map (changed m bytes l o) (chunks m bytes l o)))) data-again
      ∙ ap (λ (list : List (List ℕ)). header m bytes l o ++ joined list)
      (map-stays (changed m bytes l o) ((every_map (changed m bytes l o) (chunks m bytes l o)).1
      (every_of (λ chunk c. data-twice patt_identifier (repacked_patterns m l) (λ one. one) no_change chunk c refl) (rules m bytes l o).whole)))
      ∙ sym (repacked-bytes m bytes l o)
