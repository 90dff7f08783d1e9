-- The outline of a module, by the verdict of its header and the result of the walk over its chunks.
use Prim.Native.Nat.{ℕ}
use Rattle.std.specs.Prelude.{Ok, Err}
use mathlib.Core.Path.{◌≡◌, sym, ap, ◌∙◌}
use mathlib.Core.List.{List}
use mathlib.Core.Bool.{Bool, cond}
use native.Mathlib.Omega.{arith}
use lib.ListN.{length}
use Rattle.refusal.specs.Numbers.{refusal}
use Rattle.refusal.specs.Rules.{first_broken}
use Rattle.refusal.specs.declared.Reason.TheVariants.{Missing}
use Rattle.layout.specs.Header.{header_rules}
use Rattle.layout.specs.Chunks.{Walk, complete, stopped, chunks}
use Rattle.layout.specs.Outlines.{spans_of, layout_with, outline_of, outline}
use Rattle.layout.specs.Steps.{walked, outline_with}
use Rattle.layout.specs.declared.ChunkSpans.{ChunkSpans}
use Rattle.layout.proofs.ChunksBefore.{present-all}

module _ (m : List ℕ) where
  outline-of-whole : (w : Walk) (p : ChunkSpans) → walked w ≡ Ok p → outline_of m w ≡ outline_with m p
  outline-of-whole (complete cs) p e =
      let same : spans_of cs ≡ p = cc in
      ap (λ (b : Bool). cond b (Ok (layout_with m (spans_of cs))) (Err (refusal Missing (length m)))) (sym (present-all cs)) ∙ ap (outline_with m) same
  outline-of-whole (stopped r) p e = let z : ◌≡◌ {A = ℕ} 0 1 = cc in absurd (omega arith)

  pub outline-whole : (p : ChunkSpans) → first_broken (header_rules m) ≡ Ok tt → walked (chunks m) ≡ Ok p → outline m ≡ outline_with m p
  outline-whole p h e = rw h (outline-of-whole (chunks m) p e)
