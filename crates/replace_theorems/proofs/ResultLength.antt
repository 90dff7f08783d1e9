-- The result is no longer than the module and the new frames together.
use Prim.Native.Nat.{ℕ, ◌+◌, ◌-◌, ◌≤◌}
use mathlib.Core.Path.{◌≡◌, sym, ap, ◌∙◌}
use mathlib.Core.List.{List}
use mathlib.Core.Bool.{true}
use native.Mathlib.Omega.{arith}
use lib.ListN.{length}
use borrow.Author.Tests.{le-leb, lt-ltb}
use Rattle.blocks.specs.Sizes.{block_at}
use Rattle.blocks.specs.declared.BlockKind.TheVariants.{Sample as SampleBlock}
use Rattle.blocks.specs.declared.RecordKind.TheVariants.{Sample}
use Rattle.queries.specs.Finding.{there}
use Rattle.acceptance.proofs.Cutting.{size-least}
use Rattle.replace.specs.Replaced.{sample_replaced_if, sample_replaced}
use Rattle.replace.proofs.Accepting.{result-length}
use Rattle.format.specs.Description.{Description}
use Rattle.format.specs.Encoding.{encoded}
use Rattle.format.specs.WellFormed.{WellFormed}
use Rattle.format.proofs.Placed.{encoded-opens, info-numbers}
use Rattle.format.proofs.Theorems.{encoding-bytes}

pub result-no-longer : (d : Description) (w : WellFormed d) (sample : ℕ) → 1 ≤ sample → sample ≤ length w.samples → (new : List ℕ)
    → length (sample_replaced (encoded d) sample new) ≤ length (encoded d) + length new
result-no-longer d w sample low high new =
    let (l, opens, layout) = encoded-opens d w in
    let numbers = info-numbers d w layout w.info w.info_there in
    let samples : l.samples ≡ length w.samples = numbers.1 ∙ sym w.lists.sample_count in
    let t : there (encoded d) l Sample sample ≡ true =
    simp (le-leb 1 sample low, lt-ltb (sample - 1) l.samples (omega (arith, samples))) in
    omega (
      arith,
      ap length (ap (sample_replaced_if (encoded d) sample new) opens),
      result-length (encoded d) (encoding-bytes d w) l opens sample t new,
      size-least SampleBlock (encoded d) (block_at (encoded d) SampleBlock l.spans.smpl (sample - 1)),
    )
