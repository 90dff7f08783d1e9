-- The frames of a sample that a query finds (theorem 15): the block lies in the data of SMPL, and the frames are the rest of the block
-- after its 8 bytes of flags and number. So the part of the module that is returned is never cut.
use Prim.Native.Nat.{ℕ, ◌+◌, ◌-◌, ◌*◌, ◌≤◌}
use Rattle.std.specs.Prelude.{Result, Ok, Err}
use mathlib.Core.Path.{◌≡◌, ap, ◌∙◌}
use mathlib.Core.Logic.{◌⊎◌, inl, inr}
use mathlib.Core.List.{List, []}
use mathlib.Core.Bool.{true, not}
use native.Mathlib.Omega.{arith}
use lib.ListN.{length}
use lib.Dec.{eqb}
use Rattle.vocabulary.proofs.EveryOne.{every_first}
use Rattle.refusal.specs.declared.Refusal.{Refusal}
use Rattle.numbers.specs.Numbers.{number32, part_of}
use Rattle.blocks.specs.StoredFields.{sample_frames}
use Rattle.blocks.specs.Sizes.{width_of, size_of, first_block, block_at}
use Rattle.blocks.specs.Filling.{data_end}
use Rattle.blocks.specs.declared.BlockKind.TheVariants.{Sample as SampleBlock}
use Rattle.blocks.specs.declared.RecordKind.TheVariants.{Sample}
use Rattle.queries.specs.Finding.{found}
use Rattle.queries.specs.declared.Block.{Block}
use Rattle.acceptance.proofs.OpenModules.{module-opens}
use Rattle.acceptance.proofs.Locating.{part_length}
use Rattle.acceptance.proofs.Holding.{every-place}
use Rattle.acceptance.proofs.BlockFields.{width-says}
use Rattle.samples.specs.Shown.{bytes_per_frame, frames_if, frames_part}
use Rattle.query_theorems.specs.Queries.{InChunk, FramesIn}
use Rattle.query_theorems.proofs.FoundBlocks.{found-numbered, block-in-chunk}

-- Flags that the check accepts mean frames of 1, 2 or 4 bytes.
width-of : (flags : ℕ) → not (eqb (width_of flags) 0) ≡ true → (width_of flags ≡ 1) ⊎ ((width_of flags ≡ 2) ⊎ (width_of flags ≡ 4))
width-of flags h = go ((width-says flags).0 h)
  where
    go : (flags ≡ 1) ⊎ ((flags ≡ 2) ⊎ (flags ≡ 4)) → (width_of flags ≡ 1) ⊎ ((width_of flags ≡ 2) ⊎ (width_of flags ≡ 4))
    go (inl e) = inl (ap (λ (f : ℕ). width_of f) e)
    go (inr (inl e)) = inr (inl (ap (λ (f : ℕ). width_of f) e))
    go (inr (inr e)) = inr (inr (ap (λ (f : ℕ). width_of f) e))

module _ (m : List ℕ) (sample : ℕ) where
  handed_out : Result Block Refusal → List ℕ
  handed_out f = part_of m (frames_if m f).offset (frames_if m f).length

  module _ (b : Block) (e : found m Sample sample ≡ Ok b) where
    chunk : InChunk m Sample b.at
    chunk = block-in-chunk m Sample sample b e

    width : (bytes_per_frame m b.at ≡ 1) ⊎ ((bytes_per_frame m b.at ≡ 2) ⊎ (bytes_per_frame m b.at ≡ 4))
    width =
        let l = chunk.layout in
        let s = found-numbered m Sample sample b l chunk.opens e in
        let flags = (module-opens m l chunk.opens).content.blocks.flags in
        rw s.block (width-of (number32 m (block_at m SampleBlock l.spans.smpl (sample - 1)))
        (every_first ((every-place _ (size_of SampleBlock m) l.samples (first_block SampleBlock l.spans.smpl)).0 flags (sample - 1) s.counted)))

    bytes : frames_part m sample ≡ part_of m (b.at + 8) (sample_frames m b.at * bytes_per_frame m b.at)
    unfolding handed_out
    bytes = ap (handed_out) e

    fits : b.at + 8 + sample_frames m b.at * bytes_per_frame m b.at ≤ data_end chunk.layout.spans.smpl
    unfolding size_of
    fits = omega (arith, chunk.inside)

    size : length (frames_part m sample) ≡ sample_frames m b.at * bytes_per_frame m b.at
    size = ap length bytes ∙ part_length m (b.at + 8) (sample_frames m b.at * bytes_per_frame m b.at) (omega (arith, fits, chunk.whole))

    pub frames-in : FramesIn m sample b.at
    frames-in = record { chunk = chunk; width = width; bytes = bytes; size = size; inside = rw size fits }

  pub frames-refused : (r : Refusal) → found m Sample sample ≡ Err r → frames_part m sample ≡ []
  unfolding handed_out
  frames-refused r e = ap (handed_out) e
