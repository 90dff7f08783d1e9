-- The lemmas about the result, for the values that the code has computed: the block's place and size, and the place of INST's data.
use Prim.Native.Nat.{ℕ, ◌+◌, ◌-◌, ◌≤◌, ◌<◌}
use Rattle.std.specs.Prelude.{Ok}
use mathlib.Core.Path.{◌≡◌, refl, ◌∙◌}
use mathlib.Core.List.{List, ◌++◌}
use mathlib.Core.Bool.{true}
use native.Mathlib.Omega.{arith}
use lib.ListN.{length, drop}
use borrow.Rule.Slice.PartMut.{mid_of, put_mid}
use Rattle.numbers.specs.Numbers.{Bytes}
use Rattle.layout.specs.declared.Layout.{Layout}
use Rattle.blocks.specs.Sizes.{size_of, block_at}
use Rattle.blocks.specs.declared.BlockKind.TheVariants.{Sample as SampleBlock}
use Rattle.blocks.specs.declared.RecordKind.TheVariants.{Sample}
use Rattle.module.specs.Verdicts.{opened}
use Rattle.queries.specs.Finding.{there}
use Rattle.acceptance.proofs.Cutting.{size-least}
use Rattle.replace.specs.Replaced.{new_frames, new_block, rewritten_instruments, replaced_module}
use Rattle.replace.specs.Steps.{block_replaced, SampleIn, place_afterwards}
use Rattle.replace.proofs.Accepting.{module-limit, sample-in, block-before, result-size, result-length, place_inside, place-room, result-written}

module _ (m : List ℕ) (bytes : Bytes m) (l : Layout) (o : opened m ≡ Ok l) (sample : ℕ) (t : there m l Sample sample ≡ true) (new : List ℕ) {at : ℕ}
    (e : at ≡ block_at m SampleBlock l.spans.smpl (sample - 1)) where
  pub sample-there : length new ≤ 16777216 → {room : ℕ} → length (replaced_module m l sample new) ≤ room
      → SampleIn m l.spans.smpl at × (length new ≤ 16777216) × (length (block_replaced m l.spans.smpl at new) ≤ room)
  sample-there short h = rw e (sample-in m bytes l o sample t, short, omega (arith, result-size m bytes l o sample t new))

  module _ {old : ℕ} (s : old ≡ size_of SampleBlock m at) where
    old-is : old ≡ size_of SampleBlock m (block_at m SampleBlock l.spans.smpl (sample - 1))
    old-is = rw e at s

    -- The requirements of the place of INST's data.
    pub moves : length new ≤ 16777216 → (l.spans.smpl.at ≤ l.spans.inst.at → old ≤ l.spans.inst.at) × (8 + length new ≤ 16777224)
    moves short = (λ h. omega (arith, old-is, block-before m bytes l o sample t h), omega arith)

    -- The lengths: of the bytes that are kept, and of the result.
    block_size : (8 ≤ old) × (old ≤ length m)
    block_size =
        let i = sample-in m bytes l o sample t in
        (omega (arith, s, size-least SampleBlock m at), omega (arith, old-is, i.ends, i.inside))

    pub size-eight : 8 ≤ old
    size-eight = block_size.0

    pub size-inside : old - 8 ≤ length m
    size-inside = omega (arith, block_size.1)

    pub kept-limit : length m - (old - 8) ≤ 16777216
    kept-limit = omega (arith, module-limit m bytes l o, block_size.0)

    pub result-counted : length m - (old - 8) + length new ≡ length (replaced_module m l sample new)
    result-counted = omega (arith, result-length m bytes l o sample t new, old-is, block_size.0, block_size.1)

    pub result-short : length new ≤ 16777216 - (length m - (old - 8)) → length (replaced_module m l sample new) ≤ 16777216
    result-short h = omega (arith, result-counted, kept-limit)

    pub result-long : 16777216 - (length m - (old - 8)) < length new → 16777216 < length (replaced_module m l sample new)
    result-long h = omega (arith, result-counted)

    -- Writing INST's new data.
    module _ (out₀ : List ℕ) (room : length (replaced_module m l sample new) ≤ length out₀) {out₁ : List ℕ}
        (e₁ : out₁ ≡ block_replaced m l.spans.smpl at new ++ drop (length (block_replaced m l.spans.smpl at new)) out₀) {start : ℕ}
        (p : start ≡ place_afterwards l.spans.inst l.spans.smpl old (8 + length new)) where
      start_is : start
          ≡ place_afterwards l.spans.inst l.spans.smpl (size_of SampleBlock m (block_at m SampleBlock l.spans.smpl (sample - 1)))
          (length (new_block new))
      start_is =
          let size : 8 + length new ≡ length (new_block new) = omega arith in
          p ∙ rw (old-is, size) refl

      pub start-inside : start ≤ length out₁
      start-inside = place_inside m bytes l o sample t new out₀ room (rw e at e₁) start_is

      pub start-room : length (rewritten_instruments m l sample (new_frames new)) ≤ length (mid_of start (length out₁ - start) out₁)
      start-room = place-room m bytes l o sample t new out₀ room (rw e at e₁) start_is

      pub all-written : {mid : List ℕ}
          → mid ≡ rewritten_instruments m l sample (new_frames new)
          ++ drop (length (rewritten_instruments m l sample (new_frames new))) (mid_of start (length out₁ - start) out₁)
          → put_mid start (length out₁ - start) out₁ mid ≡ replaced_module m l sample new ++ drop (length (replaced_module m l sample new)) out₀
      all-written e₂ = result-written m bytes l o sample t new out₀ room (rw e at e₁) start_is e₂
