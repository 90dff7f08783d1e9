-- Writing the module with the block of a sample replaced: the module up to the block with another length of SMPL's data, the new block, and
-- the rest of the module.
use Prim.Native.Nat.{ℕ, ◌+◌, ◌-◌, ◌≤◌, ◌<◌}
use mathlib.Core.Path.{◌≡◌, refl, sym, ap, ◌∙◌}
use mathlib.Core.List.{List, [], ◌∷◌, ◌++◌, flatten}
use native.Mathlib.Omega.{arith}
use lib.ListN.{length, take, drop, length-append, length-drop}
use lib.Seq.{length-take-le}
use borrow.Rule.Slice.PartMut.{mid_of, put_mid}
use Rattle.numbers.specs.Numbers.{bytes32, put_at}
use Rattle.numbers.proofs.PutBytes.{put_front, put-length, put-within}
use Rattle.layout.specs.declared.ChunkSpan.{ChunkSpan}
use Rattle.blocks.specs.Sizes.{size_of}
use Rattle.blocks.specs.declared.BlockKind.TheVariants.{Sample}
use Rattle.acceptance.proofs.Cutting.{size-least}
use Rattle.acceptance.proofs.Ends.{mid-end, copied, put_next}
use Rattle.acceptance.proofs.Ahead.{first_fits, second-inside, second-part, third-inside, third-part, three-written}
use Rattle.replace.specs.Replaced.{new_frames, new_block}
use Rattle.replace.specs.Steps.{front_with, content_length, block_replaced, SampleIn}

-- The new block: its flags and its number of frames, and then the frames.
module _ (new out : List ℕ) (room : length (new_block new) ≤ length out) where
  abbrev head : List ℕ
  head = bytes32 2 ++ bytes32 (new_frames new)

  module _ {out₁ out₂ : List ℕ} (e₁ : out₁ ≡ put_at (bytes32 2) 0 out) (e₂ : out₂ ≡ put_at (bytes32 (new_frames new)) 4 out₁) where
    head-written : out₂ ≡ head ++ drop 8 out
    unfolding flatten
    head-written = e₂ ∙ ap (put_at (bytes32 (new_frames new)) 4) e₁ ∙ put_front (bytes32 2 ∷ bytes32 (new_frames new) ∷ []) out (omega arith)

    pub head-length : length out₂ ≡ length out
    head-length = omega (arith, ap length head-written, length-append head (drop 8 out), length-drop 8 out)

    pub block_written : {mid : List ℕ} → mid ≡ take (length new) new ++ drop (length new) (mid_of 8 (length out₂ - 8) out₂)
        → (8 + length new ≡ length (new_block new)) × (put_mid 8 (length out₂ - 8) out₂ mid ≡ new_block new ++ drop (8 + length new) out)
    block_written {mid} e₃ = let long : length (head ++ new) ≡ 8 + length new = omega arith in (
      omega arith,
      put_next head new out out₂ mid 8 (length out₂) head-written refl (omega (arith, head-length)) (omega (arith, head-length))
          (copied new new (mid_of 8 (length out₂ - 8) out₂) mid refl e₃)
          ∙ ap (λ (k : ℕ). new_block new ++ drop k out) long,
    )

-- The module up to the block.
module _ (m : List ℕ) (smpl : ChunkSpan) (at content : ℕ) (s : SampleIn m smpl at) where
  least : 8 ≤ size_of Sample m at
  least = size-least Sample m at

  pub block_inside : at + size_of Sample m at ≤ length m
  block_inside = omega (arith, s.ends, s.inside)

  pub front-size : length (take at m) ≡ at
  front-size = length-take-le at m (omega (arith, block_inside))

  pub front_length : length (front_with m smpl at content) ≡ at
  front_length = put-length (bytes32 content) (smpl.at + 4) (take at m) ∙ front-size

  pub front-written : (out₀ : List ℕ) {out₁ out₂ : List ℕ} → out₁ ≡ take (length (take at m)) (take at m) ++ drop (length (take at m)) out₀
      → out₂ ≡ put_at (bytes32 content) (smpl.at + 4) out₁
      → out₂ ≡ front_with m smpl at content ++ drop at out₀
  front-written out₀ {out₁} {out₂} e₁ e₂ =
      let first : out₁ ≡ take at m ++ drop at out₀ =
      copied (take at m) (take at m) out₀ out₁ refl e₁ ∙ ap (λ (k : ℕ). take at m ++ drop k out₀) front-size in
      e₂
      ∙ ap (put_at (bytes32 content) (smpl.at + 4)) first
      ∙ put-within (bytes32 content) (smpl.at + 4) (take at m) (drop at out₀) (omega (arith, front-size, s.starts))

-- The whole: three lists, one after the other.
module _ (m : List ℕ) (smpl : ChunkSpan) (at : ℕ) (new : List ℕ) (s : SampleIn m smpl at) where
  abbrev content : ℕ
  content = content_length m smpl at new

  abbrev front : List ℕ
  front = front_with m smpl at content

  abbrev rest : List ℕ
  rest = drop (at + size_of Sample m at) m

  rest-length : length rest ≡ length m - (at + size_of Sample m at)
  rest-length = length-drop (at + size_of Sample m at) m

  -- The length of the result.
  pub replaced-length : length (block_replaced m smpl at new) + size_of Sample m at ≡ length m + length (new_block new)
  replaced-length =
      omega (
        arith,
        length-append front (new_block new ++ rest),
        length-append (new_block new) rest,
        front_length m smpl at content s,
        rest-length,
        block_inside m smpl at content s,
      )

  -- The size of the block as the code has computed it, and the content's length from it.
  module _ {old : ℕ} (o : old ≡ size_of Sample m at) where
    abbrev counted : ℕ
    counted = smpl.length - old + (8 + length new)

    counted_is : counted ≡ content
    counted_is = omega (arith, o)

    pub content-small : length new ≤ 16777216 → counted < 0x100000000
    content-small short = omega (arith, s.starts, s.ends, s.inside, s.limit)

    module _ (out₀ : List ℕ) (room : length (block_replaced m smpl at new) ≤ length out₀) where
      pub front-room : at ≤ length out₀
      front-room = omega (arith, first_fits front (new_block new) rest out₀ room, front_length m smpl at content s)

      module _ {out₁ : List ℕ} (e₁ : out₁ ≡ front_with m smpl at counted ++ drop at out₀) where
        placed : (at ≡ length front) × (out₁ ≡ front ++ drop at out₀)
        placed = (sym (front_length m smpl at content s), e₁ ∙ ap (λ (k : ℕ). front_with m smpl at k ++ drop at out₀) counted_is)

        pub block_start : at ≤ length out₁
        block_start = second-inside front (new_block new) rest out₀ room out₁ placed

        pub block-part : length (new_block new) ≤ length (mid_of at (length out₁ - at) out₁)
        block-part = second-part front (new_block new) rest out₀ room out₁ placed

        module _ {r : ℕ} {mid₂ : List ℕ} (e₂ : (r ≡ length (new_block new)) × (mid₂ ≡ new_block new ++ drop r (mid_of at (length out₁ - at) out₁))) where
          abbrev out₂ : List ℕ
          out₂ = put_mid at (length out₁ - at) out₁ mid₂

          pub rest-start : at + r ≤ length out₂
          rest-start = third-inside front (new_block new) rest out₀ room out₁ placed mid₂ e₂

          abbrev source : List ℕ
          source = mid_of (at + old) (length m - (at + old)) m

          source_is : source ≡ rest
          source_is = mid-end (at + old) m ∙ ap (λ (k : ℕ). drop (at + k) m) o

          pub rest_part : length source ≤ length (mid_of (at + r) (length out₂ - (at + r)) out₂)
          rest_part = omega (arith, ap length source_is, third-part front (new_block new) rest out₀ room out₁ placed mid₂ e₂)

          pub samples-written : {mid₃ : List ℕ}
              → mid₃ ≡ take (length source) source ++ drop (length source) (mid_of (at + r) (length out₂ - (at + r)) out₂)
              → put_mid (at + r) (length out₂ - (at + r)) out₂ mid₃
              ≡ block_replaced m smpl at new ++ drop (length (block_replaced m smpl at new)) out₀
          samples-written {mid₃} e₃ =
              let done = three-written front (new_block new) rest out₀ room out₁ placed mid₂ e₂ mid₃ {r = length rest}
              (refl, copied source rest (mid_of (at + r) (length out₂ - (at + r)) out₂) mid₃ source_is e₃) in
              done.1 ∙ ap (λ (k : ℕ). block_replaced m smpl at new ++ drop k out₀) done.0
