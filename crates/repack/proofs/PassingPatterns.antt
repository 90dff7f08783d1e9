-- The loops over the patterns: the total length of their rewritten blocks, and writing them.
use Prim.Native.Nat.{ℕ, zero, suc, ◌+◌, ◌-◌, ◌≤◌, ◌<◌}
use Rattle.std.specs.Prelude.{Ok}
use mathlib.Core.Path.{◌≡◌, refl, sym, ap, ◌∙◌}
use mathlib.Core.List.{List, [], ◌++◌, append_assoc, append-nil}
use native.Mathlib.Omega.{arith}
use lib.ListN.{length, drop, length-append, length-drop}
use borrow.Rule.Slice.PartMut.{mid_of, put_mid}
use Rattle.layout.specs.declared.ChunkSpan.{ChunkSpan}
use Rattle.blocks.specs.Sizes.{size_of, place_after, first_block}
use Rattle.blocks.specs.Filling.{data_end}
use Rattle.blocks.specs.declared.BlockKind.TheVariants.{Pattern}
use Rattle.module.specs.Streams.{stream_verdict}
use Rattle.acceptance.proofs.Cutting.{after-least, size-least}
use Rattle.acceptance.proofs.Ends.{mid-end, put_next, written-length}
use Rattle.repack.specs.Repacked.{repacked_block}
use Rattle.repack.specs.Steps.{rewritten_blocks, PatternsTo, PatternsIn}
use Rattle.repack.proofs.Rewritten.{block-shorter}

-- The first of the remaining patterns: its stream is sound, its block ends no later than the end, and the others follow.
pub record NextPattern (m : List ℕ) (tracks left at end : ℕ) : Type 0 where
  pub sound : stream_verdict m tracks at ≡ Ok tt
  pub inside : at + size_of Pattern m at ≤ end
  pub later : PatternsTo m tracks (left - 1) (at + size_of Pattern m at) end
  pub splits : rewritten_blocks m tracks left at ≡ repacked_block m tracks at ++ rewritten_blocks m tracks (left - 1) (at + size_of Pattern m at)

module _ {m : List ℕ} {tracks at end : ℕ} where
  pub pattern-next : (left : ℕ) → 0 < left → PatternsTo m tracks left at end → NextPattern m tracks left at end
  pattern-next zero some p = absurd (omega arith)
  pattern-next (suc left) some p =
      let less : suc left - 1 ≡ left = omega arith in
      record {
        sound = p.sound.0;
        inside = omega (arith, after-least (size_of Pattern m) left (at + size_of Pattern m at), p.ends);
        later = rw less (record { sound = p.sound.1; ends = p.ends; inside = p.inside });
        splits = rw less refl;
      }

  -- The preconditions of the functions that read the pattern's block.
  pub pattern-ready : (left : ℕ) → 0 < left → PatternsTo m tracks left at end → (at + 6 ≤ length m) × (at ≤ end) × (stream_verdict m tracks at ≡ Ok tt)
  pattern-ready left some p =
      let next = pattern-next left some p in
      (omega (arith, next.inside, p.inside, size-least Pattern m at), omega (arith, next.inside), next.sound)

-- The patterns of a chunk, from the place at which a loop begins.
pub patterns-from : {m : List ℕ} (chunk : ChunkSpan) {n tracks at : ℕ} → PatternsIn m chunk n tracks
    → at ≡ first_block Pattern chunk
    → PatternsTo m tracks n at (place_after (size_of Pattern m) n at)
patterns-from chunk p e = rw e (record { sound = p.sound; ends = refl; inside = rw p.ends p.inside })

-- The rewritten blocks are no longer than the blocks before.
pub blocks-shorter : (m : List ℕ) (tracks n at end : ℕ) → PatternsTo m tracks n at end → length (rewritten_blocks m tracks n at) + at ≤ end
blocks-shorter m tracks zero at end p = omega (arith, p.ends)
blocks-shorter m tracks (suc n) at end p =
    let next = pattern-next (suc n) (omega arith) p in
    let later : PatternsTo m tracks n (at + size_of Pattern m at) end = record { sound = p.sound.1; ends = p.ends; inside = p.inside } in
    let ready = pattern-ready (suc n) (omega arith) p in
    omega (
      arith,
      blocks-shorter m tracks n (at + size_of Pattern m at) end later,
      length-append (repacked_block m tracks at) (rewritten_blocks m tracks n (at + size_of Pattern m at)),
      block-shorter m tracks at next.sound (omega (arith, ready.0)),
    )

-- The same for a chunk, from the place at which a loop begins.
pub data-shorter : {m : List ℕ} (chunk : ChunkSpan) {n tracks start : ℕ} → PatternsIn m chunk n tracks
    → start ≡ first_block Pattern chunk
    → length (rewritten_blocks m tracks n start) ≤ chunk.length
data-shorter {m} chunk {n} {tracks} p e = rw e (omega (arith, blocks-shorter m tracks n (first_block Pattern chunk) (data_end chunk) p))

-- The lengths of the rewritten blocks, summed up.
pub record Counting (m : List ℕ) (tracks n start end at counted left : ℕ) : Type 0 where
  pub same : counted + length (rewritten_blocks m tracks left at) ≡ length (rewritten_blocks m tracks n start)
  pub rest : PatternsTo m tracks left at end

module _ {m : List ℕ} {tracks n start end : ℕ} where
  pub counting-first : PatternsTo m tracks n start end → Counting m tracks n start end start 0 n
  counting-first p = record { same = omega arith; rest = p }

  module _ {at counted left : ℕ} (c : Counting m tracks n start end at counted left) where
    pub counting-turn : {size s : ℕ} → 0 < left → size ≡ length (repacked_block m tracks at) → s ≡ size_of Pattern m at
        → Counting m tracks n start end (at + s) (counted + size) (left - 1)
    counting-turn {size} {s} some sized e =
        let next = pattern-next left some c.rest in
        record {
          same = rw e (omega (
            arith,
            c.same,
            ap length next.splits
                ∙ length-append (repacked_block m tracks at) (rewritten_blocks m tracks (left - 1) (at + size_of Pattern m at)),
            sized,
          ));
          rest = rw e next.later;
        }

    -- Bounds of the sums.
    pub counting-small : {size s : ℕ} → 0 < left → size ≡ length (repacked_block m tracks at) → s ≡ size_of Pattern m at
        → (counted + size ≤ length (rewritten_blocks m tracks n start)) × (at + s ≤ length m)
    counting-small some sized e =
        let next = pattern-next left some c.rest in
        (omega (arith, (counting-turn some sized e).same), omega (arith, next.inside, c.rest.inside))

    pub counting-last : (chunk : ChunkSpan) → start ≡ first_block Pattern chunk → left ≤ 0
        → counted ≡ length (rewritten_blocks m tracks n (first_block Pattern chunk))
    counting-last chunk e over =
        let none : left ≡ 0 = omega arith in
        rw (← e) (omega (arith, rw none at c.same))

-- The rewritten blocks, written one after the other to the front of an output.
pub record WritingBlocks (m : List ℕ) (tracks n start end : ℕ) (out₀ out : List ℕ) (at to left : ℕ) : Type 0 where
  pub done : List ℕ
  pub written : out ≡ done ++ drop (length done) out₀
  pub place : length done ≡ to
  pub all : done ++ rewritten_blocks m tracks left at ≡ rewritten_blocks m tracks n start
  pub rest : PatternsTo m tracks left at end

module _ {m : List ℕ} {tracks n start end : ℕ} (out₀ : List ℕ) where
  pub blocks-first : PatternsTo m tracks n start end → WritingBlocks m tracks n start end out₀ out₀ start 0 n
  blocks-first p = record { done = []; written = refl; place = refl; all = refl; rest = p }

  module _ (out : List ℕ) {at to left : ℕ} (w : WritingBlocks m tracks n start end out₀ out at to left)
      (room : length (rewritten_blocks m tracks n start) ≤ length out₀) where
    blocks-place : to + length (rewritten_blocks m tracks left at) ≡ length (rewritten_blocks m tracks n start)
    blocks-place = omega (arith, ap length w.all, length-append w.done (rewritten_blocks m tracks left at), w.place)

    pub blocks-length : length out ≡ length out₀
    blocks-length = written-length w.done out₀ out w.written (omega (arith, blocks-place, w.place))

    pub blocks-inside : to ≤ length out
    blocks-inside = omega (arith, blocks-place, blocks-length)

    pub blocks-room : 0 < left → to + length (repacked_block m tracks at) ≤ length out₀
    blocks-room some =
        let next = pattern-next left some w.rest in
        omega (
          arith,
          blocks-place,
          ap length next.splits
              ∙ length-append (repacked_block m tracks at) (rewritten_blocks m tracks (left - 1) (at + size_of Pattern m at)),
        )

    pub blocks-part : 0 < left → length (repacked_block m tracks at) ≤ length (mid_of to (length out - to) out)
    blocks-part some = omega (arith, blocks-room some, blocks-length, ap length (mid-end to out), length-drop to out)

    -- The bound of the next place.
    pub blocks-small : {s : ℕ} → 0 < left → s ≡ size_of Pattern m at → at + s ≤ length m
    blocks-small some e = let next = pattern-next left some w.rest in omega (arith, next.inside, w.rest.inside)

    pub blocks-turn : (mid : List ℕ) {size s : ℕ} → 0 < left
        → (size ≡ length (repacked_block m tracks at)) × (mid ≡ repacked_block m tracks at ++ drop size (mid_of to (length out - to) out))
        → s ≡ size_of Pattern m at
        → WritingBlocks m tracks n start end out₀ (put_mid to (length out - to) out mid) (at + s) (to + size) (left - 1)
    blocks-turn mid {size} {s} some block e =
        let next = pattern-next left some w.rest in
        record {
          done = w.done ++ repacked_block m tracks at;
          written = put_next w.done (repacked_block m tracks at) out₀ out mid to (length out) w.written w.place
              (omega (arith, blocks-room some, blocks-length)) (omega (arith, blocks-length)) (rw block.0 at block.1);
          place = omega (arith, length-append w.done (repacked_block m tracks at), w.place, block.0);
          all = rw e (append_assoc w.done (repacked_block m tracks at) _ ∙ ap (λ (l : List ℕ). w.done ++ l) (sym next.splits) ∙ w.all);
          rest = rw e next.later;
        }

-- The same for the patterns of a chunk, from the place at which the loop begins.
module _ (m : List ℕ) (chunk : ChunkSpan) (n tracks : ℕ) {start : ℕ} where
  pub blocks-enough : {size : ℕ} → length (rewritten_blocks m tracks n (first_block Pattern chunk)) ≤ size
      → start ≡ first_block Pattern chunk
      → length (rewritten_blocks m tracks n start) ≤ size
  blocks-enough room e = rw e room

  pub blocks_last : (out₀ out : List ℕ) {end at to left : ℕ} → WritingBlocks m tracks n start end out₀ out at to left
      → start ≡ first_block Pattern chunk → left ≤ 0
      → (to ≡ length (rewritten_blocks m tracks n (first_block Pattern chunk)))
      × (out ≡ rewritten_blocks m tracks n (first_block Pattern chunk) ++ drop to out₀)
  blocks_last out₀ out {at = at} {to = to} {left = left} w e over =
      let none : left ≡ 0 = omega arith in
      let whole : w.done ≡ rewritten_blocks m tracks n (first_block Pattern chunk) =
      sym (append-nil w.done)
      ∙ ap (λ (k : ℕ). w.done ++ rewritten_blocks m tracks k at) (sym none)
      ∙ w.all
      ∙ ap (rewritten_blocks m tracks n) e in
      (omega (arith, w.place, ap length whole), w.written ∙ rw (w.place, whole) refl)
