-- Chunks filled by blocks: the blocks that the check counts end exactly with the chunk's data if and only if the chunk is its front and
-- that many blocks.
use Prim.Native.Nat.{ℕ, ◌+◌, ◌≤◌}
use mathlib.Core.Path.{◌≡◌, refl, sym, ap, ◌∙◌}
use mathlib.Core.Logic.{◌↔◌}
use mathlib.Core.List.{List, [], ◌∷◌, ◌++◌, append_assoc}
use native.Mathlib.Omega.{arith}
use lib.ListN.{length, take, drop, length-append, length-drop, take-append-drop}
use lib.Seq.{length-take-le}
use Rattle.vocabulary.specs.Lists.{joined, Every, none, also}
use Rattle.vocabulary.proofs.JoinedLists.{joined-last}
use Rattle.layout.specs.declared.ChunkSpan.{ChunkSpan}
use Rattle.blocks.specs.Sizes.{size_of, places_from, place_after}
use Rattle.blocks.specs.Filling.{data_end}
use Rattle.blocks.specs.declared.BlockKind.{BlockKind}
use Rattle.acceptance.specs.Rules.{Filled}
use Rattle.acceptance.proofs.Spans.{SpanHolds}
use Rattle.acceptance.proofs.Locating.{PartAt}
use Rattle.acceptance.proofs.ChunkHalf.{span-part}
use Rattle.acceptance.proofs.Cutting.{Sized, after-least, part-first, part-rest, part-size, Cut, cut, blocks_end, places-blocks, blocks-places}

-- The given number of blocks fill a chunk after its front, and are in the module from this place on.
pub record BlocksIn (kind : BlockKind) (m : List ℕ) (start front : ℕ) (chunk : List ℕ) (count : ℕ) (blocks : List (List ℕ)) : Type 0 where
  pub filled : Filled front chunk count blocks
  pub there : PartAt m start (joined blocks)
  pub sized : Every (Sized kind) blocks

module _ {m chunk : List ℕ} {span : ChunkSpan} (s : SpanHolds m span chunk) where
  -- The bytes of the chunk after its front.
  after_front : (front : ℕ) (rest : List ℕ) → front ≤ length chunk → chunk ≡ take front chunk ++ rest → PartAt m (span.at + front) rest
  after_front front rest h e =
      let size : length (take front chunk) ≡ front = length-take-le front chunk h in
      rw size at (part-rest {at = span.at} (take front chunk) rest (rw e at (span-part s)))

  module _ (kind : BlockKind) (front count : ℕ) where
    pub fill-blocks : place_after (size_of kind m) count (span.at + front) ≡ data_end span
        → (blocks : List (List ℕ)) × BlocksIn kind m (span.at + front) front chunk count blocks
    fill-blocks e = filled-by (cut kind m count (span.at + front) (drop front chunk) rest (e ∙ rw length-drop (omega (arith, s.size, fits))))
      where
        fits : front ≤ length chunk
        fits = omega (arith, after-least (size_of kind m) count (span.at + front), s.size, e)

        rest : PartAt m (span.at + front) (drop front chunk)
        rest = after_front front (drop front chunk) fits (sym (take-append-drop front chunk))

        filled-by : Cut kind count (drop front chunk) → (blocks : List (List ℕ)) × BlocksIn kind m (span.at + front) front chunk count blocks
        filled-by c = (
          c.blocks,
          record {
            filled = record {
              fronts = fits;
              bytes = sym (take-append-drop front chunk) ∙ ap (λ (bytes : List ℕ). take front chunk ++ bytes) c.all;
              number = c.number;
            };
            there = rw c.all at rest;
            sized = c.sized;
          },
        )

    module _ (blocks : List (List ℕ)) where
      pub filled-blocks : Filled front chunk count blocks → Every (Sized kind) blocks → BlocksIn kind m (span.at + front) front chunk count blocks
      filled-blocks f sized = record { filled = f; there = after_front front (joined blocks) f.fronts f.bytes; sized = sized }

      pub blocks-fill : BlocksIn kind m (span.at + front) front chunk count blocks → place_after (size_of kind m) count (span.at + front) ≡ data_end span
      blocks-fill b =
          let end = blocks_end kind blocks b.there b.sized in
          let long : length chunk ≡ front + length (joined blocks) =
          ap length b.filled.bytes
          ∙ length-append (take front chunk) (joined blocks)
          ∙ ap (λ (n : ℕ). n + length (joined blocks)) (length-take-le front chunk b.filled.fronts) in
          (rw b.filled.number at end) ∙ omega (arith, s.size, long)

-- What holds at the places of the blocks holds for the blocks, and conversely.
pub blocks-every : {kind : BlockKind} {m : List ℕ} {start front : ℕ} {chunk : List ℕ} {count : ℕ} {blocks : List (List ℕ)}
    {P : ℕ → Type 0} {Q : List ℕ → Type 0}
    → BlocksIn kind m start front chunk count blocks
    → ((at : ℕ) (block : List ℕ) → PartAt m at block → Sized kind block → P at ↔ Q block)
    → Every P (places_from (size_of kind m) count start) ↔ Every Q blocks
blocks-every {kind} {blocks = blocks} b h = rw (← b.filled.number) (
  places-blocks kind (λ at block p s. (h at block p s).0) blocks b.there b.sized,
  blocks-places kind (λ at block p s. (h at block p s).1) blocks b.there b.sized,
)

-- One block in a list of blocks that begin at a start: the blocks before it and after it, and its place.
pub record OneBlock (kind : BlockKind) (m : List ℕ) (start : ℕ) (blocks : List (List ℕ)) (at : ℕ) : Type 0 where
  pub before : List (List ℕ)
  pub block : List ℕ
  pub after : List (List ℕ)
  pub splits : blocks ≡ before ++ (block ∷ after)
  pub part : PartAt m at block
  pub sized : Sized kind block
  pub there : start + length (joined before) ≡ at

-- At each place of a block there is such a block.
module _ (kind : BlockKind) (m : List ℕ) (start : ℕ) where
  abbrev EachFrom : List (List ℕ) → List (List ℕ) → ℕ → Type 0
  EachFrom first blocks at = Every (OneBlock kind m start (first ++ blocks)) (places_from (size_of kind m) (length blocks) at)

  each-from : (first xs : List (List ℕ)) (at : ℕ) → PartAt m at (joined xs) → Every (Sized kind) xs → start + length (joined first) ≡ at → EachFrom first xs at
  each-from first [] at p none there = none
  each-from first (block ∷ blocks) at p (also s e) there =
      let part = part-first block (joined blocks) p in
      let long : length (joined (first ++ (block ∷ []))) ≡ length (joined first) + length block = rw joined-last (length-append (joined first) block) in
      let more = each-from (first ++ (block ∷ [])) blocks (at + length block) (part-rest block (joined blocks) p) e (omega arith) in
      also (record { before = first; block = block; after = blocks; splits = refl; part = part; sized = s; there = there })
      (rw (append_assoc, sym (part-size kind part s)) at more)

module _ {kind : BlockKind} {m chunk : List ℕ} {start front n : ℕ} {blocks : List (List ℕ)} (b : BlocksIn kind m start front chunk n blocks) where
  pub each-block : Every (OneBlock kind m start blocks) (places_from (size_of kind m) n start)
  each-block = rw (← b.filled.number) (each-from kind m start [] blocks start b.there b.sized (omega arith))
