-- The blocks that queries find (theorems 13 and 14). A query finds a block only in an accepted module. There the blocks of each chunk fill
-- it, so each lies in the chunk's data, and the chunk in the module; each begins where the one before it ends, and the last ends where the
-- data end.
use Prim.Native.Nat.{ℕ, zero, suc, ◌+◌, ◌-◌, ◌≤◌, ◌<◌}
use Rattle.std.specs.Prelude.{Result, Ok, Err}
use mathlib.Core.Path.{◌≡◌, refl, sym, ap, ◌∙◌}
use mathlib.Core.List.{List}
use mathlib.Core.Bool.{Bool, true, false}
use native.Mathlib.Omega.{arith}
use lib.Dec.{leb, ltb}
use borrow.Author.Tests.{ltb-true, ltb-false}
use Rattle.refusal.specs.declared.Refusal.{Refusal}
use Rattle.layout.specs.declared.ChunkSpan.{ChunkSpan}
use Rattle.layout.specs.declared.Layout.{Layout}
use Rattle.blocks.specs.Sizes.{size_of, place_after, first_block, block_at, envelope_count}
use Rattle.blocks.specs.Filling.{data_end}
use Rattle.blocks.specs.declared.BlockKind.{BlockKind}
use Rattle.blocks.specs.declared.BlockKind.TheVariants.{Song as SongBlock, Instrument as InstrumentBlock, Pattern as PatternBlock}
use Rattle.blocks.specs.declared.BlockKind.TheVariants.{Sample as SampleBlock, Envelope as EnvelopeBlock}
use Rattle.blocks.specs.RecordKinds.{block_kind_of, chunk_of, count_of}
use Rattle.blocks.specs.declared.RecordKind.{RecordKind}
use Rattle.blocks.specs.declared.RecordKind.TheVariants.{Song, Instrument, Pattern, Sample, VolumeEnvelope, PanningEnvelope}
use Rattle.module.specs.Verdicts.{opened}
use Rattle.queries.specs.Finding.{first_of, there, block_of, found_in, found_if, found}
use Rattle.queries.specs.declared.Block.{Block}
use Rattle.queries.proofs.Numbering.{counted-found, found-there}
use Rattle.acceptance.proofs.Holding.{and-says, leb-says, ltb-says}
use Rattle.acceptance.proofs.Cutting.{after-least, after_next}
use Rattle.acceptance.proofs.ContentRules.{kind-fills}
use Rattle.acceptance.proofs.WholeChunks.{WholeAt, SpansWhole}
use Rattle.acceptance.proofs.OpenModules.{Opens, module-opens}
use Rattle.query_theorems.specs.Queries.{kind_identifier, InChunk}

-- The block that a query finds in a module that opens is that of a number in range.
pub record Numbered (m : List ℕ) (l : Layout) (kind : RecordKind) (number : ℕ) (b : Block) : Type 0 where
  pub first : first_of kind ≤ number
  pub counted : number - first_of kind < count_of m l kind
  pub block : b ≡ block_of m l kind number

found-in : (m : List ℕ) (l : Layout) (kind : RecordKind) (number : ℕ) (b : Block) → found_in m l kind number ≡ Ok b → Numbered m l kind number b
found-in m l kind number b e =
    let (is-there, block) = found-there m l kind number b e in
    let says = (and-says (leb (first_of kind) number) (ltb (number - first_of kind) (count_of m l kind))).0 is-there in
    record {
      first = (leb-says (first_of kind) number).0 says.0;
      counted = (ltb-says (number - first_of kind) (count_of m l kind)).0 says.1;
      block = block;
    }

module _ (m : List ℕ) (kind : RecordKind) (number : ℕ) (b : Block) where
  pub found-opened : found m kind number ≡ Ok b → (l : Layout) × (opened m ≡ Ok l)
  found-opened = go (opened m) refl
    where
      go : (o : Result Layout Refusal) → opened m ≡ o → found_if m kind number o ≡ Ok b → (l : Layout) × (opened m ≡ Ok l)
      go (Ok l) h e = (l, h)
      go (Err r) h e = let z : ◌≡◌ {A = ℕ} 0 1 = cc in absurd (omega arith)

  pub found-numbered : (l : Layout) → opened m ≡ Ok l → found m kind number ≡ Ok b → Numbered m l kind number b
  found-numbered l o e = found-in m l kind number b (sym (ap (found_if m kind number) o) ∙ e)

-- The chunk of a record kind is present; for envelopes, if there is at least one.
count-there : (m : List ℕ) (span : ChunkSpan) (i : ℕ) → i < envelope_count m span → span.present ≡ true
count-there m span i h = go span.present refl
  where
    go : (there : Bool) → span.present ≡ there → span.present ≡ true
    go true e = e
    go false e = absurd (omega (arith, rw e at h))

module _ {m : List ℕ} {l : Layout} where
  pub kind-whole : SpansWhole m l → (kind : RecordKind) (i : ℕ) → i < count_of m l kind → WholeAt m (kind_identifier kind) (chunk_of l kind)
  kind-whole c Song i h = c.song
  kind-whole c Instrument i h = c.inst
  kind-whole c Pattern i h = c.patt
  kind-whole c Sample i h = c.smpl
  kind-whole c VolumeEnvelope i h = c.venv (count-there m l.spans.venv i h)
  kind-whole c PanningEnvelope i h = c.penv (count-there m l.spans.penv i h)

first-after : (kind : BlockKind) (span : ChunkSpan) → span.at + 8 ≤ first_block kind span
first-after SongBlock span = omega arith
first-after InstrumentBlock span = omega arith
first-after PatternBlock span = omega arith
first-after SampleBlock span = omega arith
first-after EnvelopeBlock span = omega arith

-- A block of a kind is at a place within a chunk's data.
record BlockIn (m : List ℕ) (kind : BlockKind) (span : ChunkSpan) (at : ℕ) : Type 0 where
  after_header : span.at + 8 ≤ at
  inside : at + size_of kind m at ≤ data_end span

block_in : (m : List ℕ) (kind : BlockKind) (span : ChunkSpan) (n i : ℕ) → block_at m kind span n ≡ data_end span → i < n
    → BlockIn m kind span (block_at m kind span i)
block_in m kind span n i e h = record {
  after_header = omega (arith, first-after kind span, after-least (size_of kind m) i (first_block kind span));
  inside = omega (arith, after_next (size_of kind m) n i (first_block kind span) h, e);
}

-- Theorem 13.
pub block-in-chunk : (m : List ℕ) (kind : RecordKind) (number : ℕ) (b : Block) → found m kind number ≡ Ok b → InChunk m kind b.at
block-in-chunk m kind number b e = in-layout (found-opened m kind number b e).0 (found-opened m kind number b e).1
  where
    in-layout : (l : Layout) → opened m ≡ Ok l → InChunk m kind b.at
    in-layout l o =
        let s = found-numbered m kind number b l o e in
        let opens = module-opens m l o in
        let i : ℕ = number - first_of kind in
        let w = kind-whole opens.spans kind i s.counted in
        let fills = kind-fills m l opens.content.blocks kind w.present in
        let inside = block_in m (block_kind_of kind) (chunk_of l kind) (count_of m l kind) i fills s.counted in
        rw s.block (record {
          layout = l;
          opens = o;
          present = w.present;
          header = w.header;
          named = w.named;
          size = w.size;
          after_header = inside.after_header;
          inside = inside.inside;
          whole = w.inside;
        })

-- Theorem 14.
pub first-block : (m : List ℕ) (l : Layout) (kind : RecordKind) (b : Block) → opened m ≡ Ok l
    → found m kind (first_of kind) ≡ Ok b
    → b.at ≡ first_block (block_kind_of kind) (chunk_of l kind)
first-block m l kind b o e =
    let none : first_of kind - first_of kind ≡ 0 = omega arith in
    ap (λ (c : Block). c.at) (found-numbered m kind (first_of kind) b l o e).block ∙ ap (block_at m (block_kind_of kind) (chunk_of l kind)) none

-- The place after one block more is the end of the last.
after_more : (size : ℕ → ℕ) (n at : ℕ) → place_after size (suc n) at ≡ place_after size n at + size (place_after size n at)
after_more size zero at = refl
after_more size (suc n) at = after_more size n (at + size at)

module _ (m : List ℕ) (kind : RecordKind) (number : ℕ) (b : Block) (e : found m kind number ≡ Ok b) where
  next-in : (l : Layout) → opened m ≡ Ok l
      → block_at m (block_kind_of kind) (chunk_of l kind) (number + 1 - first_of kind) ≡ b.at + size_of (block_kind_of kind) m b.at
  next-in l o =
      let s = found-numbered m kind number b l o e in
      let i : ℕ = number - first_of kind in
      let more : number + 1 - first_of kind ≡ suc i = omega (arith, s.first) in
      rw (s.block, more) (after_more (size_of (block_kind_of kind) m) i (first_block (block_kind_of kind) (chunk_of l kind)))

  pub next-block : (c : Block) → found m kind (number + 1) ≡ Ok c → c.at ≡ b.at + size_of (block_kind_of kind) m b.at
  next-block c f = in-layout (found-opened m kind number b e).0 (found-opened m kind number b e).1
    where
      in-layout : (l : Layout) → opened m ≡ Ok l → c.at ≡ b.at + size_of (block_kind_of kind) m b.at
      in-layout l o = ap (λ (d : Block). d.at) (found-numbered m kind (number + 1) c l o f).block ∙ next-in l o

  pub last_block : (l : Layout) (r : Refusal) → opened m ≡ Ok l → found m kind (number + 1) ≡ Err r
      → b.at + size_of (block_kind_of kind) m b.at ≡ data_end (chunk_of l kind)
  last_block l r o f = go (ltb (number + 1 - first_of kind) (count_of m l kind)) refl
    where
      s : Numbered m l kind number b
      s = found-numbered m kind number b l o e

      opens : Opens m l
      opens = module-opens m l o

      go : (t : Bool) → ltb (number + 1 - first_of kind) (count_of m l kind) ≡ t → b.at + size_of (block_kind_of kind) m b.at ≡ data_end (chunk_of l kind)
      go true h =
          let more : found m kind (number + 1) ≡ Ok (block_of m l kind (number + 1)) =
          counted-found m l kind (number + 1) o (omega (arith, s.first))
          (ltb-true (number + 1 - first_of kind) (count_of m l kind) h) in
          let z : ◌≡◌ {A = ℕ} 0 1 = cc in
          absurd (omega arith)
      go false h =
          let all : number + 1 - first_of kind ≡ count_of m l kind =
          omega (arith, s.first, s.counted, ltb-false (number + 1 - first_of kind) (count_of m l kind) h) in
          let w = kind-whole opens.spans kind (number - first_of kind) s.counted in
          sym (next-in l o) ∙ ap (block_at m (block_kind_of kind) (chunk_of l kind)) all ∙ kind-fills m l opens.content.blocks kind w.present
