-- A module whose outline is found: its chunks, those with blocks and their number of blocks, as the rules count them and as the check does.
-- If the blocks fill their chunks, each block of the rules is at the place that the check computes for it (for theorem 10).
use Prim.Native.Nat.{ℕ, ◌+◌, ◌≤◌}
use mathlib.Core.Path.{◌≡◌, refl, sym, subst}
use mathlib.Core.List.{List}
use lib.ListN.{length}
use Rattle.vocabulary.specs.Lists.{Every}
use Rattle.vocabulary.proofs.EveryOne.{every_of}
use Rattle.layout.specs.declared.ChunkSpan.{ChunkSpan}
use Rattle.layout.specs.declared.Layout.{Layout}
use Rattle.blocks.specs.Sizes.{size_of, first_block, blocks_of}
use Rattle.blocks.specs.RecordKinds.{block_kind_of, chunk_of, count_of}
use Rattle.blocks.specs.declared.RecordKind.{RecordKind}
use Rattle.blocks.specs.declared.RecordKind.TheVariants.{Song, Instrument, Pattern, Sample, VolumeEnvelope, PanningEnvelope}
use Rattle.acceptance.specs.Rules.{NeedsInfo}
use Rattle.acceptance.specs.Faults.{letters_of, front_of, count_in, SizeFits, MadeOf}
use Rattle.acceptance.specs.Places.{AllChunks, BlocksAt, BlockBegins}
use Rattle.acceptance.proofs.Spans.{SpanHolds, Found, CountsOf}
use Rattle.acceptance.proofs.Locating.{PartAt}
use Rattle.acceptance.proofs.Recorded.{There}
use Rattle.acceptance.proofs.ChunkHalf.{Outlined}
use Rattle.acceptance.proofs.Cutting.{Sized}
use Rattle.acceptance.proofs.FillingChunks.{BlocksIn, fill-blocks, filled-blocks, blocks-every, OneBlock, each-block}
use Rattle.acceptance.proofs.BlockFields.{sample-sized, sample-holds}
use Rattle.acceptance.proofs.ContentRules.{BlocksHold, kind-fills}
use Rattle.acceptance.proofs.ContentHalf.{counted, count_same}

-- The first block of a chunk is after its front.
pub first-is : (kind : RecordKind) (span : ChunkSpan) → first_block (block_kind_of kind) span ≡ span.at + front_of kind
first-is Song span = refl
first-is Instrument span = refl
first-is Pattern span = refl
first-is Sample span = refl
first-is VolumeEnvelope span = refl
first-is PanningEnvelope span = refl

-- The size of a block, as the rules state it and as the check computes it.
pub sized_of : (kind : RecordKind) (block : List ℕ) → SizeFits kind block → Sized (block_kind_of kind) block
unfolding size_of
sized_of Song block s = s
sized_of Instrument block s = s
sized_of Pattern block s = s
sized_of Sample block s = sample-sized block s
sized_of VolumeEnvelope block s = s
sized_of PanningEnvelope block s = s

module _ {m : List ℕ} {l : Layout} (o : Outlined m l) where
  pub others-there : (letters : List ℕ) → NeedsInfo letters → There o.chunks letters
  others-there letters NeedsInfo.song = o.mandatory.song
  others-there letters NeedsInfo.inst = o.mandatory.inst
  others-there letters NeedsInfo.patt = o.mandatory.patt
  others-there letters NeedsInfo.smpl = o.mandatory.smpl

  abbrev pub all-chunks : AllChunks m
  all-chunks = record {
    header = o.header;
    chunks = o.chunks;
    rules = o.rules;
    info = o.mandatory.info.0;
    info_there = o.mandatory.info.1;
    others_there = others-there;
  }

  pub counts : CountsOf l all-chunks.info
  counts = o.layout.counts all-chunks.info all-chunks.info_there

  -- The chunk of a record kind, and the number of its blocks.
  pub found_of : (kind : RecordKind) → Found m o.chunks (letters_of kind) (chunk_of l kind)
  found_of Song = o.layout.song
  found_of Instrument = o.layout.inst
  found_of Pattern = o.layout.patt
  found_of Sample = o.layout.smpl
  found_of VolumeEnvelope = o.layout.venv
  found_of PanningEnvelope = o.layout.penv

  module _ {chunk : List ℕ} where
    count-is : (kind : RecordKind) → SpanHolds m (chunk_of l kind) chunk → front_of kind ≤ length chunk
        → count_of m l kind ≡ count_in kind all-chunks.info chunk
    count-is Song s h = counts.2
    count-is Instrument s h = counts.0
    count-is Pattern s h = counts.3
    count-is Sample s h = counts.1
    count-is VolumeEnvelope s h = count_same s h
    count-is PanningEnvelope s h = count_same s h

  abbrev pub BlocksThere : RecordKind → List ℕ → List (List ℕ) → Type 0
  BlocksThere kind chunk list = BlocksIn (block_kind_of kind) m ((chunk_of l kind).at + front_of kind) (front_of kind) chunk (count_of m l kind) list

  module _ (kind : RecordKind) (there : There o.chunks (letters_of kind)) where
    pub span-of : SpanHolds m (chunk_of l kind) there.0
    span-of = (found_of kind).holds there.0 there.1

    abbrev pub blocks_at : BlocksAt all-chunks kind (chunk_of l kind).at
    blocks_at = record { chunk = there.0; among = there.1; there = sym ((found_of kind).begins there.0 there.1) }

    -- The blocks of a chunk by the rules are those that the check counts.
    pub blocks-there : (list : List (List ℕ)) → MadeOf kind all-chunks.info there.0 list → BlocksThere kind there.0 list
    blocks-there list b =
        filled-blocks span-of (block_kind_of kind) (front_of kind) (count_of m l kind) list
        (counted (sym (count-is kind span-of b.filled.fronts)) b.filled) (every_of (sized_of kind) b.sizes)

  -- A block of this record kind begins at this place, and the module has its bytes there.
  pub record Begins (kind : RecordKind) (at : ℕ) : Type 0 where
    pub here : BlockBegins all-chunks kind at
    pub part : PartAt m at here.block
    pub sized : Sized (block_kind_of kind) here.block

  -- The blocks, if they fill their chunks.
  module _ (fill : BlocksHold m l) where
    sizes-of : (kind : RecordKind) {chunk : List ℕ} {list : List (List ℕ)} → BlocksThere kind chunk list → Every (SizeFits kind) list
    unfolding size_of
    sizes-of Song b = b.sized
    sizes-of Instrument b = b.sized
    sizes-of Pattern b = b.sized
    sizes-of Sample b = (blocks-every b (λ at block p s. sample-holds p s l.spans.smpl)).0 fill.flags
    sizes-of VolumeEnvelope b = b.sized
    sizes-of PanningEnvelope b = b.sized

    module _ (kind : RecordKind) (there : There o.chunks (letters_of kind)) where
      pub kind-blocks : (list : List (List ℕ)) × BlocksThere kind there.0 list
      kind-blocks =
          let s = span-of kind there in
          let end = kind-fills m l fill kind s.there in
          fill-blocks s (block_kind_of kind) (front_of kind) (count_of m l kind) (rw (first-is kind (chunk_of l kind)) at end)

      pub blocks-of : MadeOf kind all-chunks.info there.0 kind-blocks.0
      blocks-of =
          let b = kind-blocks.1 in
          record { filled = counted (count-is kind (span-of kind there) b.filled.fronts) b.filled; sizes = sizes-of kind b }

      begins : (at : ℕ) → OneBlock (block_kind_of kind) m ((chunk_of l kind).at + front_of kind) kind-blocks.0 at → Begins kind at
      begins at one = record {
        here = record {
          start = (chunk_of l kind).at;
          within = blocks_at kind there;
          before = one.before;
          block = one.block;
          after = one.after;
          blocks = subst (MadeOf kind all-chunks.info there.0) one.splits blocks-of;
          there = one.there;
        };
        part = one.part;
        sized = one.sized;
      }

      pub each-begins : Every (Begins kind) (blocks_of m (block_kind_of kind) (chunk_of l kind) (count_of m l kind))
      each-begins = rw (first-is kind (chunk_of l kind)) (every_of begins (each-block kind-blocks.1))
