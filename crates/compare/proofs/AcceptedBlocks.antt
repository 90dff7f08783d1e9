-- What acceptance of a module says of a block that is there: it is inside the module, the values of an envelope fit, the flags of a sample
-- are the bytes of its frames, and the stream of a pattern is accepted.
use Prim.Native.Nat.{ℕ, ◌+◌, ◌-◌, ◌≤◌, ◌<◌}
use Rattle.std.specs.Prelude.{Ok}
use mathlib.Core.Path.{◌≡◌, refl, sym, subst}
use mathlib.Core.List.{List}
use mathlib.Core.Bool.{Bool, true, false, cond, not}
use native.Mathlib.Omega.{arith}
use lib.ListN.{length}
use lib.Dec.{eqb, leb, ltb}
use borrow.Author.Tests.{ltb-true, eqb-true}
use Rattle.vocabulary.specs.Lists.{Every}
use Rattle.vocabulary.proofs.EveryOne.{every_first}
use Rattle.numbers.specs.Numbers.{number16}
use Rattle.packed_rows.specs.Answers.{check_answer}
use Rattle.layout.specs.declared.ChunkSpan.{ChunkSpan}
use Rattle.layout.specs.declared.Layout.{Layout}
use Rattle.blocks.specs.StoredFields.{pattern_rows, packed_bytes, sample_flags}
use Rattle.blocks.specs.Sizes.{width_of, size_of, first_block, blocks_of, envelope_count}
use Rattle.blocks.specs.Filling.{data_end, flags_rules}
use Rattle.blocks.specs.RecordKinds.{block_kind_of, chunk_of, count_of}
use Rattle.blocks.specs.declared.RecordKind.{RecordKind}
use Rattle.blocks.specs.declared.RecordKind.TheVariants.{Song, Instrument, Pattern, Sample, VolumeEnvelope, PanningEnvelope}
use Rattle.module.specs.Streams.{pattern_stream_rules}
use Rattle.module.specs.Verdicts.{opened}
use Rattle.queries.specs.Finding.{first_of, there, block_of}
use Rattle.acceptance.proofs.Holding.{AllHold, and-says, every-place}
use Rattle.acceptance.proofs.Cutting.{after_next}
use Rattle.acceptance.proofs.BlockStreams.{accepted-says}
use Rattle.acceptance.proofs.ContentRules.{kind-fills}
use Rattle.acceptance.proofs.OpenModules.{Opens, module-opens}
use Rattle.records.specs.Steps.{ValuesScale}
use Rattle.records.proofs.Accepting.{values-fit}

-- A chunk that has envelopes is present.
count-present : (m : List ℕ) (span : ChunkSpan) (i : ℕ) → i < envelope_count m span → span.present ≡ true
count-present m span i = go span.present
  where
    go : (p : Bool) → i < cond p (number16 m (span.at + 8)) 0 → p ≡ true
    go true h = refl
    go false h = absurd (omega (arith, h))

-- Flags that give the bytes of a frame are that number.
pub width-flags : (flags : ℕ) → not (eqb (width_of flags) 0) ≡ true → width_of flags ≡ flags
width-flags flags = one (eqb flags 1) refl
  where
    four : (t : Bool) → eqb flags 4 ≡ t → not (eqb (cond t 4 0) 0) ≡ true → cond t 4 0 ≡ flags
    four true t h = sym (eqb-true flags 4 t)
    four false t h = absurd (let z : ◌≡◌ {A = ℕ} 0 1 = cc in omega arith)

    two : (t : Bool) → eqb flags 2 ≡ t → not (eqb (cond t 2 (cond (eqb flags 4) 4 0)) 0) ≡ true → cond t 2 (cond (eqb flags 4) 4 0) ≡ flags
    two true t h = sym (eqb-true flags 2 t)
    two false t h = four (eqb flags 4) refl h

    one : (t : Bool) → eqb flags 1 ≡ t → not (eqb (cond t 1 (cond (eqb flags 2) 2 (cond (eqb flags 4) 4 0))) 0) ≡ true
        → cond t 1 (cond (eqb flags 2) 2 (cond (eqb flags 4) 4 0)) ≡ flags
    one true t h = sym (eqb-true flags 1 t)
    one false t h = two (eqb flags 2) refl h

-- The block of a number that is there is one of the blocks of its chunk.
module _ (m : List ℕ) (l : Layout) (kind : RecordKind) (number at : ℕ) (t : there m l kind number ≡ true) (e : at ≡ (block_of m l kind number).at) where
  counted : number - first_of kind < count_of m l kind
  counted =
      ltb-true (number - first_of kind) (count_of m l kind)
      ((and-says (leb (first_of kind) number) (ltb (number - first_of kind) (count_of m l kind))).0 t).1

  pub block-has : (P : ℕ → Type 0) → Every P (blocks_of m (block_kind_of kind) (chunk_of l kind) (count_of m l kind)) → P at
  block-has P every =
      subst P (sym e)
      ((every-place P (size_of (block_kind_of kind) m) (count_of m l kind) (first_block (block_kind_of kind) (chunk_of l kind))).0 every
      (number - first_of kind) counted)

module _ (m : List ℕ) (l : Layout) (o : opened m ≡ Ok l) where
  opens : Opens m l
  opens = module-opens m l o

  -- The chunk of a record that is there.
  present : (kind : RecordKind) (i : ℕ) → i < count_of m l kind → (chunk_of l kind).present ≡ true
  present Song i h = opens.spans.song.present
  present Instrument i h = opens.spans.inst.present
  present Pattern i h = opens.spans.patt.present
  present Sample i h = opens.spans.smpl.present
  present VolumeEnvelope i h = count-present m l.spans.venv i h
  present PanningEnvelope i h = count-present m l.spans.penv i h

  chunk_inside : (kind : RecordKind) → (chunk_of l kind).present ≡ true → data_end (chunk_of l kind) ≤ length m
  chunk_inside Song p = opens.spans.song.inside
  chunk_inside Instrument p = opens.spans.inst.inside
  chunk_inside Pattern p = opens.spans.patt.inside
  chunk_inside Sample p = opens.spans.smpl.inside
  chunk_inside VolumeEnvelope p = (opens.spans.venv p).inside
  chunk_inside PanningEnvelope p = (opens.spans.penv p).inside

  module _ (kind : RecordKind) (number at : ℕ) (t : there m l kind number ≡ true) (e : at ≡ (block_of m l kind number).at) where
    pub block_inside : at + size_of (block_kind_of kind) m at ≤ length m
    block_inside =
        let index = number - first_of kind in
        let less = counted m l kind number at t e in
        let there = present kind index less in
        let size = size_of (block_kind_of kind) m in
        let ends = after_next size (count_of m l kind) index (first_block (block_kind_of kind) (chunk_of l kind)) less in
        subst (λ (a : ℕ). a + size a ≤ length m) (sym e)
        (omega (arith, ends, kind-fills m l opens.content.blocks kind there, chunk_inside kind there))

    pub block-values : ValuesScale m l.version kind at
    block-values = block-has m l kind number at t e (ValuesScale m l.version kind) (values-fit m l o kind)

  module _ (number at : ℕ) (t : there m l Sample number ≡ true) (e : at ≡ (block_of m l Sample number).at) where
    pub sample-flags : width_of (sample_flags m at) ≡ sample_flags m at
    sample-flags =
        width-flags (sample_flags m at)
        (every_first (block-has m l Sample number at t e (λ (a : ℕ). AllHold (flags_rules m l.spans.smpl a)) opens.content.blocks.flags))

  module _ (number at : ℕ) (t : there m l Pattern number ≡ true) (e : at ≡ (block_of m l Pattern number).at) where
    pub pattern-accepted : check_answer (packed_bytes m at) (pattern_rows m at) l.tracks ≡ Ok tt
    pattern-accepted =
        (accepted-says (check_answer (packed_bytes m at) (pattern_rows m at) l.tracks)).0
        (every_first (block-has m l Pattern number at t e (λ (a : ℕ). AllHold (pattern_stream_rules m l.tracks a)) opens.content.streams))
