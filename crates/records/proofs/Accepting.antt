-- What acceptance of a module provides for the code that writes its records: the values of envelopes fit 2 bytes, and the lengths are known
-- in advance.
use Prim.Native.Nat.{ℕ, zero, suc, ◌+◌, ◌-◌, ◌*◌, ◌<◌, ◌≤◌}
use Rattle.std.specs.Prelude.{Ok}
use mathlib.Core.Path.{◌≡◌, refl, sym, ap, subst, ◌∙◌}
use mathlib.Core.List.{List, [], ◌∷◌, ◌++◌, map, append-nil}
use native.Mathlib.Omega.{arith}
use native.Mathlib.Numerals.{add-one}
use lib.ListN.{length, drop, get_or, length-append, drop_of_length-le}
use lib.Dec.{eqb}
use borrow.Author.Tests.{leb-true}
use borrow.Rule.Slice.PartMut.{mid_of, put_mid}
use Rattle.vocabulary.specs.Lists.{joined, Every}
use Rattle.vocabulary.proofs.EveryOne.{every_of}
use Rattle.layout.specs.declared.ChunkSpan.{ChunkSpan}
use Rattle.layout.specs.declared.Layout.{Layout}
use Rattle.blocks.specs.StoredFields.{envelope_value}
use Rattle.blocks.specs.Sizes.{size_of, places_from, block_at, blocks_of}
use Rattle.blocks.specs.declared.BlockKind.{BlockKind}
use Rattle.blocks.specs.RecordKinds.{block_kind_of, chunk_of, count_of}
use Rattle.blocks.specs.declared.RecordKind.{RecordKind}
use Rattle.blocks.specs.declared.RecordKind.TheVariants.{Song, Instrument, Pattern, Sample, VolumeEnvelope, PanningEnvelope}
use Rattle.fields.specs.Fields.{envelope_rules}
use Rattle.module.specs.Verdicts.{opened}
use Rattle.acceptance.proofs.Holding.{AllHold}
use Rattle.acceptance.proofs.PointsInUse.{value-fits}
use Rattle.acceptance.proofs.OpenModules.{Opens, module-opens}
use Rattle.records.specs.Records.{summary_record, record_at, records_of, all_records}
use Rattle.records.specs.Steps.{records_from, ValuesScale}
use Rattle.acceptance.proofs.Ahead.{Ahead, ahead-second, ahead-inside, ahead_small, ahead-part, ahead-next, ahead-over, every_any}
use Rattle.records.proofs.RecordLengths.{summary-length, record-length, equal-lengths, block-lengths}

-- A panning envelope for which the rules hold.
panning-fits : (m : List ℕ) (instruments version at : ℕ) → AllHold (envelope_rules m instruments (eqb version 3) at) → ValuesScale m version PanningEnvelope at
panning-fits m instruments version at hold point h two =
    leb-true (envelope_value m at point) 64 (rw two at (value-fits m instruments (eqb version 3) at hold point h))

module _ (m : List ℕ) (l : Layout) (o : opened m ≡ Ok l) where
  opens : Opens m l
  opens = module-opens m l o

  pub values-fit : (kind : RecordKind) → Every (ValuesScale m l.version kind) (blocks_of m (block_kind_of kind) (chunk_of l kind) (count_of m l kind))
  values-fit Song = every_any (λ at. tt) _
  values-fit Instrument = every_any (λ at. tt) _
  values-fit Pattern = every_any (λ at. tt) _
  values-fit Sample = every_any (λ at. tt) _
  values-fit VolumeEnvelope = every_any (λ at. tt) _
  values-fit PanningEnvelope = every_of (λ at hold. panning-fits m l.instruments l.version at hold) opens.content.fields.panning_envelopes

  pub songs-length : length (records_of m l Song) ≡ l.spans.song.length
  songs-length =
      omega (
        arith,
        block-lengths (record_at m l.version Song) (size_of (block_kind_of Song) m) (record-length m l.version Song) l.songs
            (l.spans.song.at + 8),
        opens.content.blocks.songs,
      )

-- The records of the kinds whose records have a fixed length.
module _ (m : List ℕ) (l : Layout) where
  pub instruments-length : length (records_of m l Instrument) ≡ count_of m l Instrument * 50
  instruments-length = equal-lengths (record_at m l.version Instrument) (size_of (block_kind_of Instrument) m) 50 (record-length m l.version Instrument) _ _

  pub patterns-length : length (records_of m l Pattern) ≡ count_of m l Pattern * 2
  patterns-length = equal-lengths (record_at m l.version Pattern) (size_of (block_kind_of Pattern) m) 2 (record-length m l.version Pattern) _ _

  pub samples-length : length (records_of m l Sample) ≡ count_of m l Sample * 6
  samples-length = equal-lengths (record_at m l.version Sample) (size_of (block_kind_of Sample) m) 6 (record-length m l.version Sample) _ _

  pub volumes-length : length (records_of m l VolumeEnvelope) ≡ count_of m l VolumeEnvelope * 136
  volumes-length =
      equal-lengths (record_at m l.version VolumeEnvelope) (size_of (block_kind_of VolumeEnvelope) m) 136
      (record-length m l.version VolumeEnvelope) _ _

  pub pannings-length : length (records_of m l PanningEnvelope) ≡ count_of m l PanningEnvelope * 136
  pannings-length =
      equal-lengths (record_at m l.version PanningEnvelope) (size_of (block_kind_of PanningEnvelope) m) 136
      (record-length m l.version PanningEnvelope) _ _

  -- The length that is computed for each kind.
  pub songs-reported : opened m ≡ Ok l → (kind : RecordKind) (chunk : ChunkSpan) → kind ≡ Song → chunk ≡ chunk_of l kind
      → chunk.length ≡ length (records_of m l kind)
  songs-reported o kind chunk e c = rw e (ap (λ (p : ChunkSpan). p.length) (rw e at c) ∙ sym (songs-length m l o))

  pub reported : (kind other : RecordKind) (count w : ℕ) → kind ≡ other → length (records_of m l other) ≡ count_of m l other * w
      → count ≡ count_of m l kind
      → count * w ≡ length (records_of m l kind)
  reported kind other count w e size c = rw e (ap (λ (n : ℕ). n * w) (rw e at c) ∙ sym size)

  -- The length of all records.
  pub all-lengths : length (all_records m l)
      ≡ 60 + length (records_of m l Song) + length (records_of m l Instrument) + length (records_of m l Pattern)
      + length (records_of m l Sample) + length (records_of m l VolumeEnvelope) + length (records_of m l PanningEnvelope)
  all-lengths =
      let e : List ℕ = records_of m l VolumeEnvelope ++ records_of m l PanningEnvelope in
      let d : List ℕ = records_of m l Sample ++ e in
      let c : List ℕ = records_of m l Pattern ++ d in
      let b : List ℕ = records_of m l Instrument ++ c in
      let a : List ℕ = records_of m l Song ++ b in
      omega (
        arith,
        summary-length m l,
        length-append (summary_record m l) a,
        length-append (records_of m l Song) b,
        length-append (records_of m l Instrument) c,
        length-append (records_of m l Pattern) d,
        length-append (records_of m l Sample) e,
        length-append (records_of m l VolumeEnvelope) (records_of m l PanningEnvelope),
      )

-- The blocks of a kind, from the values that the code has computed.
module _ (m : List ℕ) (l : Layout) (kind : RecordKind) (blocks : BlockKind) (chunk : ChunkSpan) (start count : ℕ) (k : blocks ≡ block_kind_of kind)
    (c : chunk ≡ chunk_of l kind) (s : start ≡ block_at m blocks chunk 0) (n : count ≡ count_of m l kind) where
  places_same : places_from (size_of blocks m) count start ≡ blocks_of m (block_kind_of kind) (chunk_of l kind) (count_of m l kind)
  places_same = rw (s, k, c, n) refl

  pub records-same : records_from m blocks kind l.version count start ≡ records_of m l kind
  records-same = ap (λ (places : List ℕ). joined (map (record_at m l.version kind) places)) places_same

  pub records-ready : opened m ≡ Ok l → Every (ValuesScale m l.version kind) (places_from (size_of blocks m) count start)
  records-ready o = subst (Every (ValuesScale m l.version kind)) (sym places_same) (values-fit m l o kind)

  pub records-written : (out : List ℕ) {out' : List ℕ} {r : ℕ}
      → (r ≡ length (records_from m blocks kind l.version count start)) × (out' ≡ records_from m blocks kind l.version count start ++ drop r out)
      → (r ≡ length (records_of m l kind)) × (out' ≡ records_of m l kind ++ drop r out)
  records-written out w = rw records-same at w

-- All records as they are written: the summary, and the kinds one after the other.
abbrev pub kinds : List RecordKind
kinds = Song ∷ Instrument ∷ Pattern ∷ Sample ∷ VolumeEnvelope ∷ PanningEnvelope ∷ []

module _ (m : List ℕ) (l : Layout) where
  abbrev pub of_kinds : List RecordKind → List ℕ
  of_kinds some = joined (map (records_of m l) some)

  kind-next : (some : List RecordKind) (i : ℕ) → i < length some
      → of_kinds (drop i some) ≡ records_of m l (get_or some i Song) ++ of_kinds (drop (suc i) some)
  kind-next [] i h = absurd (omega arith)
  kind-next (kind ∷ some) zero h = refl
  kind-next (kind ∷ some) (suc i) h = kind-next some i (omega arith)

  all_split : summary_record m l ++ of_kinds kinds ≡ all_records m l
  all_split = simp append-nil

  -- The loop over the kinds: those before an index are written.
  abbrev pub KindsFrom : List ℕ → List ℕ → ℕ → ℕ → Type 0
  KindsFrom out₀ out to i = Ahead out₀ (all_records m l) out to (of_kinds (drop i kinds))

  pub kinds-first : (out₀ out : List ℕ) → out ≡ summary_record m l ++ drop 60 out₀ → KindsFrom out₀ out 60 0
  kinds-first out₀ out e =
      subst (λ (all : List ℕ). Ahead out₀ all out 60 (of_kinds kinds)) all_split
      (ahead-second (summary_record m l) (of_kinds kinds) (sym (summary-length m l), e))

  module _ {out₀ out : List ℕ} {to : ℕ} (i : ℕ) (room : length (all_records m l) ≤ length out₀) (state : KindsFrom out₀ out to i) where
    pub kinds-inside : to ≤ length out
    kinds-inside = ahead-inside room out (of_kinds (drop i kinds)) state

    pub kinds-last : 6 ≤ i → (to ≡ length (all_records m l)) × (out ≡ all_records m l ++ drop to out₀)
    kinds-last over =
        let P : List ℕ → Type 0 = Ahead out₀ (all_records m l) out to in
        ahead-over room out (subst P (ap of_kinds (drop_of_length-le kinds {i = i} over)) state)

    module _ (less : i < 6) where
      abbrev this : List ℕ
      this = records_of m l (get_or kinds i Song)

      abbrev later : List ℕ
      later = of_kinds (drop (suc i) kinds)

      next : Ahead out₀ (all_records m l) out to (this ++ later)
      next = let P : List ℕ → Type 0 = Ahead out₀ (all_records m l) out to in subst P (kind-next kinds i less) state

      pub kinds-part : length this ≤ length (mid_of to (length out - to) out)
      kinds-part = ahead-part room out this later next

      pub kinds-small : to + length this ≤ length out₀
      kinds-small = ahead_small room out this later next

      pub kinds-turn : (mid : List ℕ) {r : ℕ} → (r ≡ length this) × (mid ≡ this ++ drop r (mid_of to (length out - to) out))
          → KindsFrom out₀ (put_mid to (length out - to) out mid) (to + r) (i + 1)
      kinds-turn mid written = rw (add-one i) (ahead-next room out this later next mid written)
