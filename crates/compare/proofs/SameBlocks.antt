-- Blocks with the same bytes: songs, instruments and samples are compared as they are stored.
use Prim.Native.Nat.{ℕ, ◌+◌, ◌*◌, ◌≤◌}
use mathlib.Core.Path.{◌≡◌, refl, sym, ap, ◌∙◌}
use mathlib.Core.List.{List, ◌++◌}
use mathlib.Core.Bool.{Bool, not, ◌&&◌}
use native.Mathlib.Omega.{arith}
use lib.ListN.{length}
use lib.Dec.{eqb}
use Rattle.numbers.specs.Numbers.{Bytes, part_of, bytes16, bytes32}
use Rattle.numbers.proofs.Parts.{bytes-part, part-split, four-again}
use Rattle.differences.specs.Differences.{whole_difference, difference_if, entries_listed, equal_bytes}
use Rattle.differences.proofs.EqualBytes.{equal-parts}
use Rattle.layout.specs.declared.Layout.{Layout}
use Rattle.blocks.specs.StoredFields.{song_length, sample_flags, sample_frames}
use Rattle.blocks.specs.Sizes.{width_of, size_of}
use Rattle.blocks.specs.RecordKinds.{block_kind_of}
use Rattle.blocks.specs.declared.BlockKind.{BlockKind}
use Rattle.blocks.specs.declared.BlockKind.TheVariants.{Song as SongBlock, Instrument as InstrumentBlock, Sample as SampleBlock, Envelope as EnvelopeBlock}
use Rattle.blocks.specs.declared.RecordKind.{RecordKind}
use Rattle.blocks.specs.declared.RecordKind.TheVariants.{Song, Instrument, Pattern, Sample}
use Rattle.acceptance.proofs.Cutting.{size-least}
use Rattle.envelopes.specs.Shown.{record_kind}
use Rattle.envelopes.specs.declared.EnvelopeKind.{EnvelopeKind}
use Rattle.envelopes.specs.declared.EnvelopeKind.TheVariants.{Volume, Panning}
use Rattle.records.specs.Records.{record_at}
use Rattle.records.specs.Steps.{ValuesScale}
use Rattle.records.proofs.StoredRecords.{song-stored, instrument-stored}
use Rattle.compare.specs.Compared.{kind_of, compared_record, record_differences, patterns_differences, block_differences}
use Rattle.compare.specs.Steps.{BothThere}
use Rattle.compare.proofs.SameRecords.{bytes16-same, bytes32-same, test-same, equal_of}
use Rattle.compare.proofs.AcceptedBlocks.{block_inside, block-values, sample-flags}

-- Two blocks, by the parts that the code has compared.
module _ (kind : BlockKind) (m k : List ℕ) (at to n o : ℕ) (e : n ≡ size_of kind m at) (f : o ≡ size_of kind k to) where
  pub stored_same : {r : Bool} (a b : List ℕ) → a ≡ part_of m at n → b ≡ part_of k to o → r ≡ equal_bytes a b
      → r ≡ equal_bytes (part_of m at (size_of kind m at)) (part_of k to (size_of kind k to))
  stored_same a b p q h = equal_of a b (p ∙ ap (part_of m at) e) (q ∙ ap (part_of k to) f) h

-- The block of a song and of an instrument is its record.
module _ (m : List ℕ) (bytes : Bytes m) (version at : ℕ) where
  pub song-block : at + size_of SongBlock m at ≤ length m → part_of m at (size_of SongBlock m at) ≡ compared_record m version Song at
  unfolding record_at size_of
  song-block inside = sym (bytes-part m (46 + 2 * song_length m at) at inside) ∙ song-stored m bytes at

  pub instrument-block : at + size_of InstrumentBlock m at ≤ length m → part_of m at (size_of InstrumentBlock m at) ≡ compared_record m version Instrument at
  unfolding record_at size_of
  instrument-block inside = sym (bytes-part m 50 at inside) ∙ instrument-stored m bytes at

  -- The block of a sample: its flags, the number of its frames, and the frames.
  abbrev frame_bytes : List ℕ
  frame_bytes = part_of m (at + 8) (sample_frames m at * width_of (sample_flags m at))

  pub sample-block : at + size_of SampleBlock m at ≤ length m
      → part_of m at (size_of SampleBlock m at) ≡ bytes32 (sample_flags m at) ++ (bytes32 (sample_frames m at) ++ frame_bytes)
  unfolding size_of
  sample-block inside =
      let n = sample_frames m at * width_of (sample_flags m at) in
      let whole : 8 + n ≡ 4 + (4 + n) = omega arith in
      let after : at + 4 + 4 ≡ at + 8 = omega arith in
      ap (part_of m at) whole
      ∙ part-split m at 4 (4 + n)
      ∙ ap (part_of m at 4 ++◌) (part-split m (at + 4) 4 n ∙ ap (λ (a : ℕ). part_of m (at + 4) 4 ++ part_of m a n) after)
      ∙ ap (λ (front : List ℕ). front ++ (part_of m (at + 4) 4 ++ frame_bytes)) (sym (four-again m bytes at (omega (arith, inside))))
      ∙ ap (λ (front : List ℕ). bytes32 (sample_flags m at) ++ (front ++ frame_bytes)) (sym (four-again m bytes (at + 4) (omega (arith, inside))))

-- Two samples.
same-widths : (a b w v : ℕ) → w ≡ a → v ≡ b → eqb (8 * w) (8 * v) ≡ eqb a b
same-widths a b w v e f = test-same (8 * w) (8 * v) a b (λ h. omega (arith, e, f, h)) (λ h. omega (arith, e, f, h))

same-samples : (a b w v f g : ℕ) (xs ys : List ℕ) → w ≡ a → v ≡ b
    → equal_bytes (bytes32 a ++ (bytes32 f ++ xs)) (bytes32 b ++ (bytes32 g ++ ys))
    ≡ equal_bytes ((bytes16 (8 * w) ++ bytes32 f) ++ xs) ((bytes16 (8 * v) ++ bytes32 g) ++ ys)
same-samples a b w v f g xs ys e e' =
    equal-parts (bytes32 a) (bytes32 b) (bytes32 f ++ xs) (bytes32 g ++ ys) refl
    ∙ ap (◌&& equal_bytes (bytes32 f ++ xs) (bytes32 g ++ ys)) (bytes32-same a b ∙ sym (same-widths a b w v e e') ∙ sym (bytes16-same (8 * w) (8 * v)))
    ∙ sym (equal-parts (bytes16 (8 * w)) (bytes16 (8 * v)) (bytes32 f ++ xs) (bytes32 g ++ ys) refl)

module _ (m k : List ℕ) (bytes : Bytes m) (others : Bytes k) (version other at to : ℕ) where
  abbrev pub ComparedSame : RecordKind → Bool → Type 0
  ComparedSame kind same = same ≡ equal_bytes (compared_record m version kind at) (compared_record k other kind to)

  module _ {same : Bool} where
    pub songs-same : at + size_of SongBlock m at ≤ length m → to + size_of SongBlock k to ≤ length k
        → same ≡ equal_bytes (part_of m at (size_of SongBlock m at)) (part_of k to (size_of SongBlock k to))
        → ComparedSame Song same
    songs-same inside inside' e = e ∙ rw (song-block m bytes version at inside, song-block k others other to inside') refl

    pub instruments-same : at + size_of InstrumentBlock m at ≤ length m → to + size_of InstrumentBlock k to ≤ length k
        → same ≡ equal_bytes (part_of m at (size_of InstrumentBlock m at)) (part_of k to (size_of InstrumentBlock k to))
        → ComparedSame Instrument same
    instruments-same inside inside' e = e ∙ rw (instrument-block m bytes version at inside, instrument-block k others other to inside') refl

    pub samples-same : at + size_of SampleBlock m at ≤ length m → to + size_of SampleBlock k to ≤ length k
        → width_of (sample_flags m at) ≡ sample_flags m at → width_of (sample_flags k to) ≡ sample_flags k to
        → same ≡ equal_bytes (part_of m at (size_of SampleBlock m at)) (part_of k to (size_of SampleBlock k to))
        → ComparedSame Sample same
    unfolding record_at
    samples-same inside inside' w v e =
        e
        ∙ rw (sample-block m bytes version at inside, sample-block k others other to inside') refl
        ∙ same-samples (sample_flags m at) (sample_flags k to) (width_of (sample_flags m at)) (width_of (sample_flags k to)) (sample_frames m at)
        (sample_frames k to) (frame_bytes m bytes version at) (frame_bytes k others other to) w v

-- What is listed for a record that is compared as a whole.
module _ (m : List ℕ) (l : Layout) (k : List ℕ) (j : Layout) (kind : RecordKind) (number at to n : ℕ) (out : List ℕ) where
  abbrev pub BlockListed : ℕ → List ℕ → Type 0
  BlockListed r out' =
      (r ≡ length (block_differences m l k j kind number at to)) × (out' ≡ entries_listed (block_differences m l k j kind number at to) n out)

  module _ (other : RecordKind) (e : kind ≡ other) {out' : List ℕ} {r : ℕ} where
    pub whole-listed : block_differences m l k j other number at to ≡ record_differences m l k j other number at to
        → (same : Bool) → same ≡ equal_bytes (compared_record m l.version other at) (compared_record k j.version other to)
        → (r ≡ length (difference_if (not same) (whole_difference (kind_of kind) number))) × (r ≤ 1)
        × (out' ≡ entries_listed (difference_if (not same) (whole_difference (kind_of kind) number)) n out)
        → BlockListed r out'
    whole-listed is same s w =
        let entries : block_differences m l k j kind number at to ≡ difference_if (not same) (whole_difference (kind_of kind) number) =
        ap (λ (x : RecordKind). block_differences m l k j x number at to) e
        ∙ is
        ∙ ap (λ (b : Bool). difference_if (not b) (whole_difference (kind_of other) number)) (sym s)
        ∙ ap (λ (x : RecordKind). difference_if (not same) (whole_difference (kind_of x) number)) (sym e) in
        rw entries (w.0, w.2)

  pub pattern-listed : kind ≡ Pattern → {out' : List ℕ} {r : ℕ}
      → (r ≡ length (patterns_differences m l k j number at to)) × (out' ≡ entries_listed (patterns_differences m l k j number at to) n out)
      → BlockListed r out'
  pattern-listed e w = rw e w

-- An envelope has 136 bytes.
envelope-size : (kind : EnvelopeKind) (m : List ℕ) (at : ℕ) → 136 ≤ size_of (block_kind_of (record_kind kind)) m at
envelope-size Volume m at = size-least EnvelopeBlock m at
envelope-size Panning m at = size-least EnvelopeBlock m at

-- The same for the blocks of a record that both modules have.
module _ (m : List ℕ) (l : Layout) (k : List ℕ) (j : Layout) (kind : RecordKind) (number at to : ℕ) where
  module _ (both : BothThere m l k j kind number at to) (other : RecordKind) (e : kind ≡ other) where
    this : BothThere m l k j other number at to
    this = rw e at both

    inside : at + size_of (block_kind_of other) m at ≤ length m
    inside = block_inside m l this.opens.first other number at this.first this.here

    inside' : to + size_of (block_kind_of other) k to ≤ length k
    inside' = block_inside k j this.opens.second other number to this.second this.other

  pub envelopes-ready : BothThere m l k j kind number at to → (other : EnvelopeKind) → kind ≡ record_kind other
      → (at + 136 ≤ length m) × (to + 136 ≤ length k)
      × ValuesScale m l.version (record_kind other) at × ValuesScale k j.version (record_kind other) to
  envelopes-ready both other e =
      let there = this both (record_kind other) e in (
        omega (arith, inside both (record_kind other) e, envelope-size other m at),
        omega (arith, inside' both (record_kind other) e, envelope-size other k to),
        block-values m l there.opens.first (record_kind other) number at there.first there.here,
        block-values k j there.opens.second (record_kind other) number to there.second there.other,
      )

  module _ (n : ℕ) (out : List ℕ) (bytes : Bytes m) (others : Bytes k) (both : BothThere m l k j kind number at to) where
    abbrev Whole : Bool → ℕ → List ℕ → Type 0
    Whole same r out' =
        (r ≡ length (difference_if (not same) (whole_difference (kind_of kind) number))) × (r ≤ 1)
        × (out' ≡ entries_listed (difference_if (not same) (whole_difference (kind_of kind) number)) n out)

    abbrev SameStored : BlockKind → Bool → Type 0
    SameStored block same = same ≡ equal_bytes (part_of m at (size_of block m at)) (part_of k to (size_of block k to))

    module _ {out' : List ℕ} {r : ℕ} where
      pub song-listed : kind ≡ Song → (same : Bool) → SameStored SongBlock same → Whole same r out' → BlockListed m l k j kind number at to n out r out'
      song-listed e same s w =
          whole-listed m l k j kind number at to n out Song e refl same
          (songs-same m k bytes others l.version j.version at to (inside both Song e) (inside' both Song e) s) w

      pub instrument-listed : kind ≡ Instrument → (same : Bool) → SameStored InstrumentBlock same → Whole same r out'
          → BlockListed m l k j kind number at to n out r out'
      instrument-listed e same s w =
          whole-listed m l k j kind number at to n out Instrument e refl same
          (instruments-same m k bytes others l.version j.version at to (inside both Instrument e) (inside' both Instrument e) s) w

      pub sample-listed : kind ≡ Sample → (same : Bool) → SameStored SampleBlock same → Whole same r out' → BlockListed m l k j kind number at to n out r out'
      sample-listed e same s w =
          let there = this both Sample e in
          whole-listed m l k j kind number at to n out Sample e refl same
          (samples-same m k bytes others l.version j.version at to (inside both Sample e) (inside' both Sample e)
          (sample-flags m l there.opens.first number at there.first there.here)
          (sample-flags k j there.opens.second number to there.second there.other) s) w
