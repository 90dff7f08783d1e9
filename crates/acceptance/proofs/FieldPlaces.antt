-- Refusals 12 and 13 (theorem 10): each is at a field of a block, and that field is wrong.
use Prim.Native.Nat.{ℕ, ◌+◌, ◌*◌, ◌/◌, ◌%◌, ◌≤◌, ◌<◌}
use mathlib.Core.Path.{◌≡◌, refl, subst}
use mathlib.Core.Logic.{◌↔◌, ◌⊎◌, inl, inr}
use mathlib.Core.List.{List}
use mathlib.Core.Bool.{Bool, true, false, not, ◌&&◌, ◌||◌}
use native.Mathlib.Omega.{arith}
use lib.ListN.{length}
use lib.Dec.{eqb, leb, ltb, lit<}
use borrow.Author.Tests.{leb-true, leb-false, ltb-false, eqb-true}
use Rattle.vocabulary.proofs.EveryOne.{every_first, every_rest, every_of}
use Rattle.refusal.specs.Numbers.{refusal}
use Rattle.refusal.specs.Rules.{Rule, rules_of_each}
use Rattle.refusal.specs.declared.Reason.TheVariants.{Reference, FieldRange}
use Rattle.numbers.specs.Numbers.{byte_at, number16}
use Rattle.layout.specs.declared.Layout.{Layout}
use Rattle.blocks.specs.StoredFields.{song_length, song_entry, instrument_sample, envelope_flags, envelope_sections, envelope_loop_first}
use Rattle.blocks.specs.StoredFields.{envelope_loop_last}
use Rattle.blocks.specs.Sizes.{blocks_of}
use Rattle.blocks.specs.declared.BlockKind.{BlockKind}
use Rattle.blocks.specs.declared.BlockKind.TheVariants.{Envelope}
use Rattle.blocks.specs.RecordKinds.{block_kind_of, chunk_of, count_of}
use Rattle.blocks.specs.declared.RecordKind.{RecordKind}
use Rattle.blocks.specs.declared.RecordKind.TheVariants.{Song, Instrument, VolumeEnvelope, PanningEnvelope}
use Rattle.fields.specs.Fields.{panning_fits, bit1, bit2, bit3, entry_rules, song_rules, instrument_rules, envelope_head_rules}
use Rattle.fields.specs.Fields.{envelope_point_rules, value_fits, value_rules, values_rules, envelope_rules, field_rules}
use Rattle.acceptance.specs.Rules.{VolumeFits, PanningValueFits}
use Rattle.acceptance.specs.Faults.{letters_of, InstrumentLacks, ReferenceFault, InstrumentFault, EnvelopeFault, FieldFault}
use Rattle.acceptance.specs.Places.{FieldAt, reference, field_range, content}
use Rattle.acceptance.proofs.Locating.{number16-at, number16-start, part-inside}
use Rattle.acceptance.proofs.Holding.{leb-says, every-step}
use Rattle.acceptance.proofs.Recorded.{There}
use Rattle.acceptance.proofs.ChunkHalf.{Outlined}
use Rattle.acceptance.proofs.Cutting.{Sized}
use Rattle.acceptance.proofs.BlockFields.{panning-says, song-size, entry-count, entry-same, instrument-size, envelope-size, byte-same, value_same}
use Rattle.acceptance.proofs.ContentRules.{BlocksHold}
use Rattle.acceptance.proofs.ContentHalf.{panning-values}
use Rattle.acceptance.proofs.FirstBroken.{WhereBroken, no-rule, this-or, broken-append, broken-each, never, both-broken, unless-broken}
use Rattle.acceptance.proofs.ChunkPlaces.{Placed}
use Rattle.acceptance.proofs.BlocksThere.{all-chunks, counts, found_of, Begins, each-begins}

module _ {m : List ℕ} {l : Layout} (o : Outlined m l) where
  abbrev ReferenceAt : ℕ → Type 0
  ReferenceAt place = Placed m (refusal Reference place)

  abbrev RangeAt : ℕ → Type 0
  RangeAt place = Placed m (refusal FieldRange place)

  abbrev info_bytes : List ℕ
  info_bytes = (all-chunks o).info

  -- The fault at an offset of a block.
  module _ {kind : RecordKind} {at : ℕ} (b : Begins o kind at) where
    abbrev block : List ℕ
    block = b.here.block

    module _ {offset : ℕ} (place : ℕ) (same : at + offset ≡ place) (low : offset ≤ length block) where
      field_at : (Wrong : List ℕ → RecordKind → ℕ → Type 0) → Wrong block kind offset → FieldAt (all-chunks o) Wrong place
      field_at Wrong wrong = record { kind = kind; start = at; within = b.here; offset = offset; there = same; wrong = wrong }

      field-inside : place ≤ length m
      field-inside = omega (arith, part-inside b.part)

      reference-placed : ReferenceFault info_bytes block kind offset → ReferenceAt place
      reference-placed fault = (content (all-chunks o) (reference (field_at (ReferenceFault info_bytes) fault)), field-inside)

      range-placed : FieldFault o.header block kind offset → RangeAt place
      range-placed fault = (content (all-chunks o) (field_range (field_at (FieldFault o.header) fault)), field-inside)

  -- A song: the entries of its playlist.
  module _ (at : ℕ) (b : Begins o Song at) where
    entry-placed : (i : ℕ) → i < song_length m at → ltb (song_entry m at i) l.patterns ≡ false → ReferenceAt (at + 46 + 2 * i)
    entry-placed i h e =
        let p = b.part in
        let s = b.sized in
        let low : i < number16 (block b) 44 = rw (entry-count p s) at h in
        let over = ltb-false (number16 (block b) (46 + 2 * i)) l.patterns (rw (entry-same p s i low) at e) in
        let inside : 46 + 2 * i ≤ length (block b) = omega (arith, song-size p s) in
        reference-placed b (at + 46 + 2 * i) (omega arith) inside (ReferenceFault.playlist_entry i low (omega (arith, (counts o).3)))

    song-placed : WhereBroken (Placed m) (song_rules m l.patterns at)
    song-placed =
        broken-each (entry_rules m l.patterns)
        ((every-step _ 2 (song_length m at) (at + 46)).1 (λ i h. this-or (entry-placed i h) (λ _. no-rule)))

  -- An instrument: its sample, volume, panning and flags.
  module _ (at : ℕ) (b : Begins o Instrument at) where
    module _ (k : ℕ) (low : k < 49) where
      number_is : number16 m (at + k) ≡ number16 (block b) k
      number_is = number16-at b.part k (omega (arith, instrument-size b.part b.sized))

      number-inside : k ≤ length (block b)
      number-inside = omega (arith, instrument-size b.part b.sized)

      module _ (test : ℕ → Bool) (fault : test (number16 (block b) k) ≡ false → InstrumentFault (block b) k) where
        number-placed : test (number16 m (at + k)) ≡ false → RangeAt (at + k)
        number-placed e = range-placed b (at + k) refl number-inside (FieldFault.instrument (fault (rw number_is at e)))

    sample-placed : leb (instrument_sample m at) l.samples ≡ false → ReferenceAt (at + 30)
    sample-placed e =
        let over = leb-false (number16 (block b) 30) l.samples (rw (number_is 30 (lit< tt)) at e) in
        reference-placed b (at + 30) refl (number-inside 30 (lit< tt)) (ReferenceFault.sample (omega (arith, (counts o).1)))

    instrument-placed : WhereBroken (Placed m) (instrument_rules m l.samples at)
    instrument-placed =
        this-or sample-placed λ _.
        this-or (number-placed 32 (lit< tt) (λ v. leb v 64) (λ e. InstrumentFault.volume (leb-false (number16 (block b) 32) 64 e))) λ _.
        this-or (number-placed 46 (lit< tt) panning_fits (λ e. InstrumentFault.panning (never (panning-says (number16 (block b) 46)) e))) λ _.
        this-or (number-placed 48 (lit< tt) (λ v. ltb v 4) (λ e. InstrumentFault.flags (ltb-false (number16 (block b) 48) 4 e))) λ _.
        no-rule

  -- Envelopes: a fault of an envelope as a fault of a volume or panning envelope, and the range of its values.
  record Enveloped (kind : RecordKind) (signed : Bool) (ValueFits : ℕ → Type 0) : Type 0 where
    block_kind : block_kind_of kind ≡ Envelope
    absent : (chunk_of l kind).present ≡ false → count_of m l kind ≡ 0
    referring : (block : List ℕ) → InstrumentLacks info_bytes block → ReferenceFault info_bytes block kind 0
    ranging : (block : List ℕ) (offset : ℕ) → EnvelopeFault ValueFits block offset → FieldFault o.header block kind offset
    says : (v : ℕ) → (value_fits signed v ≡ true) ↔ ValueFits v

  of-volume : Enveloped VolumeEnvelope false VolumeFits
  of-volume = record {
    block_kind = refl;
    absent = λ e. rw e;
    referring = λ block. ReferenceFault.of_volume;
    ranging = λ block offset. FieldFault.of_volume;
    says = λ v. leb-says v 64;
  }

  of-panning : Enveloped PanningEnvelope (eqb l.version 3) (PanningValueFits (byte_at o.header 4))
  of-panning = record {
    block_kind = refl;
    absent = λ e. rw e;
    referring = λ block. ReferenceFault.of_panning;
    ranging = λ block offset. FieldFault.of_panning;
    says = λ v. rw o.layout.version (panning-values (byte_at o.header 4) o.rules.version v);
  }

  module _ {kind : RecordKind} {signed : Bool} {ValueFits : ℕ → Type 0} (is : Enveloped kind signed ValueFits) (at : ℕ) (b : Begins o kind at) where
    sized : Sized Envelope (block b)
    sized = subst (λ (block_kind : BlockKind). Sized block_kind (block b)) is.block_kind b.sized

    byte-is : (k : ℕ) → k < 8 → byte_at m (at + k) ≡ byte_at (block b) k
    byte-is = byte-same b.part sized

    module _ {offset : ℕ} (place : ℕ) (same : at + offset ≡ place) (low : offset ≤ 136) where
      fault-placed : EnvelopeFault ValueFits (block b) offset → RangeAt place
      fault-placed fault = range-placed b place same (omega (arith, envelope-size b.part sized)) (is.ranging (block b) offset fault)

    module _ (k : ℕ) (low : k < 8) (test : ℕ → Bool) (fault : test (byte_at (block b) k) ≡ false → EnvelopeFault ValueFits (block b) k) where
      byte-placed : test (byte_at m (at + k)) ≡ false → RangeAt (at + k)
      byte-placed e = fault-placed (at + k) refl (omega arith) (fault (rw (byte-is k low) at e))

    -- The instrument, flags and sections.
    no-instrument : leb 1 (number16 (block b) 0) && leb (number16 (block b) 0) l.instruments ≡ false → InstrumentLacks info_bytes (block b)
    no-instrument =
        both-broken (leb 1 (number16 (block b) 0)) (leb (number16 (block b) 0) l.instruments)
        (λ none. inl (omega (arith, leb-false 1 (number16 (block b) 0) none)))
        (λ _ over. inr (omega (arith, leb-false (number16 (block b) 0) l.instruments over, (counts o).0)))

    instrument-of-placed : leb 1 (number16 m at) && leb (number16 m at) l.instruments ≡ false → ReferenceAt at
    instrument-of-placed e =
        let start : number16 m at ≡ number16 (block b) 0 = number16-start b.part (omega (arith, envelope-size b.part sized)) in
        reference-placed b at (omega arith) (omega arith) (is.referring (block b) (no-instrument (rw start at e)))

    head-placed : WhereBroken (Placed m) (envelope_head_rules m l.instruments at)
    head-placed =
        this-or instrument-of-placed λ _.
        this-or (byte-placed 2 (lit< tt) (λ v. ltb v 16) (λ e. EnvelopeFault.flags (ltb-false (byte_at (block b) 2) 16 e))) λ _.
        this-or (byte-placed 3 (lit< tt) (λ v. leb v 31) (λ e. EnvelopeFault.sections (leb-false (byte_at (block b) 3) 31 e))) λ _.
        no-rule

    -- S1, L1, L2 and S2, depending on the flags and the sections.
    module _ (flags sections : ℕ) (f : flags ≡ byte_at (block b) 2) (g : sections ≡ byte_at (block b) 3) where
      module _ (k : ℕ) (low : k < 8) (bit : Bool) (fault : bit ≡ true → byte_at (block b) 3 < byte_at (block b) k → EnvelopeFault ValueFits (block b) k) where
        point-placed : not bit || leb (byte_at m (at + k)) sections ≡ false → RangeAt (at + k)
        point-placed e =
            let (set, over) = unless-broken bit (leb (byte_at m (at + k)) sections) e in
            byte-placed k low (λ v. leb v sections) (λ broken. fault set (rw g at (leb-false (byte_at (block b) k) sections broken))) over

      first-set : bit1 flags ≡ true → byte_at (block b) 2 / 2 % 2 ≡ 1
      first-set e = rw f at (eqb-true (flags / 2 % 2) 1 e)

      loop-set : bit2 flags ≡ true → byte_at (block b) 2 / 2 / 2 % 2 ≡ 1
      loop-set e = rw f at (eqb-true (flags / 2 / 2 % 2) 1 e)

      second-set : bit3 flags ≡ true → byte_at (block b) 2 / 2 / 2 / 2 % 2 ≡ 1
      second-set e = rw f at (eqb-true (flags / 2 / 2 / 2 % 2) 1 e)

      -- L2 is over the sections, or under L1.
      module _ (first last : ℕ) where
        last-over : leb last sections && leb first last ≡ false → (byte_at (block b) 3 < last) ⊎ (last < first)
        last-over =
            both-broken (leb last sections) (leb first last)
            (λ e. inl (rw g at (leb-false last sections e)))
            (λ _ e. inr (leb-false first last e))

      last-placed : not (bit2 flags) || (leb (envelope_loop_last m at) sections && leb (envelope_loop_first m at) (envelope_loop_last m at)) ≡ false
          → RangeAt (at + 6)
      last-placed e =
          let (set, over) = unless-broken (bit2 flags) (leb (envelope_loop_last m at) sections && leb (envelope_loop_first m at) (envelope_loop_last m at)) e in
          let wrong = last-over (byte_at (block b) 5) (byte_at (block b) 6) (rw (byte-is 5 (lit< tt), byte-is 6 (lit< tt)) at over) in
          fault-placed (at + 6) refl (omega arith) (EnvelopeFault.loop_last (loop-set set) wrong)

      points-placed : WhereBroken (Placed m) (envelope_point_rules m flags sections at)
      points-placed =
          this-or (point-placed 4 (lit< tt) (bit1 flags) (λ set. EnvelopeFault.first_sustain (first-set set))) λ _.
          this-or (point-placed 5 (lit< tt) (bit2 flags) (λ set. EnvelopeFault.loop_first (loop-set set))) λ _.
          this-or last-placed λ _.
          this-or (point-placed 7 (lit< tt) (bit3 flags) (λ set. EnvelopeFault.second_sustain (second-set set))) λ _.
          no-rule

      -- The values, at most 32.
      module _ (h : sections ≤ 31) where
        value-fault : (i : ℕ) → i < sections + 1 → value_fits signed (number16 (block b) (10 + 4 * i)) ≡ false → EnvelopeFault ValueFits (block b) (10 + 4 * i)
        value-fault i low e = EnvelopeFault.value i (omega arith) (omega arith) (never (is.says (number16 (block b) (10 + 4 * i))) e)

        value-placed : (i : ℕ) → i < sections + 1 → value_fits signed (number16 m (at + 8 + 4 * i + 2)) ≡ false → RangeAt (at + 8 + 4 * i + 2)
        value-placed i low e =
            let broken = rw (value_same b.part sized i (omega arith)) at e in
            fault-placed (at + 8 + 4 * i + 2) (omega arith) (omega arith) (value-fault i low broken)

        values-placed : WhereBroken (Placed m) (values_rules m signed sections at)
        values-placed =
            broken-each (value_rules m signed)
            ((every-step _ 4 (sections + 1) (at + 8)).1 (λ i low. this-or (value-placed i low) (λ _. no-rule)))

    -- The values are checked only if the sections fit.
    envelope-placed : WhereBroken (Placed m) (envelope_rules m l.instruments signed at)
    envelope-placed =
        let f = byte-is 2 (lit< tt) in
        let g = byte-is 3 (lit< tt) in
        broken-append head-placed λ head.
        let fits = leb-true (envelope_sections m at) 31 (every_first (every_rest (every_rest head))) in
        broken-append (points-placed (envelope_flags m at) (envelope_sections m at) f g) λ _.
        values-placed (envelope_flags m at) (envelope_sections m at) f g fits

  -- The blocks of a record kind, if they fill their chunk.
  module _ (fill : BlocksHold m l) where
    module _ (kind : RecordKind) (rules_at : ℕ → List Rule) where
      abbrev EachPlaced : Type 0
      EachPlaced = WhereBroken (Placed m) (rules_of_each rules_at (blocks_of m (block_kind_of kind) (chunk_of l kind) (count_of m l kind)))

      pub each_placed : There o.chunks (letters_of kind) → ((at : ℕ) → Begins o kind at → WhereBroken (Placed m) (rules_at at)) → EachPlaced
      each_placed there h = broken-each rules_at (every_of h (each-begins o fill kind there))

    -- Envelopes, if their chunk is present.
    module _ {kind : RecordKind} {signed : Bool} {ValueFits : ℕ → Type 0} (is : Enveloped kind signed ValueFits) where
      envelopes-placed : EachPlaced kind (envelope_rules m l.instruments signed)
      envelopes-placed = go (chunk_of l kind).present refl
        where
          go : (there : Bool) → (chunk_of l kind).present ≡ there → EachPlaced kind (envelope_rules m l.instruments signed)
          go true e = each_placed kind (envelope_rules m l.instruments signed) ((found_of o kind).chunk e) (envelope-placed is)
          go false e = rw (is.absent e) no-rule

    pub field-rules-placed : WhereBroken (Placed m) (field_rules m l)
    field-rules-placed =
        broken-append (each_placed Song (song_rules m l.patterns) o.mandatory.song song-placed) λ _.
        broken-append (each_placed Instrument (instrument_rules m l.samples) o.mandatory.inst instrument-placed) λ _.
        broken-append (envelopes-placed of-volume) λ _.
        envelopes-placed of-panning
