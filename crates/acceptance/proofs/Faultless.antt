-- An accepted module has none of the faults of theorem 10. Each fault of 11 to 15 is the opposite of a rule of a block, and a chunk can be
-- cut into blocks in only one way.
use Prim.Native.Nat.{ℕ, ◌≤◌}
use Rattle.std.specs.Prelude.{Result, Ok}
use mathlib.Core.Path.{◌≡◌, refl, sym, ap, subst, ◌∙◌}
use mathlib.Core.Logic.{inl, inr}
use mathlib.Core.List.{List, ◌∷◌, ◌++◌}
use native.Mathlib.Omega.{arith}
use lib.ListN.{take}
use Rattle.vocabulary.specs.Lists.{joined, Every}
use Rattle.vocabulary.specs.Letters.{song_letters, inst_letters, patt_letters, smpl_letters, venv_letters, penv_letters}
use Rattle.vocabulary.proofs.EveryOne.{every_append, every_first, every_of}
use Rattle.refusal.specs.Rules.{first_broken}
use Rattle.refusal.specs.declared.Refusal.{Refusal}
use Rattle.numbers.specs.Numbers.{byte_at, Bytes, number16}
use Rattle.layout.specs.Outlines.{outline}
use Rattle.layout.specs.declared.Layout.{Layout}
use Rattle.blocks.specs.Sizes.{size_of}
use Rattle.blocks.specs.RecordKinds.{block_kind_of}
use Rattle.blocks.specs.declared.RecordKind.{RecordKind}
use Rattle.blocks.specs.declared.RecordKind.TheVariants.{Song, Instrument, Pattern, Sample, VolumeEnvelope, PanningEnvelope}
use Rattle.module.specs.Verdicts.{content_rules, content_if, verdict_of_outline, module_verdict}
use Rattle.acceptance.specs.Rules.{Among, NeedsInfo, SongRules, InstrumentRules, PatternRules, SampleRules}
use Rattle.acceptance.specs.Rules.{EnvelopeRules, VolumeFits, PanningValueFits, Content, Rules}
use Rattle.acceptance.specs.Faults.{letters_of, front_of, MadeOf, BlocksFault, InstrumentLacks, ReferenceFault}
use Rattle.acceptance.specs.Faults.{InstrumentFault, EnvelopeFault, FieldFault, LoopFault, PatternFault}
use Rattle.acceptance.specs.Places.{AllChunks, BlockBegins, ContentPlace, blocks, reference, field_range, loop, stream}
use Rattle.acceptance.specs.Places.{PlaceOf, too_long, not_aModule, version, chunk_cut, identifier, repeated, before_info}
use Rattle.acceptance.specs.Places.{missing, fixed_length, info_range, content}
use Rattle.acceptance.proofs.Recorded.{There}
use Rattle.acceptance.proofs.Spans.{LayoutOf}
use Rattle.acceptance.proofs.ChunkHalf.{Mandatory, chunks-outline}
use Rattle.acceptance.proofs.BlockStreams.{pattern-sound, pattern-sized}
use Rattle.acceptance.proofs.ContentHalf.{content-exactly}
use Rattle.acceptance.proofs.Acceptance.{verdict-found, accepted-exactly}
use Rattle.acceptance.proofs.BlocksThere.{sized_of}
use Rattle.acceptance.proofs.OneSplit.{split-same, all_same, blocks-own}
use Rattle.acceptance.proofs.FaultlessChunks.{no-header-fault, no-version-fault, no-cut-fault, no-identifier-fault}
use Rattle.acceptance.proofs.FaultlessChunks.{no-repeated-fault, no-order-fault, no-length-fault, no-info-fault}
use Rattle.acceptance.proofs.FaultlessChunks.{no-missing-fault}

-- A field of a block for which the rules hold has no fault.
no-envelope-fault : {n : ℕ} {ValueFits : ℕ → Type 0} {block : List ℕ} {offset : ℕ} → EnvelopeRules n ValueFits block → EnvelopeFault ValueFits block offset → ⊥
no-envelope-fault r (EnvelopeFault.flags h) = absurd (omega (arith, r.flags))
no-envelope-fault r (EnvelopeFault.sections h) = absurd (omega (arith, r.sections))
no-envelope-fault r (EnvelopeFault.first_sustain set over) = absurd (omega (arith, r.first_sustain set))
no-envelope-fault r (EnvelopeFault.loop_first set over) = absurd (omega (arith, (r.loop set).0))
no-envelope-fault r (EnvelopeFault.loop_last set (inl over)) = absurd (omega (arith, (r.loop set).1))
no-envelope-fault r (EnvelopeFault.loop_last set (inr under)) = absurd (omega (arith, (r.loop set).2))
no-envelope-fault r (EnvelopeFault.second_sustain set over) = absurd (omega (arith, r.second_sustain set))
no-envelope-fault r (EnvelopeFault.value i used low h) = h (r.values i used)

no-instrument : (info block : List ℕ) → InstrumentLacks info block → (1 ≤ number16 block 0) × (number16 block 0 ≤ number16 info 8) → ⊥
no-instrument info block (inl zero) h = absurd (omega (arith, h.0))
no-instrument info block (inr over) h = absurd (omega (arith, h.1))

no-instrument-fault : {samples : List (List ℕ)} {block : List ℕ} {offset : ℕ} → InstrumentRules samples block → InstrumentFault block offset → ⊥
no-instrument-fault r (InstrumentFault.volume h) = absurd (omega (arith, r.volume))
no-instrument-fault r (InstrumentFault.panning h) = h r.panning
no-instrument-fault r (InstrumentFault.flags h) = absurd (omega (arith, r.flags))

-- Blocks fill a chunk in only one way.
blocks-same : (kind : RecordKind) {info chunk : List ℕ} {xs ys : List (List ℕ)} → MadeOf kind info chunk xs → MadeOf kind info chunk ys → xs ≡ ys
blocks-same kind {chunk = chunk} {xs = xs} {ys = ys} a b =
    let front = take (front_of kind) chunk in
    let joins = (split-same front front (joined xs) (joined ys) refl (sym a.filled.bytes ∙ b.filled.bytes)).1 in
    all_same (blocks-own (block_kind_of kind)) (every_of (sized_of kind) a.sizes) (every_of (sized_of kind) b.sizes) joins

-- The chunks consist of the blocks of the content.
module _ {header : List ℕ} {chunks : List (List ℕ)} {info song inst patt smpl : List ℕ} (c : Content header chunks info song inst patt smpl) where
  songs-made : MadeOf Song info song c.songs
  songs-made = record { filled = c.songs_fill; sizes = every_of (λ block r. r.size) c.song_rules }

  instruments-made : MadeOf Instrument info inst c.instruments
  instruments-made = record { filled = c.instruments_fill; sizes = every_of (λ block r. r.size) c.instrument_rules }

  patterns-made : MadeOf Pattern info patt c.patterns
  unfolding size_of
  patterns-made = record { filled = c.patterns_fill; sizes = every_of (pattern-sized (number16 info 16)) c.pattern_rules }

  samples-made : MadeOf Sample info smpl c.samples
  samples-made = record { filled = c.samples_fill; sizes = c.sample_rules }

  module _ {chunk : List ℕ} where
    volume-made : (a : Among chunks venv_letters chunk) → MadeOf VolumeEnvelope info chunk (c.volume_envelopes chunk a).envelopes
    volume-made a = let e = c.volume_envelopes chunk a in record { filled = e.filled; sizes = every_of (λ block r. r.size) e.rules }

    panning-made : (a : Among chunks penv_letters chunk) → MadeOf PanningEnvelope info chunk (c.panning_envelopes chunk a).envelopes
    panning-made a = let e = c.panning_envelopes chunk a in record { filled = e.filled; sizes = every_of (λ block r. r.size) e.rules }

module _ {m : List ℕ} (below : Bytes m) (accepted : module_verdict m ≡ Ok tt) (all : AllChunks m) where
  abbrev Is : List ℕ → List ℕ → Type 0
  Is letters chunk = Among all.chunks letters chunk

  mandatory : Mandatory all.chunks
  mandatory = record {
    info = (all.info, all.info_there);
    song = all.others_there song_letters NeedsInfo.song;
    inst = all.others_there inst_letters NeedsInfo.inst;
    patt = all.others_there patt_letters NeedsInfo.patt;
    smpl = all.others_there smpl_letters NeedsInfo.smpl;
  }

  found : (l : Layout) × (outline m ≡ Ok l) × LayoutOf m all.header all.chunks l
  found = chunks-outline m all.header all.chunks all.rules mandatory

  passes : first_broken (content_rules m found.0) ≡ Ok tt
  passes =
      sym (verdict-found found.0 (first_broken (content_rules m found.0)))
      ∙ ap (λ (o : Result Layout Refusal). verdict_of_outline (content_if m o)) (sym found.1)
      ∙ accepted

  -- The content, for any chunks with the letters of the four.
  abbrev Holds : List ℕ → List ℕ → List ℕ → List ℕ → Type 0
  Holds song inst patt smpl = Content all.header all.chunks all.info song inst patt smpl

  module _ {song inst patt smpl : List ℕ} (a : Is song_letters song) (b : Is inst_letters inst) (c : Is patt_letters patt) (d : Is smpl_letters smpl) where
    content-of : Holds song inst patt smpl
    content-of =
        let tracks = (all.rules.info all.info all.info_there).tracks in
        (content-exactly found.2 all.rules.version all.info_there a b c d tracks below).0 passes

  any-song : (chunk : List ℕ) × Is song_letters chunk
  any-song = all.others_there song_letters NeedsInfo.song

  any-inst : (chunk : List ℕ) × Is inst_letters chunk
  any-inst = all.others_there inst_letters NeedsInfo.inst

  any-patt : (chunk : List ℕ) × Is patt_letters chunk
  any-patt = all.others_there patt_letters NeedsInfo.patt

  any-smpl : (chunk : List ℕ) × Is smpl_letters chunk
  any-smpl = all.others_there smpl_letters NeedsInfo.smpl

  any-content : Holds any-song.0 any-inst.0 any-patt.0 any-smpl.0
  any-content = content-of any-song.1 any-inst.1 any-patt.1 any-smpl.1

  -- 11: the blocks of a chunk.
  no-blocks-fault : (kind : RecordKind) (chunk : List ℕ) → Is (letters_of kind) chunk → BlocksFault kind all.info chunk → ⊥
  no-blocks-fault Song chunk a fault = fault.none _ (songs-made (content-of a any-inst.1 any-patt.1 any-smpl.1))
  no-blocks-fault Instrument chunk a fault = fault.none _ (instruments-made (content-of any-song.1 a any-patt.1 any-smpl.1))
  no-blocks-fault Pattern chunk a fault = fault.none _ (patterns-made (content-of any-song.1 any-inst.1 a any-smpl.1))
  no-blocks-fault Sample chunk a fault = fault.none _ (samples-made (content-of any-song.1 any-inst.1 any-patt.1 a))
  no-blocks-fault VolumeEnvelope chunk a fault = fault.none _ (volume-made any-content a)
  no-blocks-fault PanningEnvelope chunk a fault = fault.none _ (panning-made any-content a)

  -- What holds for all blocks of a chunk holds for the block at a place.
  module _ {kind : RecordKind} {place : ℕ} (b : BlockBegins all kind place) {Q : List ℕ → Type 0} {list : List (List ℕ)} where
    block-has : MadeOf kind all.info b.within.chunk list → Every Q list → Q b.block
    block-has made every =
        let each : Every Q (b.before ++ (b.block ∷ b.after)) = subst (Every Q) (blocks-same kind made b.blocks) every in
        every_first ((every_append b.before (b.block ∷ b.after)).0 each).1

  -- The rules of the block at a place.
  abbrev RulesOf : RecordKind → List ℕ → Type 0
  RulesOf Song block = SongRules (number16 all.info 14) block
  RulesOf Instrument block = InstrumentRules any-content.samples block
  RulesOf Pattern block = PatternRules (number16 all.info 16) block
  RulesOf Sample block = SampleRules block
  RulesOf VolumeEnvelope block = EnvelopeRules (number16 all.info 8) VolumeFits block
  RulesOf PanningEnvelope block = EnvelopeRules (number16 all.info 8) (PanningValueFits (byte_at all.header 4)) block

  -- The rules of an instrument, with the samples of any chunk that is SMPL.
  module _ {place : ℕ} (b : BlockBegins all Instrument place) {smpl : List ℕ} (d : Is smpl_letters smpl) {samples : List (List ℕ)} where
    instrument-rules : MadeOf Sample all.info smpl samples → InstrumentRules samples b.block
    instrument-rules made =
        let c = content-of any-song.1 b.within.among any-patt.1 d in
        let rules = block-has b (instruments-made c) c.instrument_rules in
        subst (λ (list : List (List ℕ)). InstrumentRules list b.block) (blocks-same Sample (samples-made c) made) rules

  block-rules : (kind : RecordKind) {place : ℕ} (b : BlockBegins all kind place) → RulesOf kind b.block
  block-rules Song b =
      let c = content-of b.within.among any-inst.1 any-patt.1 any-smpl.1 in
      subst (λ (n : ℕ). SongRules n b.block) c.patterns_fill.number (block-has b (songs-made c) c.song_rules)
  block-rules Instrument b = instrument-rules b any-smpl.1 (samples-made any-content)
  block-rules Pattern b =
      let c = content-of any-song.1 any-inst.1 b.within.among any-smpl.1 in
      block-has b (patterns-made c) c.pattern_rules
  block-rules Sample b =
      let c = content-of any-song.1 any-inst.1 any-patt.1 b.within.among in
      block-has b (samples-made c) c.sample_rules
  block-rules VolumeEnvelope b =
      let c = any-content in
      let rules = block-has b (volume-made c b.within.among) (c.volume_envelopes b.within.chunk b.within.among).rules in
      subst (λ (n : ℕ). EnvelopeRules n VolumeFits b.block) c.instruments_fill.number rules
  block-rules PanningEnvelope b =
      let c = any-content in
      let rules = block-has b (panning-made c b.within.among) (c.panning_envelopes b.within.chunk b.within.among).rules in
      subst (λ (n : ℕ). EnvelopeRules n (PanningValueFits (byte_at all.header 4)) b.block) c.instruments_fill.number rules

  -- 12: references.
  no-reference-fault : {block : List ℕ} {kind : RecordKind} {offset : ℕ} → ReferenceFault all.info block kind offset → RulesOf kind block → ⊥
  no-reference-fault (ReferenceFault.playlist_entry i low over) r = absurd (omega (arith, r.entries i low))
  no-reference-fault (ReferenceFault.sample over) r = absurd (omega (arith, r.sample, any-content.samples_fill.number))
  no-reference-fault {block} (ReferenceFault.of_volume none) r = no-instrument all.info block none r.instrument
  no-reference-fault {block} (ReferenceFault.of_panning none) r = no-instrument all.info block none r.instrument

  -- 13: other fields.
  no-field-fault : {block : List ℕ} {kind : RecordKind} {offset : ℕ} → FieldFault all.header block kind offset → RulesOf kind block → ⊥
  no-field-fault (FieldFault.instrument fault) r = no-instrument-fault r fault
  no-field-fault (FieldFault.of_volume fault) r = no-envelope-fault r fault
  no-field-fault (FieldFault.of_panning fault) r = no-envelope-fault r fault

  module _ {place : ℕ} where
    -- 14: the loop of an instrument.
    no-loop-fault : (b : BlockBegins all Instrument place) → LoopFault all.chunks all.info b.block → ⊥
    no-loop-fault b fault =
        let within = (instrument-rules b fault.among fault.blocks).loop fault.looped in
        elim fault.outside [ inl zero ↦ absurd (omega (arith, within.0)) | inr past ↦ absurd (omega (arith, within.1)) ]

    -- 15: the stream of a pattern.
    no-stream-fault : (b : BlockBegins all Pattern place) → PatternFault all.info b.block → ⊥
    no-stream-fault b fault =
        let rules = block-rules Pattern b in
        fault.none rules.entries (pattern-sound (number16 all.info 16) b.block rules)

  no-place-in : {r : Refusal} → ContentPlace all r → ⊥
  no-place-in (blocks {kind = kind} at fault) = no-blocks-fault kind at.chunk at.among fault
  no-place-in (reference at) = no-reference-fault at.wrong (block-rules at.kind at.within)
  no-place-in (field_range at) = no-field-fault at.wrong (block-rules at.kind at.within)
  no-place-in (loop at fault) = no-loop-fault at fault
  no-place-in (stream at fault) = no-stream-fault at fault

-- All of them: an accepted module has no fault at any place.
pub accepted-faultless : (m : List ℕ) → Bytes m → module_verdict m ≡ Ok tt → (r : Refusal) → PlaceOf m r → ⊥
accepted-faultless m below accepted r place = go ((accepted-exactly m below).0 accepted) place
  where
    needed : (rules : Rules m) (letters : List ℕ) → NeedsInfo letters → There rules.chunks letters
    needed rules letters NeedsInfo.song = (rules.song, rules.song_there)
    needed rules letters NeedsInfo.inst = (rules.inst, rules.inst_there)
    needed rules letters NeedsInfo.patt = (rules.patt, rules.patt_there)
    needed rules letters NeedsInfo.smpl = (rules.smpl, rules.smpl_there)

    go : Rules m → {s : Refusal} → PlaceOf m s → ⊥
    go rules (too_long over) = absurd (omega (arith, rules.chunk_rules.limit))
    go rules (not_aModule fault) = no-header-fault rules.chunk_rules fault
    go rules (version long fault) = no-version-fault rules.chunk_rules fault
    go rules (chunk_cut at fault) = no-cut-fault rules.chunk_rules at fault
    go rules (identifier at fault) = no-identifier-fault rules.chunk_rules at fault
    go rules (repeated at fault) = no-repeated-fault rules.chunk_rules at fault
    go rules (before_info at fault) = no-order-fault rules.chunk_rules at fault
    go rules (missing {chunks = others} of fault) = no-missing-fault rules.chunk_rules (rules.info, rules.info_there) (needed rules) others of fault
    go rules (fixed_length at fault) = no-length-fault rules.chunk_rules at fault
    go rules (info_range {offset = offset} at fault) = no-info-fault rules.chunk_rules at offset fault
    go rules (content all at) = no-place-in below accepted all at
