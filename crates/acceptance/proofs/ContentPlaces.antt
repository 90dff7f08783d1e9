-- The content half of theorem 10: the places of refusals 11 to 15, and what is wrong there. 11 is at the header of a chunk. If the blocks
-- fill their chunks, 12 and 13 are at a field of a block (FieldPlaces), 14 and 15 at the beginning of one.
use Prim.Native.Nat.{ℕ, ◌+◌, ◌-◌, ◌≤◌, ◌<◌}
use Rattle.std.specs.Prelude.{Err}
use mathlib.Core.Path.{◌≡◌, sym, ◌∙◌}
use mathlib.Core.Logic.{◌⊎◌, inl, inr}
use mathlib.Core.List.{List, []}
use mathlib.Core.Bool.{false, not, ◌&&◌, ◌||◌}
use native.Mathlib.Omega.{arith}
use lib.ListN.{length, get_or}
use lib.Dec.{leb}
use borrow.Author.Tests.{leb-true, leb-false, eqb-false}
use Rattle.vocabulary.proofs.EveryOne.{every_first, every_of, every-both}
use Rattle.refusal.specs.Numbers.{refusal}
use Rattle.refusal.specs.Rules.{Rule, first_broken, accepted}
use Rattle.refusal.specs.declared.Reason.TheVariants.{Blocks}
use Rattle.refusal.specs.declared.Refusal.{Refusal}
use Rattle.numbers.specs.Numbers.{Bytes, number16, number32}
use Rattle.layout.specs.declared.ChunkSpan.{ChunkSpan}
use Rattle.layout.specs.declared.Layout.{Layout}
use Rattle.blocks.specs.StoredFields.{instrument_sample}
use Rattle.blocks.specs.Sizes.{size_of, block_at}
use Rattle.blocks.specs.Filling.{fills, flags_rules, block_rules}
use Rattle.blocks.specs.declared.BlockKind.TheVariants.{Sample as SampleBlock}
use Rattle.blocks.specs.RecordKinds.{block_kind_of, chunk_of, count_of}
use Rattle.blocks.specs.declared.RecordKind.{RecordKind}
use Rattle.blocks.specs.declared.RecordKind.TheVariants.{Song, Instrument, Pattern, Sample, VolumeEnvelope, PanningEnvelope}
use Rattle.fields.specs.Fields.{instrument_rules}
use Rattle.module.specs.Loops.{is_looped, frames_of_sample, loop_fits, instrument_loop_rules, loop_rules}
use Rattle.module.specs.Streams.{stream_verdict, pattern_stream_rules, stream_rules}
use Rattle.module.specs.Verdicts.{content_rules}
use Rattle.acceptance.specs.Faults.{letters_of, MadeOf, BlocksFault, LoopFault, PatternFault}
use Rattle.acceptance.specs.Places.{blocks, loop, stream, content}
use Rattle.acceptance.proofs.Locating.{number16-at, number32-at, part-inside}
use Rattle.acceptance.proofs.Holding.{false-never, AllHold, every-place}
use Rattle.acceptance.proofs.Recorded.{There}
use Rattle.acceptance.proofs.ChunkHalf.{Outlined, span-part}
use Rattle.acceptance.proofs.FillingChunks.{blocks-fill, blocks-every}
use Rattle.acceptance.proofs.BlockFields.{instrument-size, looped-says, sample-holds}
use Rattle.acceptance.proofs.BlockStreams.{TracksFit, sound-accepted}
use Rattle.acceptance.proofs.ContentRules.{BlocksHold, blocks-hold, KindFills, FieldsHold, fields-hold}
use Rattle.acceptance.proofs.ContentHalf.{frames-same}
use Rattle.acceptance.proofs.FirstBroken.{WhereBroken, no-rule, this-or, first-broken, broken-append, broken-each, both-broken, unless-broken}
use Rattle.acceptance.proofs.ChunkPlaces.{Placed}
use Rattle.acceptance.proofs.BlocksThere.{first-is, all-chunks, counts, found_of, BlocksThere, span-of, blocks_at}
use Rattle.acceptance.proofs.BlocksThere.{blocks-there, Begins, kind-blocks, blocks-of, each-begins}
use Rattle.acceptance.proofs.FieldPlaces.{each_placed, field-rules-placed}

module _ {m : List ℕ} {l : Layout} (o : Outlined m l) where
  -- 11: if the chunk consisted of such blocks, the last would end at the end of its data.
  module _ (kind : RecordKind) (there : There o.chunks (letters_of kind)) where
    blocks-placed : BlocksFault kind (all-chunks o).info there.0 → Placed m (refusal Blocks (chunk_of l kind).at)
    blocks-placed fault = (content (all-chunks o) (blocks (blocks_at o kind there) fault), omega (arith, part-inside (span-part (span-of o kind there))))

    ends : (list : List (List ℕ)) → MadeOf kind (all-chunks o).info there.0 list → KindFills m l kind
    ends list b =
        let s = span-of o kind there in
        rw (first-is kind (chunk_of l kind)) (blocks-fill s _ _ (count_of m l kind) list (blocks-there o kind there list b))

    filling-placed : fills m (block_kind_of kind) (chunk_of l kind) (count_of m l kind) ≡ false → Placed m (refusal Blocks (chunk_of l kind).at)
    filling-placed e = blocks-placed (record { none = λ list b. eqb-false _ _ e (ends list b) })

  -- 11: the flags of a sample.
  module _ (i : ℕ) (h : i < l.samples) where
    abbrev flags_of : List Rule
    flags_of = flags_rules m l.spans.smpl (block_at m SampleBlock l.spans.smpl i)

    flags-fit : (list : List (List ℕ)) → MadeOf Sample (all-chunks o).info o.mandatory.smpl.0 list → AllHold flags_of
    flags-fit list b =
        let here = blocks-there o Sample o.mandatory.smpl list b in
        let flags = (blocks-every here (λ at block p s. sample-holds p s l.spans.smpl)).1 b.sizes in
        (every-place _ (size_of SampleBlock m) l.samples (l.spans.smpl.at + 8)).0 flags i h

    flags-placed : WhereBroken (Placed m) flags_of
    flags-placed =
        let wrong = blocks-placed Sample o.mandatory.smpl in
        this-or (λ e. wrong (record { none = λ list b. false-never (sym e ∙ every_first (flags-fit list b)) })) (λ _. no-rule)

  -- 11: envelopes, if their chunk is present.
  module _ (kind : RecordKind) where
    abbrev span : ChunkSpan
    span = chunk_of l kind

    if-filling-placed : not span.present || fills m (block_kind_of kind) span (count_of m l kind) ≡ false → Placed m (refusal Blocks span.at)
    if-filling-placed e =
        let (present, over) = unless-broken (chunk_of l kind).present _ e in
        filling-placed kind ((found_of o kind).chunk present) over

  block-rules-placed : WhereBroken (Placed m) (block_rules m l)
  block-rules-placed =
      let flags = (every-place _ (size_of SampleBlock m) l.samples (l.spans.smpl.at + 8)).1 flags-placed in
      this-or (filling-placed Song o.mandatory.song) λ _.
      this-or (filling-placed Instrument o.mandatory.inst) λ _.
      this-or (filling-placed Pattern o.mandatory.patt) λ _.
      this-or (filling-placed Sample o.mandatory.smpl) λ _.
      broken-append (broken-each (flags_rules m l.spans.smpl) flags) λ _.
      this-or (if-filling-placed VolumeEnvelope) λ _.
      this-or (if-filling-placed PanningEnvelope) λ _.
      no-rule

  module _ (fill : BlocksHold m l) where
    -- 14: an instrument whose sample exists.
    abbrev samples : (list : List (List ℕ)) × BlocksThere o Sample o.mandatory.smpl.0 list
    samples = kind-blocks o fill Sample o.mandatory.smpl

    module _ (at : ℕ) (b : Begins o Instrument at) (held : AllHold (instrument_rules m l.samples at)) where
      abbrev block : List ℕ
      block = b.here.block

      long : length block ≡ 50
      long = instrument-size b.part b.sized

      sample-exists : number16 block 30 ≤ length samples.0
      sample-exists =
          let same = number16-at b.part 30 (omega (arith, long)) in
          omega (arith, leb-true (instrument_sample m at) l.samples (every_first held), samples.1.filled.number)

      module _ (sample end : ℕ) (exists : sample ≤ length samples.0) where
        frames : 1 ≤ sample → frames_of_sample m l.spans.smpl sample ≡ number32 (get_or samples.0 (sample - 1) []) 4
        frames some = frames-same l.spans.smpl samples.1 sample some exists

        abbrev has : ℕ
        has = frames_of_sample m l.spans.smpl sample

        past-frames : leb 1 sample && leb end has ≡ false → (sample ≡ 0) ⊎ (number32 (get_or samples.0 (sample - 1) []) 4 < end)
        past-frames =
            both-broken (leb 1 sample) (leb end has)
            (λ e. inl (omega (arith, leb-false 1 sample e)))
            (λ some e. inr (rw (frames (leb-true 1 sample some)) at (leb-false end has e)))

      loop-fault : loop_fits m l.spans.smpl at ≡ false → LoopFault o.chunks (all-chunks o).info block
      loop-fault e =
          let p = b.part in
          let (turns, past) = unless-broken (is_looped m at) _ e in
          let same30 = number16-at p 30 (omega (arith, long)) in
          let same38 = number32-at p 38 (omega (arith, long)) in
          let same42 = number32-at p 42 (omega (arith, long)) in
          record {
            smpl = o.mandatory.smpl.0;
            among = o.mandatory.smpl.1;
            samples = samples.0;
            blocks = blocks-of o fill Sample o.mandatory.smpl;
            looped = (looped-says p b.sized).0 turns;
            exists = sample-exists;
            outside = past-frames (number16 block 30) (number32 block 38 + number32 block 42) sample-exists (rw (same30, same38, same42) at past);
          }

      loop-placed : WhereBroken (Placed m) (instrument_loop_rules m l.spans.smpl at)
      loop-placed =
          let inside : at ≤ length m = omega (arith, part-inside b.part) in
          this-or (λ e. (content (all-chunks o) (loop b.here (loop-fault e)), inside)) (λ _. no-rule)

    loop-rules-placed : FieldsHold m l → WhereBroken (Placed m) (loop_rules m l)
    loop-rules-placed fields =
        let both = every-both fields.instruments (each-begins o fill Instrument o.mandatory.inst) in
        broken-each (instrument_loop_rules m l.spans.smpl) (every_of (λ at h. loop-placed at h.1 h.0) both)

    -- 15: the stream of a pattern.
    module _ (below : Bytes m) where
      tracks-fit : TracksFit l.tracks
      tracks-fit = rw (counts o).4 (o.rules.info (all-chunks o).info (all-chunks o).info_there).tracks

      module _ (at : ℕ) (b : Begins o Pattern at) where
        stream-fault : accepted (stream_verdict m l.tracks at) ≡ false → PatternFault (all-chunks o).info b.here.block
        stream-fault e =
            let holds = sound-accepted b.part b.sized below l.tracks tracks-fit in
            record { none = λ entries sound. false-never (sym e ∙ every_first (holds entries (rw (counts o).4 sound))) }

        stream-placed : WhereBroken (Placed m) (pattern_stream_rules m l.tracks at)
        stream-placed =
            let inside : at ≤ length m = omega (arith, part-inside b.part) in
            this-or (λ e. (content (all-chunks o) (stream b.here (stream-fault e)), inside)) (λ _. no-rule)

      stream-rules-placed : WhereBroken (Placed m) (stream_rules m l)
      stream-rules-placed = each_placed o fill Pattern (pattern_stream_rules m l.tracks) o.mandatory.patt stream-placed

pub content-place : (m : List ℕ) (l : Layout) → Bytes m → Outlined m l → (r : Refusal) → first_broken (content_rules m l) ≡ Err r → Placed m r
content-place m l below o = first-broken rules
  where
    rules : WhereBroken (Placed m) (content_rules m l)
    rules =
        broken-append (block-rules-placed o) λ filled.
        let fill = (blocks-hold m l).0 filled in
        broken-append (field-rules-placed o fill) λ fields.
        broken-append (loop-rules-placed o fill ((fields-hold m l).0 fields)) λ _.
        stream-rules-placed o fill below
