-- The encoding of a description with a sample replaced is the module with the sample replaced.
use Prim.Native.Nat.{ℕ, ◌+◌, ◌-◌}
use mathlib.Core.Path.{◌≡◌, refl, sym, ap, ◌∙◌}
use mathlib.Core.List.{List, ◌++◌, map, map-map}
use lib.ListN.{length, set}
use Rattle.vocabulary.specs.Lists.{joined}
use Rattle.vocabulary.specs.Letters.{inst_letters, smpl_letters}
use Rattle.vocabulary.proofs.MappedLists.{map-set, every_map}
use Rattle.numbers.specs.Numbers.{byte_at, number16, number32, bytes16, bytes32}
use Rattle.packed_rows.specs.Entries.{count}
use Rattle.layout.specs.declared.Layout.{Layout}
use Rattle.blocks.specs.Sizes.{size_of, places_from, instrument_blocks, sample_blocks}
use Rattle.blocks.specs.declared.BlockKind.TheVariants.{Instrument as InstrumentBlock, Sample as SampleBlock}
use Rattle.acceptance.specs.Rules.{IsChunk, Covered}
use Rattle.acceptance.proofs.Spans.{LayoutOf}
use Rattle.acceptance.proofs.Locating.{PartAt}
use Rattle.replace.specs.Replaced.{new_frames, new_block, sample_block, replaced_samples, loop_cleared, rewritten_instrument}
use Rattle.replace.specs.Replaced.{rewritten_instruments, cleared_count, sample_replaced_if, sample_replaced}
use Rattle.replace.proofs.ReplacedChunks.{both_changed, module-replaced}
use Rattle.format.specs.Description.{Instrument, Sample, Chunk, NAME, INFO, SONG, INST, PATT, SMPL, VENV, PENV, Other}
use Rattle.format.specs.Description.{Description}
use Rattle.format.specs.Encoding.{instrument_bytes, sample_bytes, chunk_bytes, header_bytes, encoded}
use Rattle.format.specs.WellFormed.{In, InstrumentFits, WellFormed}
use Rattle.format.proofs.EncodedModule.{content-there, encoded-chunks}
use Rattle.format.proofs.Placed.{encoded-opens, info-numbers}
use Rattle.format.proofs.ShownInstruments.{instrument-sized}
use Rattle.format.proofs.ShownSamples.{sample-sized}
use Rattle.format.proofs.ChunksIn.{in-every, in-once}
use Rattle.format.proofs.ChunkKinds.{not-covered}
use Rattle.format.proofs.ChangedDescriptions.{encoded-changed}
use Rattle.replace_theorems.specs.ReplacedDescription.{sixteen_bit, loop_outside, cleared_instrument, replaced_chunk}
use Rattle.replace_theorems.specs.ReplacedDescription.{replaced_description}
use Rattle.acceptance.proofs.Cutting.{places-made}
use Rattle.replace_theorems.proofs.ReplacedBlocks.{cleared-same, instrument-rewritten, sample-copied}
use Rattle.replace_theorems.proofs.ReplacedBlocks.{new-frames, new-block}

-- What is made from the places of the instruments, and from those of the samples.
module _ (d : Description) (w : WellFormed d) {l : Layout}
    (layout : LayoutOf (encoded d) (header_bytes d) (map chunk_bytes d.chunks) l) where
  abbrev first_instrument : ℕ
  first_instrument = l.spans.inst.at + 8

  abbrev first_sample : ℕ
  first_sample = l.spans.smpl.at + 8

  instruments-there : PartAt (encoded d) first_instrument (joined (map instrument_bytes w.instruments))
  instruments-there = content-there d.chunks (INST w.instruments) w.instruments_there refl layout.inst

  samples-there : PartAt (encoded d) first_sample (joined (map sample_bytes w.samples))
  samples-there = content-there d.chunks (SMPL w.samples) w.samples_there refl layout.smpl

  instruments-many : l.instruments ≡ length w.instruments
  instruments-many = (info-numbers d w layout w.info w.info_there).0 ∙ sym w.lists.instrument_count

  samples-many : l.samples ≡ length w.samples
  samples-many = (info-numbers d w layout w.info w.info_there).1 ∙ sym w.lists.sample_count

  module _ {B : Type 0} (made : ℕ → B) where
    instruments-made : (is : Instrument → B)
        → ((i : Instrument) → InstrumentFits w.samples i → (at : ℕ) → PartAt (encoded d) at (instrument_bytes i)
        → made at ≡ is i)
        → map made (instrument_blocks (encoded d) l) ≡ map is w.instruments
    instruments-made is each =
        ap (λ (n : ℕ). map made (places_from (size_of InstrumentBlock (encoded d)) n first_instrument)) instruments-many
        ∙ places-made InstrumentBlock instrument_bytes instrument-sized made is each first_instrument
        w.lists.instruments_fit instruments-there

    samples-made : (is : Sample → B) → ((s : Sample) (at : ℕ) → PartAt (encoded d) at (sample_bytes s) → made at ≡ is s)
        → map made (sample_blocks (encoded d) l) ≡ map is w.samples
    samples-made is each =
        ap (λ (n : ℕ). map made (places_from (size_of SampleBlock (encoded d)) n first_sample)) samples-many
        ∙ places-made SampleBlock sample_bytes (λ s f. sample-sized s) made is (λ s f. each s) first_sample
        w.lists.samples_fit samples-there

  -- E5: the instruments that are counted.
  pub count_same : (sample frames : ℕ)
      → cleared_count (encoded d) l sample frames ≡ count (map (loop_outside sample frames) w.instruments)
  count_same sample frames =
      ap count
      (instruments-made (loop_cleared (encoded d) sample frames) (loop_outside sample frames)
      (λ i f at p. cleared-same i f p sample frames))

  -- E2, E3: the new data of SMPL and of INST.
  instruments-same : (sample frames : ℕ)
      → rewritten_instruments (encoded d) l sample frames
      ≡ joined (map instrument_bytes (map (cleared_instrument sample frames) w.instruments))
  instruments-same sample frames =
      ap joined
      (instruments-made (rewritten_instrument (encoded d) sample frames) (λ i. instrument_bytes (cleared_instrument sample frames i))
      (λ i f at p. instrument-rewritten i f p sample frames)
      ∙ sym (map-map instrument_bytes (cleared_instrument sample frames) w.instruments))

  samples-same : (sample : ℕ) (frames : List ℕ)
      → replaced_samples (encoded d) l sample (joined (map bytes16 frames))
      ≡ joined (map sample_bytes (set w.samples (sample - 1) (sixteen_bit frames)))
  samples-same sample frames =
      let new : List ℕ = new_block (joined (map bytes16 frames)) in
      ap (λ (blocks : List (List ℕ)). joined (set blocks (sample - 1) new))
      (samples-made (sample_block (encoded d)) sample_bytes (λ s at p. sample-copied s p))
      ∙ ap (λ (block : List ℕ). joined (set (map sample_bytes w.samples) (sample - 1) block)) (new-block frames)
      ∙ ap joined (map-set sample_bytes w.samples (sample - 1) (sixteen_bit frames))

-- E4: chunk by chunk.
module _ (d : Description) (w : WellFormed d) (sample : ℕ) (frames : List ℕ) where
  abbrev new : List ℕ
  new = joined (map bytes16 frames)

  abbrev new_instruments : List Instrument → List ℕ
  new_instruments list = joined (map instrument_bytes (map (cleared_instrument sample (length frames)) list))

  abbrev new_samples : List Sample → List ℕ
  new_samples list = joined (map sample_bytes (set list (sample - 1) (sixteen_bit frames)))

  abbrev changed : List ℕ → List ℕ
  changed = both_changed (new_samples w.samples) (new_instruments w.instruments)

  chunk-replaced : (c : Chunk) → In d.chunks c → IsChunk (chunk_bytes c)
      → changed (chunk_bytes c) ≡ chunk_bytes (replaced_chunk sample frames c)
  unfolding number32 number16 byte_at
  chunk-replaced (NAME name) i c = refl
  chunk-replaced (INFO info) i c = refl
  chunk-replaced (SONG list) i c = refl
  chunk-replaced (INST list) i c =
      let same : w.instruments ≡ list = cc (in-once w.once w.instruments_there i Covered.inst refl) in
      ap (λ (is : List Instrument). inst_letters ++ (bytes32 (length (new_instruments is)) ++ new_instruments is)) same
  chunk-replaced (PATT list) i c = refl
  chunk-replaced (SMPL list) i c =
      let same : w.samples ≡ list = cc (in-once w.once w.samples_there i Covered.smpl refl) in
      ap (λ (ss : List Sample). smpl_letters ++ (bytes32 (length (new_samples ss)) ++ new_samples ss)) same
  chunk-replaced (VENV list) i c = refl
  chunk-replaced (PENV list) i c = refl
  chunk-replaced (Other letters bytes) i c =
      let fits = w.others letters bytes i in
      rw (not-covered letters bytes fits c Covered.smpl, not-covered letters bytes fits c Covered.inst) refl

  module _ {l : Layout} (layout : LayoutOf (encoded d) (header_bytes d) (map chunk_bytes d.chunks) l) where
    data-same : both_changed (replaced_samples (encoded d) l sample new) (rewritten_instruments (encoded d) l sample (new_frames new))
        ≡ changed
    data-same =
        let instruments : rewritten_instruments (encoded d) l sample (new_frames new) ≡ new_instruments w.instruments =
        ap (rewritten_instruments (encoded d) l sample) (new-frames frames) ∙ instruments-same d w layout sample (length frames) in
        ap (λ (content : List ℕ). both_changed (replaced_samples (encoded d) l sample new) content) instruments
        ∙ ap (λ (content : List ℕ). both_changed content (new_instruments w.instruments)) (samples-same d w layout sample frames)

  pub replaced-encoded : sample_replaced (encoded d) sample (joined (map bytes16 frames))
      ≡ encoded (replaced_description sample frames d)
  replaced-encoded =
      let (l, opens, layout) = encoded-opens d w in
      let whole = (every_map chunk_bytes d.chunks).0 (encoded-chunks d w).whole in
      ap (sample_replaced_if (encoded d) sample new) opens
      ∙ module-replaced (encoded-chunks d w) l sample new
      ∙ ap (λ (change : List ℕ → List ℕ). header_bytes d ++ joined (map change (map chunk_bytes d.chunks))) (data-same layout)
      ∙ encoded-changed d (replaced_chunk sample frames) changed (λ c i. chunk-replaced c i (in-every whole i))
