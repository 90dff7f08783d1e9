-- What acceptance of a module provides for the code that replaces a sample: the blocks are inside their chunks, and the result is the module
-- with the sample's block replaced and INST's new data put at their place.
use Prim.Native.Nat.{ℕ, ◌+◌, ◌-◌, ◌≤◌, ◌<◌}
use Rattle.std.specs.Prelude.{Ok}
use mathlib.Core.Path.{◌≡◌, sym, ap, ◌∙◌}
use mathlib.Core.List.{List, ◌++◌, map}
use mathlib.Core.Bool.{true}
use native.Mathlib.Omega.{arith}
use lib.ListN.{length, take, drop, length-append, length-drop}
use lib.Seq.{drop-drop, length-take-le}
use lib.Dec.{leb, ltb}
use borrow.Author.Tests.{ltb-true}
use borrow.Rule.Slice.PartMut.{mid_of, put_mid}
use Rattle.vocabulary.specs.Lists.{joined}
use Rattle.numbers.specs.Numbers.{Bytes, put_at}
use Rattle.numbers.proofs.AllBytes.{bytes-front, bytes_after}
use Rattle.numbers.proofs.PutBytes.{put-there, put-length, put-within}
use Rattle.layout.specs.declared.ChunkSpan.{ChunkSpan}
use Rattle.layout.specs.declared.Layout.{Layout}
use Rattle.blocks.specs.Sizes.{size_of, block_at}
use Rattle.blocks.specs.Filling.{data_end}
use Rattle.blocks.specs.declared.BlockKind.TheVariants.{Sample as SampleBlock}
use Rattle.blocks.specs.declared.RecordKind.TheVariants.{Sample}
use Rattle.module.specs.Verdicts.{opened}
use Rattle.queries.specs.Finding.{there}
use Rattle.acceptance.specs.Rules.{Covered}
use Rattle.acceptance.proofs.Holding.{and-says}
use Rattle.acceptance.proofs.Cutting.{after-least, after_next}
use Rattle.acceptance.proofs.ChunkHalf.{Outlined, outline-chunks}
use Rattle.acceptance.proofs.ChangedData.{data-at}
use Rattle.acceptance.proofs.Ends.{mid-end, put-end, written-length}
use Rattle.acceptance.proofs.OpenModules.{Opens, module-opens}
use Rattle.replace.specs.Replaced.{new_frames, new_block, replaced_samples, rewritten_instruments, replaced_module}
use Rattle.replace.specs.Steps.{content_length, front_with, block_replaced, SampleIn, InstrumentsIn, place_afterwards}
use Rattle.replace.proofs.ReplacedChunks.{smpl_changed, module-replaced}
use Rattle.replace.proofs.ReplacedBytes.{block-set, spliced-is, smpl-before, both-put, both-fits, place_is}
use Rattle.replace.proofs.WritingInstruments.{instruments-length, instruments-inside}
use Rattle.replace.proofs.WritingSample.{replaced-length}

module _ (m : List ℕ) (bytes : Bytes m) (l : Layout) (o : opened m ≡ Ok l) where
  opens : Opens m l
  opens = module-opens m l o

  outlined : Outlined m l
  outlined = outline-chunks m l bytes opens.outlined

  abbrev inst : ChunkSpan
  inst = l.spans.inst

  abbrev smpl : ChunkSpan
  smpl = l.spans.smpl

  pub instruments-in : InstrumentsIn m l.spans.inst l.instruments
  instruments-in =
      instruments-inside m l.instruments (inst.at + 8) (omega (arith, opens.content.blocks.instruments, opens.spans.inst.inside))

  pub module-limit : length m ≤ 16777216
  module-limit = outlined.rules.limit

  -- A sample of the module, and its block.
  module _ (sample : ℕ) (t : there m l Sample sample ≡ true) where
    index : sample - 1 < l.samples
    index = ltb-true (sample - 1) l.samples ((and-says (leb 1 sample) (ltb (sample - 1) l.samples)).0 t).1

    abbrev at : ℕ
    at = block_at m SampleBlock smpl (sample - 1)

    pub sample-in : SampleIn m l.spans.smpl (block_at m SampleBlock l.spans.smpl (sample - 1))
    sample-in = record {
      starts = after-least (size_of SampleBlock m) (sample - 1) (smpl.at + 8);
      ends = omega (
        arith,
        after_next (size_of SampleBlock m) l.samples (sample - 1) (smpl.at + 8) index,
        opens.content.blocks.samples,
      );
      inside = opens.spans.smpl.inside;
      limit = module-limit;
    }

    -- If INST comes after SMPL, its place is no less than the size of the block.
    pub block-before : smpl.at ≤ inst.at → size_of SampleBlock m at ≤ inst.at
    block-before h =
        let ends =
        smpl-before outlined.rules outlined.layout.inst outlined.layout.smpl outlined.mandatory.inst.1
        outlined.mandatory.smpl.1 h in
        omega (arith, ends, sample-in.starts, sample-in.ends)

    module _ (new : List ℕ) where
      abbrev samples : List ℕ
      samples = replaced_samples m l sample new

      abbrev instruments : List ℕ
      instruments = rewritten_instruments m l sample (new_frames new)

      abbrev next : ℕ
      next = at + size_of SampleBlock m at

      -- The new data of SMPL.
      block-replaced : take (smpl.at + 8) m ++ (samples ++ drop (data_end smpl) m) ≡ take at m ++ (new_block new ++ drop next m)
      block-replaced =
          ap (λ (k : ℕ). take (smpl.at + 8) m ++ (samples ++ drop k m)) (sym opens.content.blocks.samples)
          ∙ block-set m (size_of SampleBlock m) (new_block new) (sample - 1) l.samples (smpl.at + 8) index

      samples-length : length samples + size_of SampleBlock m at ≡ smpl.length + length (new_block new)
      samples-length =
          omega (
            arith,
            ap length block-replaced,
            length-append (take (smpl.at + 8) m) (samples ++ drop (data_end smpl) m),
            length-append samples (drop (data_end smpl) m),
            length-append (take at m) (new_block new ++ drop next m),
            length-append (new_block new) (drop next m),
            length-take-le (smpl.at + 8) m (omega (arith, sample-in.inside)),
            length-take-le at m (omega (arith, sample-in.ends, sample-in.inside)),
            length-drop (data_end smpl) m,
            length-drop next m,
            sample-in.starts,
            sample-in.ends,
            sample-in.inside,
          )

      samples-replaced : outlined.header ++ joined (map (smpl_changed samples) outlined.chunks) ≡ block_replaced m smpl at new
      samples-replaced =
          let eight : smpl.at + 8 ≡ smpl.at + 4 + 4 = omega arith in
          let size : length samples ≡ content_length m smpl at new = omega (arith, samples-length, sample-in.starts, sample-in.ends) in
          data-at Covered.smpl samples outlined.rules outlined.mandatory.smpl.1 smpl outlined.layout.smpl
          ∙ spliced-is m samples (new_block new) smpl.at (data_end smpl) at next (omega (arith, sample-in.starts))
          (omega (arith, sample-in.ends, sample-in.inside))
          (ap (λ (k : ℕ). take k m ++ (samples ++ drop (data_end smpl) m)) (sym eight) ∙ block-replaced)
          ∙ ap (λ (k : ℕ). front_with m smpl at k ++ (new_block new ++ drop next m)) size

      -- The new data of INST, and their place.
      instruments-same : length instruments ≡ inst.length
      instruments-same =
          omega (
            arith,
            instruments-length m sample (new_frames new) l.instruments (inst.at + 8) instruments-in,
            opens.content.blocks.instruments,
          )

      inst-bytes : Bytes outlined.mandatory.inst.0
      inst-bytes =
          let holds = outlined.layout.inst.holds outlined.mandatory.inst.0 outlined.mandatory.inst.1 in
          bytes-front outlined.mandatory.inst.0 holds.after
          (bytes_after holds.before (outlined.mandatory.inst.0 ++ holds.after) (rw holds.bytes at bytes))

      abbrev place : ℕ
      place = place_afterwards inst smpl (size_of SampleBlock m at) (length (new_block new))

      place_same : length
          (outlined.header
          ++ joined (map (smpl_changed samples) outlined.mandatory.inst.1.before)) + 8
          ≡ place
      place_same =
          place_is outlined.rules outlined.layout.inst outlined.layout.smpl outlined.mandatory.inst.1 outlined.mandatory.smpl.1
          samples instruments inst-bytes instruments-same (size_of SampleBlock m at) (length (new_block new))
          (omega (arith, sample-in.starts, sample-in.ends)) samples-length

      -- The result.
      pub result-is : replaced_module m l sample new
          ≡ put_at (rewritten_instruments m l sample (new_frames new))
          (place_afterwards l.spans.inst l.spans.smpl (size_of SampleBlock m at) (length (new_block new)))
          (block_replaced m l.spans.smpl at new)
      result-is =
          module-replaced outlined.rules l sample new
          ∙ both-put outlined.rules outlined.layout.inst outlined.layout.smpl outlined.mandatory.inst.1 outlined.mandatory.smpl.1
          samples instruments inst-bytes instruments-same
          ∙ ap
          (λ (k : ℕ).
          put_at instruments k
          (outlined.header ++ joined (map (smpl_changed samples) outlined.chunks)))
          place_same
          ∙ ap (put_at instruments place) samples-replaced

      pub result-size : length (replaced_module m l sample new) ≡ length (block_replaced m l.spans.smpl at new)
      result-size = ap length result-is ∙ put-length instruments place (block_replaced m smpl at new)

      pub result-length : length (replaced_module m l sample new) + size_of SampleBlock m at ≡ length m + length (new_block new)
      result-length = omega (arith, result-size, replaced-length m smpl at new sample-in)

      pub instruments-fit : place_afterwards l.spans.inst l.spans.smpl (size_of SampleBlock m at) (length (new_block new))
          + length (rewritten_instruments m l sample (new_frames new))
          ≤ length (block_replaced m l.spans.smpl at new)
      instruments-fit =
          let fits = both-fits outlined.rules outlined.layout.inst outlined.layout.smpl outlined.mandatory.inst.1
          outlined.mandatory.smpl.1 samples instruments inst-bytes instruments-same in
          omega (arith, fits, place_same, ap length samples-replaced)

      -- INST's new data written over the module with the block replaced.
      module _ (out₀ : List ℕ) (room : length (replaced_module m l sample new) ≤ length out₀) {out₁ : List ℕ}
          (e₁ : out₁ ≡ block_replaced m smpl at new ++ drop (length (block_replaced m smpl at new)) out₀) where
        written-size : length out₁ ≡ length out₀
        written-size = written-length (block_replaced m smpl at new) out₀ out₁ e₁ (omega (arith, result-size, room))

        pub place_inside : {start : ℕ} → start ≡ place → start ≤ length out₁
        place_inside e = omega (arith, e, instruments-fit, written-size, result-size, room)

        pub place-room : {start : ℕ} → start ≡ place → length instruments ≤ length (mid_of start (length out₁ - start) out₁)
        place-room {start} e =
            omega (arith, e, instruments-fit, written-size, result-size, room, ap length (mid-end start out₁), length-drop start out₁)

        pub result-written : {start : ℕ} → start ≡ place
            → {mid : List ℕ} → mid ≡ instruments ++ drop (length instruments) (mid_of start (length out₁ - start) out₁)
            → put_mid start (length out₁ - start) out₁ mid ≡ replaced_module m l sample new ++ drop (length (replaced_module m l sample new)) out₀
        result-written {start} e {mid} e₂ =
            let inside : start + length instruments ≤ length out₁ = omega (arith, e, instruments-fit, written-size, result-size, room) in
            let rest : drop (length instruments) (mid_of start (length out₁ - start) out₁) ≡ drop (start + length instruments) out₁ =
            ap (drop (length instruments)) (mid-end start out₁) ∙ drop-drop (length instruments) start out₁ in
            let after : List ℕ = drop (length (block_replaced m smpl at new)) out₀ in
            put-end start out₁ mid
            ∙ ap (λ (tail : List ℕ). take start out₁ ++ tail) (e₂ ∙ ap (λ (tail : List ℕ). instruments ++ tail) rest)
            ∙ sym (put-there instruments start out₁ inside)
            ∙ ap (put_at instruments start) e₁
            ∙ put-within instruments start (block_replaced m smpl at new) after (omega (arith, e, instruments-fit))
            ∙ ap (λ (k : ℕ). put_at instruments k (block_replaced m smpl at new) ++ after) e
            ∙ ap (λ (whole : List ℕ). whole ++ after) (sym result-is)
            ∙ ap (λ (k : ℕ). replaced_module m l sample new ++ drop k out₀) (sym result-size)
