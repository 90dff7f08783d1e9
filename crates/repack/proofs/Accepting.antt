-- What acceptance of a module provides for the code that repacks it: its patterns fill PATT and have sound streams, and the repacked module
-- is the module with PATT's rewritten data.
use Prim.Native.Nat.{ℕ, zero, suc, ◌+◌, ◌≤◌, ◌<◌}
use Rattle.std.specs.Prelude.{Ok}
use mathlib.Core.Path.{◌≡◌, refl, sym, ap, ◌∙◌}
use mathlib.Core.List.{List, ◌++◌}
use native.Mathlib.Omega.{arith}
use lib.ListN.{length, drop}
use Rattle.vocabulary.specs.Lists.{Every}
use Rattle.vocabulary.proofs.EveryOne.{every_first, every_rest}
use Rattle.refusal.specs.Numbers.{refusal}
use Rattle.refusal.specs.declared.Reason.TheVariants.{Room}
use Rattle.refusal.specs.Lengths.{refused_length, written_length}
use Rattle.refusal.proofs.FilledOutputs.{all-lacking, all-enough}
use Rattle.refusal.specs.declared.LengthAnswer.{LengthAnswer}
use Rattle.numbers.specs.Numbers.{Bytes}
use Rattle.layout.specs.declared.Layout.{Layout}
use Rattle.blocks.specs.Sizes.{size_of, places_from}
use Rattle.blocks.specs.declared.BlockKind.TheVariants.{Pattern}
use Rattle.module.specs.Streams.{pattern_stream_rules}
use Rattle.module.specs.Verdicts.{opened}
use Rattle.module.specs.Outputs.{answer_opened, output_opened}
use Rattle.acceptance.specs.Rules.{Covered}
use Rattle.acceptance.proofs.Holding.{AllHold}
use Rattle.acceptance.proofs.BlockStreams.{accepted-says}
use Rattle.acceptance.proofs.ChunkHalf.{Outlined, outline-chunks}
use Rattle.acceptance.proofs.ChangedData.{data-at}
use Rattle.acceptance.proofs.OpenModules.{Opens, module-opens}
use Rattle.repack.specs.Repacked.{repacked_patterns, repacked_module}
use Rattle.repack.specs.Steps.{replaced, StreamsSound, PatternsIn}
use Rattle.repack.proofs.RewrittenChunks.{module-rewritten}

all-sound : (m : List ℕ) (tracks n at : ℕ)
    → Every (λ place. AllHold (pattern_stream_rules m tracks place)) (places_from (size_of Pattern m) n at)
    → StreamsSound m tracks n at
all-sound m tracks zero at e = tt
all-sound m tracks (suc n) at e = ((accepted-says _).0 (every_first (every_first e)), all-sound m tracks n (at + size_of Pattern m at) (every_rest e))

module _ (m : List ℕ) (bytes : Bytes m) (l : Layout) (o : opened m ≡ Ok l) where
  opens : Opens m l
  opens = module-opens m l o

  pub patterns-in : PatternsIn m l.spans.patt l.patterns l.tracks
  patterns-in = record {
    sound = all-sound m l.tracks l.patterns (l.spans.patt.at + 8) opens.content.streams;
    ends = opens.content.blocks.patterns;
    inside = opens.spans.patt.inside;
  }

  pub outlined : Outlined m l
  outlined = outline-chunks m l bytes opens.outlined

  pub module-replaced : repacked_module m l ≡ replaced m l.spans.patt (repacked_patterns m l)
  module-replaced =
      module-rewritten outlined.rules l
      ∙ data-at Covered.patt (repacked_patterns m l) outlined.rules outlined.mandatory.patt.1 l.spans.patt outlined.layout.patt

  -- 17, and what is written, depending on the length of the module with PATT's rewritten data.
  module _ (out : List ℕ) where
    abbrev rewritten : List ℕ
    rewritten = replaced m l.spans.patt (repacked_patterns m l)

    same_length : length (repacked_module m l) ≡ length rewritten
    same_length = ap length module-replaced

    pub module-lacks : (needed : ℕ) → length out < needed → (length out < needed → needed ≡ length rewritten)
        → (answer : LengthAnswer)
        → answer ≡ refused_length (refusal Room needed)
        → (answer ≡ answer_opened (repacked_module m) (length out) (Ok l)) × (out ≡ output_opened (repacked_module m) out (Ok l))
    module-lacks needed h same answer e = all-lacking (repacked_module m l) out needed (same h ∙ sym same_length) h answer e

    pub module-done : length rewritten ≤ length out → (n : ℕ) (answer : LengthAnswer) (out' : List ℕ) → answer ≡ written_length n
        → (n ≡ length rewritten) × (out' ≡ rewritten ++ drop n out)
        → (answer ≡ answer_opened (repacked_module m) (length out) (Ok l)) × (out' ≡ output_opened (repacked_module m) out (Ok l))
    module-done h n answer out' e done =
        all-enough (repacked_module m l) out (omega (arith, same_length)) n answer out' e (done.0 ∙ sym same_length, done.1 ∙ rw module-replaced refl)
