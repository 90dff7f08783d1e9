-- The theorem about all records of a module by one call. For every list of bytes:
--
-- 19. The records that the call writes are exactly what the queries answer, number by number: the summary, from the answers for version,
--     name, INFO's numbers and the numbers of envelopes; then every song, with each entry of its playlist; every instrument, from 1; the
--     rows of every pattern; every sample, from 1; every volume envelope and every panning envelope. There are as many of each as the
--     queries say, in the order of Q16. So for an accepted module the call answers the length of these records and writes them to the
--     front of the output. With too little room it answers 17 with that length, and the output is unchanged. For a refused module it
--     answers the refusal, and the output is unchanged.
--
-- The answer of the call is `all_answer`, and its output is `all_output`; its contract cites these. `reported_records` uses the queries' own
-- answers and no place of a block.
use Prim.Native.Nat.{ℕ}
use Rattle.std.specs.Prelude.{Ok, Err}
use mathlib.Core.Path.{◌≡◌, ap, ◌∙◌}
use mathlib.Core.List.{List}
use lib.ListN.{length}
use Rattle.refusal.specs.declared.Refusal.{Refusal}
use Rattle.refusal.specs.Lengths.{refused_length, length_if, output_if}
use Rattle.numbers.specs.Numbers.{Bytes}
use Rattle.layout.specs.declared.Layout.{Layout}
use Rattle.module.specs.Verdicts.{opened, module_verdict}
use Rattle.module.specs.Outputs.{answer_opened, output_opened}
use Rattle.acceptance.proofs.OpenModules.{accepted-opens, refused-opens}
use Rattle.records.specs.Records.{all_records, all_answer, all_output}
use Rattle.records.specs.Reported.{reported_records}
use Rattle.records.proofs.Reporting as Reporting

-- Theorem 19.
pub records-reported : (m : List ℕ) → Bytes m → (l : Layout) → opened m ≡ Ok l → all_records m l ≡ reported_records m
records-reported m bytes l o = Reporting.records-reported m l o bytes

module _ (m : List ℕ) (bytes : Bytes m) (accepted : module_verdict m ≡ Ok tt) where
  abbrev layout : Layout
  layout = (accepted-opens m accepted).0

  opens : opened m ≡ Ok layout
  opens = (accepted-opens m accepted).1

  pub all-reported : (room : ℕ) → all_answer m room ≡ length_if (length (reported_records m)) room
  all-reported room =
      ap (answer_opened (all_records m) room) opens ∙ ap (λ (records : List ℕ). length_if (length records) room) (records-reported m bytes layout opens)

  pub all-written : (out : List ℕ) → all_output m out ≡ output_if (length_if (length (reported_records m)) (length out)) (reported_records m) out
  all-written out =
      ap (output_opened (all_records m) out) opens
      ∙ ap (λ (records : List ℕ). output_if (length_if (length records) (length out)) records out) (records-reported m bytes layout opens)

module _ (m : List ℕ) (r : Refusal) (refused : module_verdict m ≡ Err r) where
  pub all-refused : (room : ℕ) → all_answer m room ≡ refused_length r
  all-refused room = ap (answer_opened (all_records m) room) (refused-opens m r refused)

  pub all-kept : (out : List ℕ) → all_output m out ≡ out
  all-kept out = ap (output_opened (all_records m) out) (refused-opens m r refused)
