-- The module with a sample replaced, by its chunks: its header, and its chunks with the new data of SMPL and of INST.
use Prim.Native.Nat.{ℕ}
use mathlib.Core.Path.{◌≡◌, refl}
use mathlib.Core.List.{List, ◌++◌, map}
use mathlib.Core.Bool.{false, ◌||◌}
use lib.Dec.{eqb}
use Rattle.vocabulary.specs.Lists.{joined}
use Rattle.layout.specs.Chunks.{inst_identifier, smpl_identifier}
use Rattle.layout.specs.declared.Layout.{Layout}
use Rattle.acceptance.specs.Rules.{ChunkRules}
use Rattle.acceptance.proofs.ChangedChunks.{Change, chunks-read, module-changed}
use Rattle.acceptance.proofs.ChangedData.{data_changed, no_change, data-change, data-read, chunk_read}
use Rattle.replace.specs.Replaced.{new_frames, replaced_samples, rewritten_instruments, replaced_chunk_bytes, replaced_module}

-- A chunk of the result: SMPL or INST gets other data and every other chunk is unchanged; and with other data for both.
abbrev pub smpl_changed : List ℕ → List ℕ → List ℕ
smpl_changed samples = data_changed smpl_identifier samples (λ chunk. chunk)

abbrev pub inst_changed : List ℕ → List ℕ → List ℕ
inst_changed instruments = data_changed inst_identifier instruments (λ chunk. chunk)

abbrev pub both_changed : List ℕ → List ℕ → List ℕ → List ℕ
both_changed samples instruments = data_changed smpl_identifier samples (inst_changed instruments)

pub both-change : (samples instruments : List ℕ)
    → Change (λ n. eqb n smpl_identifier || (eqb n inst_identifier || false)) (both_changed samples instruments)
both-change samples instruments =
    data-change smpl_identifier samples (inst_changed instruments) (data-change inst_identifier instruments (λ chunk. chunk) no_change)

module _ {m header : List ℕ} {all : List (List ℕ)} (rules : ChunkRules m header all) (l : Layout) (sample : ℕ) (new : List ℕ) where
  pub module-replaced : replaced_module m l sample new
      ≡ header ++ joined (map (both_changed (replaced_samples m l sample new) (rewritten_instruments m l sample (new_frames new))) all)
  module-replaced =
      let samples : List ℕ = replaced_samples m l sample new in
      let instruments : List ℕ = rewritten_instruments m l sample (new_frames new) in
      rw (chunks-read rules)
      (module-changed rules (replaced_chunk_bytes m l sample new) (both_changed samples instruments)
      (λ at chunk p c. rw (data-read p c samples, data-read p c instruments, chunk_read p c) refl))
