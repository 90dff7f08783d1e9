-- The repacked module by its chunks: its header, and its chunks with PATT's rewritten data.
use Prim.Native.Nat.{ℕ}
use mathlib.Core.Path.{◌≡◌, refl}
use mathlib.Core.List.{List, ◌++◌, map}
use mathlib.Core.Bool.{false, ◌||◌}
use lib.Dec.{eqb}
use Rattle.vocabulary.specs.Lists.{joined}
use Rattle.layout.specs.Chunks.{patt_identifier}
use Rattle.layout.specs.declared.Layout.{Layout}
use Rattle.acceptance.specs.Rules.{ChunkRules}
use Rattle.acceptance.proofs.ChangedChunks.{Change, chunks-read, module-changed}
use Rattle.acceptance.proofs.ChangedData.{data_changed, no_change, data-change, data-read, chunk_read}
use Rattle.repack.specs.Repacked.{repacked_patterns, repacked_chunk_bytes, repacked_module}

-- A chunk of the repacked module: PATT gets other data, and every other chunk is unchanged.
abbrev pub rewritten_chunk : List ℕ → List ℕ → List ℕ
rewritten_chunk content = data_changed patt_identifier content (λ chunk. chunk)

pub patt-change : (content : List ℕ) → Change (λ n. eqb n patt_identifier || false) (rewritten_chunk content)
patt-change content = data-change patt_identifier content (λ chunk. chunk) no_change

module _ {m header : List ℕ} {all : List (List ℕ)} (rules : ChunkRules m header all) (l : Layout) where
  pub module-rewritten : repacked_module m l ≡ header ++ joined (map (rewritten_chunk (repacked_patterns m l)) all)
  module-rewritten =
      let content : List ℕ = repacked_patterns m l in
      rw (chunks-read rules)
      (module-changed rules (repacked_chunk_bytes m l) (rewritten_chunk content) (λ at chunk p c. rw (data-read p c content, chunk_read p c) refl))
