-- How the layout that the check finds corresponds to the chunks of the rules: the link between the two halves of theorem 8.
use Prim.Native.Nat.{ℕ, ◌+◌}
use mathlib.Core.Path.{◌≡◌}
use mathlib.Core.List.{List, ◌++◌}
use mathlib.Core.Bool.{true}
use lib.ListN.{length}
use Rattle.vocabulary.specs.Lists.{joined}
use Rattle.vocabulary.specs.Letters.{name_letters, info_letters, song_letters, inst_letters, patt_letters, smpl_letters, venv_letters, penv_letters}
use Rattle.numbers.specs.Numbers.{byte_at, number16}
use Rattle.layout.specs.declared.ChunkSpan.{ChunkSpan}
use Rattle.layout.specs.declared.Layout.{Layout}
use Rattle.acceptance.specs.Rules.{Among}

-- The chunk's bytes are in the module where the span says.
pub record SpanHolds (m : List ℕ) (span : ChunkSpan) (chunk : List ℕ) : Type 0 where
  pub before : List ℕ
  pub after : List ℕ
  pub bytes : m ≡ before ++ (chunk ++ after)
  pub there : span.present ≡ true
  pub starts : length before ≡ span.at
  pub size : length chunk ≡ 8 + span.length

-- The span of the chunk with these letters. If there is such a chunk, it is there, after the header and the chunks before it. If the span
-- is present, there is such a chunk.
pub record Found (m : List ℕ) (chunks : List (List ℕ)) (letters : List ℕ) (span : ChunkSpan) : Type 0 where
  pub holds : (chunk : List ℕ) → Among chunks letters chunk → SpanHolds m span chunk
  pub begins : (chunk : List ℕ) (a : Among chunks letters chunk) → span.at ≡ 8 + length (joined a.before)
  pub chunk : span.present ≡ true → (chunk : List ℕ) × Among chunks letters chunk

-- The layout has the five numbers of INFO.
abbrev pub CountsOf : Layout → List ℕ → Type 0
CountsOf l info =
    (l.instruments ≡ number16 info 8)
    × (l.samples ≡ number16 info 10)
    × (l.songs ≡ number16 info 12)
    × (l.patterns ≡ number16 info 14)
    × (l.tracks ≡ number16 info 16)

-- The layout is that of these chunks.
pub record LayoutOf (m header : List ℕ) (chunks : List (List ℕ)) (l : Layout) : Type 0 where
  pub version : l.version ≡ byte_at header 4
  pub revision : l.revision ≡ byte_at header 5
  pub counts : (info : List ℕ) → Among chunks info_letters info → CountsOf l info
  pub name : Found m chunks name_letters l.spans.name
  pub song : Found m chunks song_letters l.spans.song
  pub inst : Found m chunks inst_letters l.spans.inst
  pub patt : Found m chunks patt_letters l.spans.patt
  pub smpl : Found m chunks smpl_letters l.spans.smpl
  pub venv : Found m chunks venv_letters l.spans.venv
  pub penv : Found m chunks penv_letters l.spans.penv
