-- FORMAT.md, F11 to F13: the outline of a module: its version, INFO's numbers and the spans of the covered chunks, or the first refusal of
-- 1 to 10.
use Rattle.std.specs.Prelude.{ℕ, ◌+◌, List, [], ◌∷◌, ◌++◌, Bool, true, false, cond, ◌&&◌, length, eqb, ⊤, Result, Ok, Err}
use Rattle.refusal.specs.declared.Refusal.{Refusal}
use Rattle.refusal.specs.Numbers.{refusal, accepted_numbers, refused_numbers}
use Rattle.refusal.specs.Rules.{first_broken}
use Rattle.refusal.specs.declared.Reason.TheVariants.{Missing}
use Rattle.numbers.specs.Numbers.{byte_at, number16}
use Rattle.layout.specs.Header.{header_rules}
use Rattle.layout.specs.Chunks.{name_identifier, info_identifier, song_identifier, inst_identifier, patt_identifier, smpl_identifier, venv_identifier}
use Rattle.layout.specs.Chunks.{penv_identifier, ChunkHeader, occurs, Walk, complete, stopped, chunks}
use Rattle.layout.specs.declared.ChunkSpan.{ChunkSpan}
use Rattle.layout.specs.declared.ChunkSpans.{ChunkSpans}
use Rattle.layout.specs.declared.Layout.{Layout}

-- The span of a chunk: an absent chunk, and a chunk with the given header.
abbrev pub absent : ChunkSpan
absent = record { present = false; at = 0; length = 0 }

abbrev pub header_span : ChunkHeader → ChunkSpan
header_span c = record { present = true; at = c.at; length = c.length }

-- M6: the span of the chunk with an identifier; a covered chunk occurs at most once. And the spans of all covered chunks.
abbrev pub span_of : ℕ → List ChunkHeader → ChunkSpan
span_of identifier [] = absent
span_of identifier (c ∷ cs) = cond (eqb c.identifier identifier) (header_span c) (span_of identifier cs)

abbrev pub spans_of : List ChunkHeader → ChunkSpans
spans_of cs = record {
  name = span_of name_identifier cs;
  info = span_of info_identifier cs;
  song = span_of song_identifier cs;
  inst = span_of inst_identifier cs;
  patt = span_of patt_identifier cs;
  smpl = span_of smpl_identifier cs;
  venv = span_of venv_identifier cs;
  penv = span_of penv_identifier cs;
}

-- M3, M9: version and revision are in the header, the five numbers in INFO's data.
abbrev pub layout_with : List ℕ → ChunkSpans → Layout
layout_with m p = record {
  version = byte_at m 4;
  revision = byte_at m 5;
  instruments = number16 m (p.info.at + 8);
  samples = number16 m (p.info.at + 10);
  songs = number16 m (p.info.at + 12);
  patterns = number16 m (p.info.at + 14);
  tracks = number16 m (p.info.at + 16);
  spans = p;
}

-- M7, document 01's "mandatory" chunks: INFO, SONG, INST, PATT and SMPL occur.
abbrev pub mandatory_there : List ChunkHeader → Bool
mandatory_there cs =
    occurs info_identifier cs
    && (occurs song_identifier cs && (occurs inst_identifier cs && (occurs patt_identifier cs && occurs smpl_identifier cs)))

-- F13: 8, after the chunks are read.
abbrev pub outline_of : List ℕ → Walk → Result Layout Refusal
outline_of m (stopped r) = Err r
outline_of m (complete cs) = cond (mandatory_there cs) (Ok (layout_with m (spans_of cs))) (Err (refusal Missing (length m)))

-- The refusal of a verdict, or the outline if it has none.
abbrev pub outline_if : Result ⊤ Refusal → Result Layout Refusal → Result Layout Refusal
outline_if (Ok _) o = o
outline_if (Err r) o = Err r

-- F11 to F13: 1, 2, 3; then chunk by chunk 4, 5, 4, 6, 7, 9, 10; then 8.
abbrev pub outline : List ℕ → Result Layout Refusal
outline m = outline_if (first_broken (header_rules m)) (outline_of m (chunks m))

-- A span in numbers: 1 if the chunk is present, else 0; the place of its header; the length of its data.
abbrev pub span_numbers : ChunkSpan → List ℕ
span_numbers p = cond p.present 1 0 ∷ p.at ∷ p.length ∷ []

-- A layout in numbers: version, revision, INFO's numbers, and the spans of the covered chunks in document 01's order.
abbrev pub layout_numbers : Layout → List ℕ
layout_numbers l =
    (l.version ∷ l.revision ∷ l.instruments ∷ l.samples ∷ l.songs ∷ l.patterns ∷ l.tracks ∷ [])
    ++ (span_numbers l.spans.name
    ++ (span_numbers l.spans.info
    ++ (span_numbers l.spans.song
    ++ (span_numbers l.spans.inst
    ++ (span_numbers l.spans.patt
    ++ (span_numbers l.spans.smpl
    ++ (span_numbers l.spans.venv
    ++ span_numbers l.spans.penv)))))))

-- An outline in numbers: a layout has 31 values.
abbrev pub outline_numbers : Result Layout Refusal → List ℕ
outline_numbers (Ok l) = accepted_numbers (layout_numbers l)
outline_numbers (Err r) = refused_numbers r 31
