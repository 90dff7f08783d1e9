-- FORMAT.md, G9 (document 02, K2, "Compare two modules"): what differs between two modules, by the answers of the queries alone. No place of
-- a block and no list of differences is used. The answers are those that the contracts of the queries cite.
use Rattle.std.specs.Prelude.{ℕ, ◌+◌, ◌-◌, ◌*◌, ◌<◌, ◌≤◌, ◌≡◌, List, [], ◌∷◌, get_or, replicate}
use Rattle.vocabulary.specs.Lists.{Every}
use Rattle.cells.specs.Cells.{cell_bytes}
use Rattle.differences.specs.Differences.{whole_difference}
use Rattle.differences.specs.declared.Difference.{Difference}
use Rattle.samples.specs.Shown.{sample_answer, frames_part}
use Rattle.envelopes.specs.Shown.{count_answer, envelope_answer}
use Rattle.envelopes.specs.declared.EnvelopeKind.{EnvelopeKind}
use Rattle.envelopes.specs.declared.EnvelopeKind.TheVariants.{Volume, Panning}
use Rattle.patterns.specs.Shown.{rows_answer, cells_output}
use Rattle.songs.specs.Shown.{song_answer, entry_answer}
use Rattle.summary.specs.Shown.{name_answer, info_answer}
use Rattle.summary.specs.declared.InfoAnswer.{InfoAnswer}
use Rattle.instruments.specs.Shown.{instrument_answer}

-- Q6: the numbers of INFO in the order of the fields 0 to 4.
abbrev pub info_numbers : InfoAnswer → List ℕ
info_numbers a = a.instruments ∷ a.samples ∷ a.songs ∷ a.patterns ∷ a.tracks ∷ []

-- Q7: both modules answer the same about a song: the same refusal, or the same name, length and entries.
pub record SameSong (m k : List ℕ) (number : ℕ) : Type 0 where
  pub song : song_answer m number ≡ song_answer k number
  pub entry : (entry : ℕ) → entry_answer m number entry ≡ entry_answer k number entry

-- Q11, Q12: both modules answer the same about a sample: the same refusal, or the same width, number of frames and frames.
pub record SameSample (m k : List ℕ) (number : ℕ) : Type 0 where
  pub sample : sample_answer m number ≡ sample_answer k number
  pub frames : frames_part m number ≡ frames_part k number

-- Q10: both modules have the pattern, or neither has it; and if they have it, with the same rows and the same tracks.
pub record SameSizes (m k : List ℕ) (number : ℕ) : Type 0 where
  pub rows : rows_answer m number ≡ rows_answer k number
  pub tracks : (rows_answer m number).outcome.number ≡ 0 → (info_answer m).tracks ≡ (info_answer k).tracks

-- Q10: a field of a cell, as the query for all cells of a pattern writes it to an output of zeros that is as long as needed.
abbrev pub shown_cells : List ℕ → ℕ → List ℕ
shown_cells m pattern = cells_output m pattern (replicate (cell_bytes (rows_answer m pattern).rows (info_answer m).tracks) 0)

abbrev pub shown_field : List ℕ → ℕ → ℕ → ℕ → ℕ → ℕ
shown_field m pattern row track field = get_or (shown_cells m pattern) (row * ((info_answer m).tracks * 6) + ((track - 1) * 6 + (field - 1))) 0

-- A field of a cell that both modules have: rows are counted from 0, tracks and fields from 1.
pub record FieldThere (m : List ℕ) (pattern row track field : ℕ) : Type 0 where
  pub found : (rows_answer m pattern).outcome.number ≡ 0
  pub row_most : row < (rows_answer m pattern).rows
  pub track_least : 1 ≤ track
  pub track_most : track ≤ (info_answer m).tracks
  pub field_least : 1 ≤ field
  pub field_most : field ≤ 6

-- What an entry of the list says: one case for each kind, two for patterns.
pub data Differs (m k : List ℕ) : Difference → Type 0 where
  name_differs : (name_answer m ≡ name_answer k → ⊥) → Differs m k (whole_difference 1 0)
  info_differs : (field : ℕ) → field < 5 → (get_or (info_numbers (info_answer m)) field 0 ≡ get_or (info_numbers (info_answer k)) field 0 → ⊥)
      → Differs m k (whole_difference 2 field)
  song_differs : (number : ℕ) → (SameSong m k number → ⊥) → Differs m k (whole_difference 3 number)
  instrument_differs : (number : ℕ) → (instrument_answer m number ≡ instrument_answer k number → ⊥) → Differs m k (whole_difference 4 number)
  volume_envelope_differs : (number : ℕ) → (envelope_answer m Volume number ≡ envelope_answer k Volume number → ⊥) → Differs m k (whole_difference 5 number)
  panning_envelope_differs : (number : ℕ) → (envelope_answer m Panning number ≡ envelope_answer k Panning number → ⊥) → Differs m k (whole_difference 6 number)
  sample_differs : (number : ℕ) → (SameSample m k number → ⊥) → Differs m k (whole_difference 7 number)
  pattern_differs : (number : ℕ) → (SameSizes m k number → ⊥) → Differs m k (whole_difference 8 number)
  cell_differs : (number row track field : ℕ) → SameSizes m k number → FieldThere m number row track field
      → (shown_field m number row track field ≡ shown_field k number row track field → ⊥)
      → Differs m k (record { kind = 8; number = number; row = row; track = track; field = field })

-- All these answers agree: nothing that is compared differs.
pub record AnswersAgree (m k : List ℕ) : Type 0 where
  pub name : name_answer m ≡ name_answer k
  pub info : info_answer m ≡ info_answer k
  pub song : (number : ℕ) → SameSong m k number
  pub instrument : (number : ℕ) → instrument_answer m number ≡ instrument_answer k number
  pub envelopes : (kind : EnvelopeKind) → count_answer m kind ≡ count_answer k kind
  pub envelope : (kind : EnvelopeKind) (number : ℕ) → envelope_answer m kind number ≡ envelope_answer k kind number
  pub sample : (number : ℕ) → SameSample m k number
  pub rows : (number : ℕ) → rows_answer m number ≡ rows_answer k number
  pub cells : (number : ℕ) (out : List ℕ) → cells_output m number out ≡ cells_output k number out

-- G2: an entry comes before another: by the five numbers in order, which is also by bytes.
pub data Before (d e : Difference) : Type 0 where
  kind : d.kind < e.kind → Before d e
  number : d.kind ≡ e.kind → d.number < e.number → Before d e
  row : d.kind ≡ e.kind → d.number ≡ e.number → d.row < e.row → Before d e
  track : d.kind ≡ e.kind → d.number ≡ e.number → d.row ≡ e.row → d.track < e.track → Before d e
  field : d.kind ≡ e.kind → d.number ≡ e.number → d.row ≡ e.row → d.track ≡ e.track → d.field < e.field → Before d e

-- G2: every entry comes before all that follow it. So no entry is listed twice.
pub data Ascending : List Difference → Type 0 where
  no_entries : Ascending []
  first_before : {d : Difference} {ds : List Difference} → Every (Before d) ds → Ascending ds → Ascending (d ∷ ds)

-- G1: every number of an entry fits 2 bytes.
pub record Fits (d : Difference) : Type 0 where
  pub kind : d.kind < 65536
  pub number : d.number < 65536
  pub row : d.row < 65536
  pub track : d.track < 65536
  pub field : d.field < 65536
