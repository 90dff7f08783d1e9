-- FORMAT.md, D6: what the queries show of a description. The answers are those that the contracts of the queries cite. Each begins with the
-- refusal's number and place, 0 and 0 if there is none.
use Rattle.std.specs.Prelude.{ℕ, ◌-◌, ◌*◌, ◌≡◌, ◌⊎◌, List, [], map, cond, ◌&&◌, length, get_or, replicate, leb, ltb, ℤ, pos, ◌*ℤ◌, Result, Ok, Err}
use Rattle.cells.specs.declared.Cell.{Cell}
use Rattle.vocabulary.specs.Lists.{joined}
use Rattle.refusal.specs.Numbers.{refusal, no_refusal, refused_outcome}
use Rattle.refusal.specs.declared.Reason.TheVariants.{NotThere}
use Rattle.refusal.specs.declared.Refusal.{Refusal}
use Rattle.refusal.specs.Lengths.{refused_length, length_if, output_if}
use Rattle.refusal.specs.declared.LengthAnswer.{LengthAnswer}
use Rattle.cells.specs.Cells.{cell_bytes, bytes_of, empty_cell}
use Rattle.cells.specs.Shown.{shown_cell}
use Rattle.numbers.specs.Numbers.{signed_by, signed16, each_from, bytes16, unsigned16}
use Rattle.packed_rows.specs.Entries.{rows_from}
use Rattle.packed_rows.specs.Answers.{cell_there}
use Rattle.samples.specs.Shown.{no_sample, sample_answer, frames_answer, frames_part, divided_down, no_frame, frame_answer}
use Rattle.samples.specs.Shown.{all_frames_answer, all_frames_output}
use Rattle.samples.specs.declared.SampleAnswer.{SampleAnswer}
use Rattle.samples.specs.declared.FrameAnswer.{FrameAnswer}
use Rattle.envelopes.specs.Shown.{count_answer, value_of, no_envelope, envelope_answer}
use Rattle.envelopes.specs.declared.CountAnswer.{CountAnswer}
use Rattle.envelopes.specs.declared.EnvelopeAnswer.{EnvelopeAnswer}
use Rattle.envelopes.specs.declared.EnvelopeKind.{EnvelopeKind}
use Rattle.envelopes.specs.declared.EnvelopeKind.TheVariants.{Volume, Panning}
use Rattle.patterns.specs.Shown.{no_rows, rows_answer, cell_answer, cells_answer, cells_output}
use Rattle.patterns.specs.declared.RowsAnswer.{RowsAnswer}
use Rattle.songs.specs.Shown.{no_song, song_answer, no_entry, entry_answer, playlist_answer, playlist_output}
use Rattle.songs.specs.declared.SongAnswer.{SongAnswer}
use Rattle.songs.specs.declared.EntryAnswer.{EntryAnswer}
use Rattle.summary.specs.Shown.{version_answer, name_answer, info_answer}
use Rattle.summary.specs.declared.VersionAnswer.{VersionAnswer}
use Rattle.summary.specs.declared.NameAnswer.{NameAnswer}
use Rattle.summary.specs.declared.InfoAnswer.{InfoAnswer}
use Rattle.instruments.specs.Shown.{no_instrument, instrument_answer}
use Rattle.instruments.specs.declared.InstrumentAnswer.{InstrumentAnswer}
use Rattle.format.specs.Description.{Info, Song, Instrument, Pattern, Width, eight, sixteen, thirty_two, Sample}
use Rattle.format.specs.Description.{Envelope, Chunk, NAME, INFO, SONG, INST, PATT, SMPL, VENV, PENV, Description}
use Rattle.format.specs.Encoding.{flags_of, frame_bytes}
use Rattle.format.specs.WellFormed.{empty_sample, no_point, In}

-- Q1: refusal 18.
abbrev pub not_there : Refusal
not_there = refusal NotThere 0

-- Q1, Q2: the answer for the element of a list with this number, counted from `first`: what is shown of it, or `refused` if there is none.
abbrev pub listed : {A R : Type 0} → (A → R) → R → A → ℕ → List A → ℕ → R
listed show refused other first xs number =
    cond (leb first number && ltb (number - first) (length xs)) (show (get_or xs (number - first) other)) refused

-- Q4: the version byte and the revision byte.
abbrev pub described_version : Description → VersionAnswer
described_version d = record { outcome = no_refusal; version = d.version; revision = d.revision }

-- Q5: the name, and 44 zeros if there is none.
abbrev pub HasName : List Chunk → List ℕ → Type 0
HasName chunks name = In chunks (NAME name) ⊎ ((name ≡ replicate 44 0) × ((other : List ℕ) → In chunks (NAME other) → ⊥))

abbrev pub described_name : List ℕ → NameAnswer
described_name name = record { outcome = no_refusal; name = name }

-- Q6: the five numbers of INFO.
abbrev pub described_info : Info → InfoAnswer
described_info i = record {
  outcome = no_refusal;
  instruments = i.instruments;
  samples = i.samples;
  songs = i.songs;
  patterns = i.patterns;
  tracks = i.tracks;
}

-- Q7: a song, an entry of its playlist, and the playlist.
abbrev pub empty_song : Song
empty_song = record { name = []; playlist = [] }

abbrev pub of_song : {R : Type 0} → (Song → R) → R → List Song → ℕ → R
of_song show refused songs number = listed show refused empty_song 0 songs number

abbrev pub described_song : Song → SongAnswer
described_song s = record { outcome = no_refusal; name = s.name; length = length s.playlist }

abbrev pub described_entry : ℕ → Song → EntryAnswer
described_entry entry s = cond (ltb entry (length s.playlist)) (record { outcome = no_refusal; pattern = get_or s.playlist entry 0 }) (no_entry not_there)

abbrev pub playlist_length : ℕ → Song → LengthAnswer
playlist_length room s = length_if (2 * length s.playlist) room

abbrev pub playlist_written : List ℕ → Song → List ℕ
playlist_written out s = output_if (playlist_length (length out) s) (joined (map bytes16 s.playlist)) out

-- Q8: panning is signed, and in version 2 it is not scaled.
abbrev pub empty_instrument : Instrument
empty_instrument = record { name = []; sample = 0; volume = 0; rate = 0; loop_start = 0; loop_length = 0; panning = 0; flags = 0 }

abbrev pub described_instrument : Instrument → InstrumentAnswer
described_instrument i = record {
  outcome = no_refusal;
  name = i.name;
  sample = i.sample;
  volume = i.volume;
  panning = signed16 i.panning;
  flags = i.flags;
  rate = i.rate;
  loop_start = i.loop_start;
  loop_length = i.loop_length;
}

-- Q9: the envelopes of a kind, none if their chunk is missing.
abbrev pub envelope_chunk : EnvelopeKind → List Envelope → Chunk
envelope_chunk Volume es = VENV es
envelope_chunk Panning es = PENV es

abbrev pub Envelopes : List Chunk → EnvelopeKind → List Envelope → Type 0
Envelopes chunks kind es = In chunks (envelope_chunk kind es) ⊎ ((es ≡ []) × ((others : List Envelope) → In chunks (envelope_chunk kind others) → ⊥))

abbrev pub described_count : List Envelope → CountAnswer
described_count es = record { outcome = no_refusal; count = length es }

abbrev pub empty_envelope : Envelope
empty_envelope = record { instrument = 0; flags = 0; sections = 0; first_sustain = 0; loop_first = 0; loop_last = 0; second_sustain = 0; points = [] }

-- Q9: the points in use are sections + 1, so the last of them has the number of the sections; the others are zeros. A value is given by
-- `value_of`: in version 2 a panning value v is 4v − 128.
abbrev pub described_envelope : EnvelopeKind → ℕ → Envelope → EnvelopeAnswer
described_envelope kind version e = record {
  outcome = no_refusal;
  instrument = e.instrument;
  flags = e.flags;
  sections = e.sections;
  first_sustain = e.first_sustain;
  loop_first = e.loop_first;
  loop_last = e.loop_last;
  second_sustain = e.second_sustain;
  positions = each_from (λ point. cond (leb point e.sections) (get_or e.points point no_point).position 0) 0 32;
  values = each_from (λ point. cond (leb point e.sections) (value_of kind version (get_or e.points point no_point).value) (pos 0)) 0 32;
}

-- Q10: a pattern by its rows and its cells. The cells are computed from the entries (R5, R6).
abbrev pub empty_pattern : Pattern
empty_pattern = record { rows = []; filler = [] }

abbrev pub of_pattern : {R : Type 0} → (Pattern → R) → R → List Pattern → ℕ → R
of_pattern show refused patterns number = listed show refused empty_pattern 0 patterns number

abbrev pub described_rows : Pattern → RowsAnswer
described_rows p = record { outcome = no_refusal; rows = length p.rows }

abbrev pub described_cell : ℕ → ℕ → ℕ → Pattern → Result Cell Refusal
described_cell tracks row track p =
    cond (cell_there (length p.rows) tracks row track)
    (Ok (shown_cell (get_or (get_or (rows_from tracks p.rows) row []) (track - 1) empty_cell)))
    (Err not_there)

abbrev pub cells_length : ℕ → ℕ → Pattern → LengthAnswer
cells_length tracks room p = length_if (cell_bytes (length p.rows) tracks) room

abbrev pub cells_written : ℕ → List ℕ → Pattern → List ℕ
cells_written tracks out p = output_if (cells_length tracks (length out) p) (bytes_of (rows_from tracks p.rows)) out

-- Q11 to Q13: a sample, its frames as stored, and its frames at 16 bits.
abbrev pub of_sample : {R : Type 0} → (Sample → R) → R → List Sample → ℕ → R
of_sample show refused samples number = listed show refused empty_sample 1 samples number

abbrev pub described_sample : Sample → SampleAnswer
described_sample s = record { outcome = no_refusal; width = 8 * flags_of s.width; frames = length s.frames }

abbrev pub stored_frames : Sample → List ℕ
stored_frames s = joined (map (frame_bytes s.width) s.frames)

abbrev pub at_16_bits : Width → ℕ → ℤ
at_16_bits eight f = signed_by 128 f *ℤ pos 256
at_16_bits sixteen f = signed16 f
at_16_bits thirty_two f = divided_down (signed_by 2147483648 f)

abbrev pub described_frame : ℕ → Sample → FrameAnswer
described_frame frame s =
    cond (ltb frame (length s.frames))
    (record { outcome = no_refusal; frame = at_16_bits s.width (get_or s.frames frame 0) })
    (no_frame not_there)

abbrev pub frames_length : ℕ → Sample → LengthAnswer
frames_length room s = length_if (2 * length s.frames) room

abbrev pub frames_written : List ℕ → Sample → List ℕ
frames_written out s = output_if (frames_length (length out) s) (joined (map (λ f. bytes16 (unsigned16 (at_16_bits s.width f))) s.frames)) out

-- Q12: the frames as a part of the module: the refusal or none, the length, and the bytes. The place of the part depends on the module and
-- is not stated here.
pub record ShowsFrames (m : List ℕ) (samples : List Sample) (sample : ℕ) : Type 0 where
  pub outcome : (frames_answer m sample).outcome ≡ of_sample (λ s. no_refusal) (refused_outcome not_there) samples sample
  pub length : (frames_answer m sample).length ≡ of_sample (λ s. length (stored_frames s)) 0 samples sample
  pub bytes : frames_part m sample ≡ of_sample stored_frames [] samples sample

-- A module shows what a description says, for every query.
pub record Shows (m : List ℕ) (d : Description) : Type 0 where
  pub version : version_answer m ≡ described_version d
  pub name : (name : List ℕ) → HasName d.chunks name → name_answer m ≡ described_name name
  pub info : (info : Info) → In d.chunks (INFO info) → info_answer m ≡ described_info info
  pub song : (songs : List Song) → In d.chunks (SONG songs) → (number : ℕ) → song_answer m number ≡ of_song described_song (no_song not_there) songs number
  pub entry : (songs : List Song) → In d.chunks (SONG songs) → (number entry : ℕ)
      → entry_answer m number entry ≡ of_song (described_entry entry) (no_entry not_there) songs number
  pub playlist : (songs : List Song) → In d.chunks (SONG songs) → (number room : ℕ)
      → playlist_answer m number room ≡ of_song (playlist_length room) (refused_length not_there) songs number
  pub playlist_out : (songs : List Song) → In d.chunks (SONG songs) → (number : ℕ) (out : List ℕ)
      → playlist_output m number out ≡ of_song (playlist_written out) out songs number
  pub instrument : (instruments : List Instrument) → In d.chunks (INST instruments) → (number : ℕ)
      → instrument_answer m number ≡ listed described_instrument (no_instrument not_there) empty_instrument 1 instruments number
  pub envelopes : (kind : EnvelopeKind) (es : List Envelope) → Envelopes d.chunks kind es → count_answer m kind ≡ described_count es
  pub envelope : (kind : EnvelopeKind) (es : List Envelope) → Envelopes d.chunks kind es → (number : ℕ)
      → envelope_answer m kind number ≡ listed (described_envelope kind d.version) (no_envelope not_there) empty_envelope 0 es number
  pub rows : (patterns : List Pattern) → In d.chunks (PATT patterns) → (number : ℕ)
      → rows_answer m number ≡ of_pattern described_rows (no_rows not_there) patterns number
  pub cell : (info : Info) (patterns : List Pattern) → In d.chunks (INFO info) → In d.chunks (PATT patterns)
      → (number row track : ℕ)
      → cell_answer m number row track ≡ of_pattern (described_cell info.tracks row track) (Err not_there) patterns number
  pub cells : (info : Info) (patterns : List Pattern) → In d.chunks (INFO info) → In d.chunks (PATT patterns)
      → (number room : ℕ)
      → cells_answer m number room ≡ of_pattern (cells_length info.tracks room) (refused_length not_there) patterns number
  pub cells_out : (info : Info) (patterns : List Pattern) → In d.chunks (INFO info) → In d.chunks (PATT patterns)
      → (number : ℕ) (out : List ℕ)
      → cells_output m number out ≡ of_pattern (cells_written info.tracks out) out patterns number
  pub sample : (samples : List Sample) → In d.chunks (SMPL samples) → (number : ℕ)
      → sample_answer m number ≡ of_sample described_sample (no_sample not_there) samples number
  pub frames : (samples : List Sample) → In d.chunks (SMPL samples) → (number : ℕ) → ShowsFrames m samples number
  pub frame : (samples : List Sample) → In d.chunks (SMPL samples) → (number frame : ℕ)
      → frame_answer m number frame ≡ of_sample (described_frame frame) (no_frame not_there) samples number
  pub all_frames : (samples : List Sample) → In d.chunks (SMPL samples) → (number room : ℕ)
      → all_frames_answer m number room ≡ of_sample (frames_length room) (refused_length not_there) samples number
  pub all_frames_out : (samples : List Sample) → In d.chunks (SMPL samples) → (number : ℕ) (out : List ℕ)
      → all_frames_output m number out ≡ of_sample (frames_written out) out samples number
