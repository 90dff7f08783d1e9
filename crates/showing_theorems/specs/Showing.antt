-- FORMAT.md, Q1 to Q16: two modules show the same if every query gives the same answer for both, including refusals, and leaves the same
-- lent output. The answers are those that the contracts of the queries cite.
use Rattle.std.specs.Prelude.{ℕ, ◌≡◌, List}
use Rattle.samples.specs.Shown.{sample_answer, frames_answer, frames_part, frame_answer, all_frames_answer, all_frames_output}
use Rattle.envelopes.specs.Shown.{count_answer, envelope_answer}
use Rattle.envelopes.specs.declared.EnvelopeKind.{EnvelopeKind}
use Rattle.patterns.specs.Shown.{rows_answer, cell_answer, cells_answer, cells_output}
use Rattle.songs.specs.Shown.{song_answer, entry_answer, playlist_answer, playlist_output}
use Rattle.summary.specs.Shown.{version_answer, name_answer, info_answer}
use Rattle.instruments.specs.Shown.{instrument_answer}
use Rattle.records.specs.Records.{all_answer, all_output}

-- Q12: the frames of a sample as a part of each module: the same refusal, the same length and the same bytes. The answer's offset is not
-- compared: it is the place of the part in its module, and may differ.
pub record SameFrames (m n : List ℕ) (sample : ℕ) : Type 0 where
  pub outcome : (frames_answer n sample).outcome ≡ (frames_answer m sample).outcome
  pub length : (frames_answer n sample).length ≡ (frames_answer m sample).length
  pub bytes : frames_part n sample ≡ frames_part m sample

-- The second module shows what the first shows. A query that fills a lent output has two fields: the answer, for every room, and the
-- output afterwards, for every output (F8).
-- Q4: version. Q5: name. Q6: info. Q7: song, entry, playlist. Q8: instrument. Q9: envelopes (the number of a kind), and envelope.
-- Q10: rows, cell, cells. Q11: sample. Q12: frames. Q13: frame, all_frames. Q16: records.
pub record ShowsSame (m n : List ℕ) : Type 0 where
  pub version : version_answer n ≡ version_answer m
  pub name : name_answer n ≡ name_answer m
  pub info : info_answer n ≡ info_answer m
  pub song : (song : ℕ) → song_answer n song ≡ song_answer m song
  pub entry : (song entry : ℕ) → entry_answer n song entry ≡ entry_answer m song entry
  pub playlist : (song room : ℕ) → playlist_answer n song room ≡ playlist_answer m song room
  pub playlist_written : (song : ℕ) (out : List ℕ) → playlist_output n song out ≡ playlist_output m song out
  pub instrument : (instrument : ℕ) → instrument_answer n instrument ≡ instrument_answer m instrument
  pub envelopes : (kind : EnvelopeKind) → count_answer n kind ≡ count_answer m kind
  pub envelope : (kind : EnvelopeKind) (envelope : ℕ) → envelope_answer n kind envelope ≡ envelope_answer m kind envelope
  pub rows : (pattern : ℕ) → rows_answer n pattern ≡ rows_answer m pattern
  pub cell : (pattern row track : ℕ) → cell_answer n pattern row track ≡ cell_answer m pattern row track
  pub cells : (pattern room : ℕ) → cells_answer n pattern room ≡ cells_answer m pattern room
  pub cells_written : (pattern : ℕ) (out : List ℕ) → cells_output n pattern out ≡ cells_output m pattern out
  pub sample : (sample : ℕ) → sample_answer n sample ≡ sample_answer m sample
  pub frames : (sample : ℕ) → SameFrames m n sample
  pub frame : (sample frame : ℕ) → frame_answer n sample frame ≡ frame_answer m sample frame
  pub all_frames : (sample room : ℕ) → all_frames_answer n sample room ≡ all_frames_answer m sample room
  pub all_frames_written : (sample : ℕ) (out : List ℕ) → all_frames_output n sample out ≡ all_frames_output m sample out
  pub records : (room : ℕ) → all_answer n room ≡ all_answer m room
  pub records_written : (out : List ℕ) → all_output n out ≡ all_output m out
