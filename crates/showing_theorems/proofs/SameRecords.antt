-- All records by one call: the number of records of each kind is the same, and the records for each number are those of blocks with the
-- same content.
use Prim.Native.Nat.{ℕ, ◌+◌}
use Rattle.std.specs.Prelude.{Result, Ok, Err}
use Rattle.refusal.specs.declared.Refusal.{Refusal}
use Rattle.queries.specs.declared.Block.{Block}
use mathlib.Core.Path.{◌≡◌, refl, sym, ap, ◌∙◌}
use mathlib.Core.List.{List, []}
use lib.ListN.{length}
use Rattle.vocabulary.specs.Lists.{joined}
use Rattle.refusal.specs.Lengths.{length_if, output_if}
use Rattle.numbers.specs.Numbers.{each_from, bytes16}
use Rattle.blocks.specs.RecordKinds.{count_of}
use Rattle.blocks.specs.declared.RecordKind.{RecordKind}
use Rattle.blocks.specs.declared.RecordKind.TheVariants.{Song, Instrument, Pattern, Sample, VolumeEnvelope, PanningEnvelope}
use Rattle.module.specs.Outputs.{answer_opened, output_opened}
use Rattle.queries.specs.Finding.{first_of, found}
use Rattle.envelopes.specs.declared.EnvelopeKind.TheVariants.{Volume, Panning}
use Rattle.songs.specs.Shown.{shown_song, playlist_bytes}
use Rattle.songs.specs.declared.SongAnswer.{SongAnswer}
use Rattle.records.specs.Records.{song_record, sample_record, instrument_record, envelope_record, summary_record, record_at}
use Rattle.records.specs.Records.{records_of, all_records, all_answer, all_output}
use Rattle.records.proofs.ByNumber.{records-numbered}
use Rattle.records.proofs.Reporting.{same-joint}
use Rattle.showing_theorems.proofs.Alike.{SameRecord, Alike}
use Rattle.showing_theorems.proofs.SameBytes.{each_same}
use Rattle.showing_theorems.proofs.SameSongs.{song-same, playlist-same}
use Rattle.showing_theorems.proofs.SameInstruments.{instrument-same}
use Rattle.showing_theorems.proofs.SameEnvelopes.{envelope-same}
use Rattle.showing_theorems.proofs.SameSamples.{sample-same}
use Rattle.showing_theorems.proofs.AlikeAnswers.{by-opening, by-finding}

-- The record of a block that was found.
abbrev record_if : List ℕ → RecordKind → Result Block Refusal → List ℕ
record_if m kind (Ok b) = record_at m b.version kind b.at
record_if m kind (Err r) = []

-- Blocks with the same content have the same record.
record_same : (m n : List ℕ) (kind : RecordKind) (tracks at to : ℕ) {version other : ℕ} → other ≡ version
    → SameRecord kind tracks m n at to
    → record_at n other kind to ≡ record_at m version kind at
unfolding record_at
record_same m n Song tracks at to v s =
    ap (λ (shown : SongAnswer). song_record shown (playlist_bytes n to)) (song-same s) ∙ ap (song_record (shown_song m at)) (playlist-same s)
record_same m n Instrument tracks at to v s = ap instrument_record (instrument-same s)
record_same m n Pattern tracks at to v s = ap bytes16 s.rows
record_same m n Sample tracks at to v s = ap sample_record (sample-same s)
record_same m n VolumeEnvelope tracks at to v s = ap envelope_record (envelope-same s Volume v)
record_same m n PanningEnvelope tracks at to v s = ap envelope_record (envelope-same s Panning v)

module _ {m n : List ℕ} (a : Alike m n) where
  -- The number of records of each kind is the same.
  same_count : (kind : RecordKind) → count_of n a.other kind ≡ count_of m a.layout kind
  same_count Song = a.songs
  same_count Instrument = a.instruments
  same_count Pattern = a.patterns
  same_count Sample = a.samples
  same_count VolumeEnvelope = a.volume_envelopes
  same_count PanningEnvelope = a.panning_envelopes

  same-record : (kind : RecordKind) (number : ℕ) → record_if n kind (found n kind number) ≡ record_if m kind (found m kind number)
  same-record kind number =
      by-finding a kind number (record_if m kind) (record_if n kind) (λ r. refl) (λ b c e v t s. record_same m n kind b.tracks b.at c.at v s)

  same_kind : (kind : RecordKind) → records_of n a.other kind ≡ records_of m a.layout kind
  same_kind kind =
      sym (records-numbered n a.other a.other_opens kind (record_if n kind) (λ b. refl))
      ∙ ap (λ (count : ℕ). joined (each_from (λ (number : ℕ). record_if n kind (found n kind number)) (first_of kind) count)) (same_count kind)
      ∙ ap joined (each_same (λ (number : ℕ). record_if n kind (found n kind number))
      (λ (number : ℕ). record_if m kind (found m kind number)) (count_of m a.layout kind) (first_of kind) (first_of kind)
      (λ i h. same-record kind (first_of kind + i)))
      ∙ records-numbered m a.layout a.opens kind (record_if m kind) (λ b. refl)

  same-summary : summary_record n a.other ≡ summary_record m a.layout
  same-summary =
      rw (a.version, a.revision, a.name, a.instruments, a.samples, a.songs, a.patterns, a.tracks, a.volume_envelopes, a.panning_envelopes) refl

  same-all : all_records n a.other ≡ all_records m a.layout
  same-all =
      same-joint same-summary (same_kind Song) (same_kind Instrument) (same_kind Pattern) (same_kind Sample)
      (same_kind VolumeEnvelope) (same_kind PanningEnvelope)

  pub same-records : (room : ℕ) → all_answer n room ≡ all_answer m room
  same-records room =
      by-opening a (answer_opened (all_records m) room) (answer_opened (all_records n) room)
      (ap (λ (all : List ℕ). length_if (length all) room) same-all)

  pub same-records-output : (out : List ℕ) → all_output n out ≡ all_output m out
  same-records-output out =
      by-opening a (output_opened (all_records m) out) (output_opened (all_records n) out)
      (ap (λ (all : List ℕ). output_if (length_if (length all) (length out)) all out) same-all)
