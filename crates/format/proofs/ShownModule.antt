-- The encoding of a well-formed description shows the description: the answer of every query is what the description says.
use Prim.Native.Nat.{ℕ, ◌+◌}
use Rattle.std.specs.Prelude.{Ok, Err}
use mathlib.Core.Path.{◌≡◌, refl, sym, ap, subst, ◌∙◌}
use mathlib.Core.Logic.{inl, inr}
use mathlib.Core.List.{List, map}
use mathlib.Core.Bool.{Bool, true, false, cond}
use lib.ListN.{length, replicate}
use Rattle.refusal.specs.Numbers.{no_refusal}
use Rattle.refusal.specs.Lengths.{refused_length, length_answer}
use Rattle.numbers.specs.Numbers.{byte_at, number16, part_of, bytes_from}
use Rattle.packed_rows.specs.Answers.{cell_of, unpack_answer as stream_answer, unpack_output as stream_output}
use Rattle.layout.specs.declared.Layout.{Layout}
use Rattle.blocks.specs.StoredFields.{packed_bytes}
use Rattle.module.specs.Verdicts.{opened}
use Rattle.queries.specs.Finding.{answer_found, output_found}
use Rattle.acceptance.proofs.Spans.{LayoutOf}
use Rattle.acceptance.proofs.Locating.{PartAt}
use Rattle.acceptance.proofs.BlockStreams.{TracksFit}
use Rattle.samples.specs.Shown.{sample_if, frames_if, frame_if, all_frames_size, all_frames}
use Rattle.envelopes.specs.Shown.{record_kind, count_if, count_answer, no_envelope, shown_envelope, envelope_if, envelope_answer}
use Rattle.envelopes.specs.declared.EnvelopeKind.{EnvelopeKind}
use Rattle.envelopes.specs.declared.EnvelopeKind.TheVariants.{Volume, Panning}
use Rattle.patterns.specs.Shown.{rows_if, cell_if, cell_answer, cells_if, cells_answer, cells_output_if, cells_output}
use Rattle.songs.specs.Shown.{song_if, entry_if, playlist_size, playlist_bytes}
use Rattle.summary.specs.Shown.{version_if, version_answer, name_if, name_answer, info_if, info_answer}
use Rattle.instruments.specs.Shown.{instrument_if}
use Rattle.format.specs.Description.{Info, Pattern, Sample, Envelope, NAME, INFO, PATT, SMPL, Description}
use Rattle.format.specs.Encoding.{envelope_bytes, chunk_bytes, header_bytes, encoded}
use Rattle.format.specs.WellFormed.{In, EnvelopeFits, WellFormed, empty_sample}
use Rattle.format.specs.Shown.{not_there, listed, described_version, HasName, described_name, described_info, empty_song, described_song}
use Rattle.format.specs.Shown.{described_entry, playlist_length, playlist_written, empty_instrument, described_instrument}
use Rattle.format.specs.Shown.{Envelopes, described_count, empty_envelope, described_envelope, empty_pattern, of_pattern}
use Rattle.format.specs.Shown.{described_rows, described_cell, cells_length, cells_written, described_sample, stored_frames}
use Rattle.format.specs.Shown.{described_frame, frames_length, frames_written, ShowsFrames, Shows}
use Rattle.format.proofs.EncodedModule.{in-among, content-there}
use Rattle.format.proofs.Placed.{Listed, by_number, encoded-opens, info-numbers}
use Rattle.format.proofs.PlacedModule.{ValuesFit, songs-listed, instruments-listed, info-same, patterns-listed}
use Rattle.format.proofs.PlacedModule.{samples-listed, name-missing, envelopes-listed}
use Rattle.format.proofs.ShownBlocks.{bytes-at}
use Rattle.format.proofs.ShownSongs.{song-shown, entry-shown, playlist-shown, playlist-written}
use Rattle.format.proofs.ShownInstruments.{instrument-shown}
use Rattle.format.proofs.ShownEnvelopes.{envelope-shown}
use Rattle.format.proofs.ShownPatterns.{rows-shown, cell-shown, cells-shown, cells-written}
use Rattle.format.proofs.ShownSamples.{sample-shown, frames-length, frames-shown, frame-shown, all-frames-shown, all-frames-written}

module _ (d : Description) (w : WellFormed d) {l : Layout} (opens : opened (encoded d) ≡ Ok l)
    (layout : LayoutOf (encoded d) (header_bytes d) (map chunk_bytes d.chunks) l) where
  -- Q4 to Q6: version and revision, the name, and the five numbers of INFO.
  version-same : l.version ≡ d.version
  unfolding byte_at
  version-same = layout.version

  version-shown : version_answer (encoded d) ≡ described_version d
  unfolding byte_at
  version-shown = ap version_if opens ∙ rw (layout.version, layout.revision)

  name_by : (there : Bool) → l.spans.name.present ≡ there
      → name_answer (encoded d) ≡ described_name (cond there (bytes_from (encoded d) (l.spans.name.at + 8) 44) (replicate 44 0))
  name_by there e =
      ap (name_if (encoded d)) opens
      ∙ ap (λ (b : Bool). described_name (cond b (bytes_from (encoded d) (l.spans.name.at + 8) 44) (replicate 44 0))) e

  name-shown : (name : List ℕ) → HasName d.chunks name → name_answer (encoded d) ≡ described_name name
  name-shown name (inl i) =
      let holds = layout.name.holds (chunk_bytes (NAME name)) (in-among d.chunks (NAME name) i refl) in
      let part : PartAt (encoded d) (l.spans.name.at + 8) name = content-there d.chunks (NAME name) i refl layout.name in
      name_by true holds.there ∙ ap described_name (bytes-at part 44 (w.name name i).0)
  name-shown name (inr (e, lacks)) = name_by false (name-missing d w layout lacks) ∙ ap described_name (sym e)

  info-shown : (info : Info) → In d.chunks (INFO info) → info_answer (encoded d) ≡ described_info info
  info-shown info i =
      let numbers = info-numbers d w layout info i in
      ap info_if opens ∙ rw (numbers.0, numbers.1, numbers.2, numbers.3, numbers.4)

  -- Q9: the number of envelopes.
  count-shown : (kind : EnvelopeKind) (es : List Envelope) → Envelopes d.chunks kind es → count_answer (encoded d) kind ≡ described_count es
  count-shown Volume es e = ap (count_if (encoded d) Volume) opens ∙ rw (envelopes-listed d w layout Volume es e).count
  count-shown Panning es e = ap (count_if (encoded d) Panning) opens ∙ rw (envelopes-listed d w layout Panning es e).count

  envelope-at : (kind : EnvelopeKind) (es : List Envelope) → Envelopes d.chunks kind es → (number : ℕ)
      → envelope_answer (encoded d) kind number ≡ listed (described_envelope kind d.version) (no_envelope not_there) empty_envelope 0 es number
  envelope-at kind es e = go kind (envelopes-listed d w layout kind es e)
    where
      shown : (kind : EnvelopeKind) (x : Envelope) → EnvelopeFits (length w.instruments) (ValuesFit kind d.version) x
          → (at : ℕ) → PartAt (encoded d) at (envelope_bytes x)
          → shown_envelope (encoded d) kind l.version at ≡ described_envelope kind d.version x
      shown kind x f at p = ap (λ (version : ℕ). shown_envelope (encoded d) kind version at) version-same ∙ envelope-shown x f p kind d.version

      go : (kind : EnvelopeKind)
          → Listed (encoded d) l (record_kind kind) envelope_bytes (EnvelopeFits (length w.instruments) (ValuesFit kind d.version)) es
          → (number : ℕ)
          → envelope_answer (encoded d) kind number ≡ listed (described_envelope kind d.version) (no_envelope not_there) empty_envelope 0 es number
      go Volume s = by_number opens s (envelope_if (encoded d) Volume) (described_envelope Volume d.version) empty_envelope (shown Volume)
      go Panning s = by_number opens s (envelope_if (encoded d) Panning) (described_envelope Panning d.version) empty_envelope (shown Panning)

  -- Q10: the cells of a pattern, with INFO's tracks.
  module _ (info : Info) (patterns : List Pattern) (j : In d.chunks (INFO info)) (i : In d.chunks (PATT patterns)) (number : ℕ) where
    tracks-fit : TracksFit info.tracks
    tracks-fit = subst (λ (info : Info). TracksFit info.tracks) (info-same d w layout info j) w.lists.info_fits.tracks

    tracks_same : l.tracks ≡ info.tracks
    tracks_same = (info-numbers d w layout info j).4

    cell_at : (row track : ℕ) → cell_answer (encoded d) number row track ≡ of_pattern (described_cell info.tracks row track) (Err not_there) patterns number
    cell_at row track =
        by_number opens (patterns-listed d w layout info patterns j i) (cell_if (encoded d) row track) (described_cell info.tracks row track) empty_pattern
        (λ x f at p.
        ap (λ (tracks : ℕ). cell_of (packed_bytes (encoded d) at) (number16 (encoded d) at) tracks row track) tracks_same
        ∙ cell-shown x f p tracks-fit row track) number

    cells_at : (room : ℕ) → cells_answer (encoded d) number room ≡ of_pattern (cells_length info.tracks room) (refused_length not_there) patterns number
    cells_at room =
        by_number opens (patterns-listed d w layout info patterns j i) (cells_if (encoded d) room) (cells_length info.tracks room) empty_pattern
        (λ x f at p.
        ap (λ (tracks : ℕ). length_answer (stream_answer (packed_bytes (encoded d) at) (number16 (encoded d) at) tracks room)) tracks_same
        ∙ cells-shown x f p tracks-fit room) number

    cells-out : (out : List ℕ) → cells_output (encoded d) number out ≡ of_pattern (cells_written info.tracks out) out patterns number
    cells-out out =
        by_number opens (patterns-listed d w layout info patterns j i) (cells_output_if (encoded d) out) (cells_written info.tracks out) empty_pattern
        (λ x f at p.
        ap (λ (tracks : ℕ). stream_output (packed_bytes (encoded d) at) (number16 (encoded d) at) tracks out) tracks_same
        ∙ cells-written x f p tracks-fit out) number

  -- Q12: the frames of a sample as a part of the module.
  frames-at : (samples : List Sample) → In d.chunks (SMPL samples) → (number : ℕ) → ShowsFrames (encoded d) samples number
  frames-at samples i number =
      let s = samples-listed d w layout samples i in
      record {
        outcome = by_number opens s (λ f. (frames_if (encoded d) f).outcome) (λ x. no_refusal) empty_sample (λ x f at p. refl) number;
        length = by_number opens s (λ f. (frames_if (encoded d) f).length) (λ x. length (stored_frames x)) empty_sample (λ x f at p. frames-length x p) number;
        bytes = by_number opens s (λ f. part_of (encoded d) (frames_if (encoded d) f).offset (frames_if (encoded d) f).length)
            stored_frames empty_sample (λ x f at p. frames-shown x p) number;
      }

  shows : Shows (encoded d) d
  shows = record {
    version = version-shown;
    name = name-shown;
    info = info-shown;
    song = λ songs i. by_number opens (songs-listed d w layout songs i) (song_if (encoded d)) described_song empty_song (λ x f at p. song-shown x f p);
    entry = λ songs i number entry.
        by_number opens (songs-listed d w layout songs i) (entry_if (encoded d) entry) (described_entry entry) empty_song
        (λ x f at p. entry-shown x f p entry) number;
    playlist = λ songs i number room.
        by_number opens (songs-listed d w layout songs i) (answer_found (playlist_size (encoded d)) room) (playlist_length room)
        empty_song (λ x f at p. playlist-shown x f p room) number;
    playlist_out = λ songs i number out.
        by_number opens (songs-listed d w layout songs i)
        (output_found (playlist_size (encoded d)) (playlist_bytes (encoded d)) out) (playlist_written out) empty_song
        (λ x f at p. playlist-written x f p out) number;
    instrument = λ instruments i.
        by_number opens (instruments-listed d w layout instruments i) (instrument_if (encoded d)) described_instrument
        empty_instrument (λ x f at p. instrument-shown x f p);
    envelopes = count-shown;
    envelope = envelope-at;
    rows = λ patterns i.
        by_number opens (patterns-listed d w layout w.info patterns w.info_there i) (rows_if (encoded d)) described_rows
        empty_pattern (λ x f at p. rw (rows-shown x f p));
    cell = cell_at;
    cells = cells_at;
    cells_out = cells-out;
    sample = λ samples i.
        by_number opens (samples-listed d w layout samples i) (sample_if (encoded d)) described_sample empty_sample
        (λ x f at p. sample-shown x p);
    frames = frames-at;
    frame = λ samples i number frame.
        by_number opens (samples-listed d w layout samples i) (frame_if (encoded d) frame) (described_frame frame) empty_sample
        (λ x f at p. frame-shown x p frame) number;
    all_frames = λ samples i number room.
        by_number opens (samples-listed d w layout samples i) (answer_found (all_frames_size (encoded d)) room)
        (frames_length room) empty_sample (λ x f at p. all-frames-shown x p room) number;
    all_frames_out = λ samples i number out.
        by_number opens (samples-listed d w layout samples i)
        (output_found (all_frames_size (encoded d)) (all_frames (encoded d)) out) (frames_written out) empty_sample
        (λ x f at p. all-frames-written x p out) number;
  }

pub encoding-shows : (d : Description) → WellFormed d → Shows (encoded d) d
encoding-shows d w = let (l, opens, layout) = encoded-opens d w in shows d w opens layout
