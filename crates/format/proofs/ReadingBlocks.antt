-- The encoding of a block: each field at its offset, and the length of the block.
use Prim.Native.Nat.{ℕ, ◌+◌, ◌*◌, ◌<◌}
use mathlib.Core.Path.{◌≡◌, refl, ap, ◌∙◌}
use mathlib.Core.List.{List, map}
use native.Mathlib.Omega.{arith}
use lib.ListN.{length, get_or, take, drop, length-append}
use lib.Seq.{take-append_seam}
use Rattle.vocabulary.specs.Lists.{joined}
use Rattle.numbers.specs.Numbers.{byte_at, number16, number32, bytes16}
use Rattle.numbers.proofs.Stored.{bytes16-again, bytes32-again}
use Rattle.packed_rows.specs.Entries.{stream_of}
use Rattle.acceptance.proofs.Locating.{PartAt, number16-at, number16-start, part-of-part}
use Rattle.format.specs.Description.{Info, Song, Instrument, Pattern, Width, eight, sixteen, thirty_two, Sample, Envelope}
use Rattle.format.specs.Encoding.{info_bytes, song_bytes, instrument_bytes, pattern_bytes, flags_of, frame_bytes, sample_bytes, point_bytes, envelope_bytes}
use Rattle.format.specs.WellFormed.{no_point}
use Rattle.format.proofs.Stored.{number16-past, number32-past, part-past, pieces-size, piece-at}

pub record InfoRead (i : Info) : Type 0 where
  pub instruments : number16 (info_bytes i) 0 ≡ i.instruments
  pub samples : number16 (info_bytes i) 2 ≡ i.samples
  pub songs : number16 (info_bytes i) 4 ≡ i.songs
  pub patterns : number16 (info_bytes i) 6 ≡ i.patterns
  pub tracks : number16 (info_bytes i) 8 ≡ i.tracks

pub info-read : (i : Info) → InfoRead i
unfolding byte_at number16
info-read i = record {
  instruments = bytes16-again i.instruments;
  samples = bytes16-again i.samples;
  songs = bytes16-again i.songs;
  patterns = bytes16-again i.patterns;
  tracks = bytes16-again i.tracks;
}

module _ (s : Song) (name : length s.name ≡ 44) where
  pub song-size : length (song_bytes s) ≡ 46 + 2 * length s.playlist
  song-size = length-append s.name _ ∙ omega (arith, name, pieces-size bytes16 2 (λ x. refl) s.playlist)

  pub song-length : number16 (song_bytes s) 44 ≡ length s.playlist
  unfolding byte_at number16
  song-length = number16-past s.name _ 44 name 0 ∙ bytes16-again (length s.playlist)

  pub entries-there : PartAt (song_bytes s) 46 (joined (map bytes16 s.playlist))
  entries-there =
      part-of-part (part-past s.name _ 44 name) (part-past (bytes16 (length s.playlist)) (joined (map bytes16 s.playlist)) 2 refl)

  pub song-entry : (i : ℕ) → i < length s.playlist → number16 (song_bytes s) (46 + 2 * i) ≡ get_or s.playlist i 0
  song-entry i h =
      ap (number16 (song_bytes s)) (omega arith)
      ∙ number16-start (piece-at bytes16 2 (λ x. refl) s.playlist i 0 h entries-there) (omega arith)
      ∙ bytes16-again (get_or s.playlist i 0)

module _ (i : Instrument) (name : length i.name ≡ 30) where
  pub instrument-size : length (instrument_bytes i) ≡ 50
  instrument-size = length-append i.name _ ∙ omega (arith, name)

  pub instrument-sample : number16 (instrument_bytes i) 30 ≡ i.sample
  unfolding byte_at number16
  instrument-sample = number16-past i.name _ 30 name 0 ∙ bytes16-again i.sample

  pub instrument-volume : number16 (instrument_bytes i) 32 ≡ i.volume
  unfolding byte_at number16
  instrument-volume = number16-past i.name _ 30 name 2 ∙ bytes16-again i.volume

  pub instrument-rate : number32 (instrument_bytes i) 34 ≡ i.rate
  unfolding byte_at number16 number32
  instrument-rate = number32-past i.name _ 30 name 4 ∙ bytes32-again i.rate

  pub instrument-loop-start : number32 (instrument_bytes i) 38 ≡ i.loop_start
  unfolding byte_at number16 number32
  instrument-loop-start = number32-past i.name _ 30 name 8 ∙ bytes32-again i.loop_start

  pub instrument-loop-length : number32 (instrument_bytes i) 42 ≡ i.loop_length
  unfolding byte_at number16 number32
  instrument-loop-length = number32-past i.name _ 30 name 12 ∙ bytes32-again i.loop_length

  pub instrument-panning : number16 (instrument_bytes i) 46 ≡ i.panning
  unfolding byte_at number16
  instrument-panning = number16-past i.name _ 30 name 16 ∙ bytes16-again i.panning

  pub instrument-flags : number16 (instrument_bytes i) 48 ≡ i.flags
  unfolding byte_at number16
  instrument-flags = number16-past i.name _ 30 name 18 ∙ bytes16-again i.flags

module _ (p : Pattern) where
  pub pattern-size : length (pattern_bytes p) ≡ 6 + length (stream_of p.rows) + length p.filler
  pattern-size = omega (arith, length-append (stream_of p.rows) p.filler)

  pub pattern-rows : number16 (pattern_bytes p) 0 ≡ length p.rows
  unfolding byte_at number16
  pattern-rows = bytes16-again (length p.rows)

  pub pattern-packed : number32 (pattern_bytes p) 2 ≡ length (stream_of p.rows)
  unfolding byte_at number16 number32
  pattern-packed = bytes32-again (length (stream_of p.rows))

  pub pattern-stream : take (length (stream_of p.rows)) (drop 6 (pattern_bytes p)) ≡ stream_of p.rows
  pattern-stream = take-append_seam (stream_of p.rows) p.filler

-- A frame has as many bytes as the flags say.
pub frame-size : (w : Width) (f : ℕ) → length (frame_bytes w f) ≡ flags_of w
frame-size eight f = refl
frame-size sixteen f = refl
frame-size thirty_two f = refl

-- The frames of a sample as stored: the number of their bytes, and each frame at its place.
pub frames-size : (w : Width) (frames : List ℕ) → length (joined (map (frame_bytes w) frames)) ≡ length frames * flags_of w
frames-size w frames = pieces-size (frame_bytes w) (flags_of w) (frame-size w) frames

module _ (s : Sample) where
  pub sample-size : length (sample_bytes s) ≡ 8 + length s.frames * flags_of s.width
  sample-size = omega (arith, frames-size s.width s.frames)

  pub sample-flags : number32 (sample_bytes s) 0 ≡ flags_of s.width
  unfolding byte_at number16 number32
  sample-flags = bytes32-again (flags_of s.width)

  pub sample-frames : number32 (sample_bytes s) 4 ≡ length s.frames
  unfolding byte_at number16 number32
  sample-frames = bytes32-again (length s.frames)

module _ (e : Envelope) (many : length e.points ≡ 32) where
  pub envelope-size : length (envelope_bytes e) ≡ 136
  envelope-size = omega (arith, many, pieces-size point_bytes 4 (λ x. refl) e.points)

  pub envelope-instrument : number16 (envelope_bytes e) 0 ≡ e.instrument
  unfolding byte_at number16
  envelope-instrument = bytes16-again e.instrument

  pub envelope-flags : byte_at (envelope_bytes e) 2 ≡ e.flags
  unfolding byte_at
  envelope-flags = refl

  pub envelope-sections : byte_at (envelope_bytes e) 3 ≡ e.sections
  unfolding byte_at
  envelope-sections = refl

  pub envelope-first-sustain : byte_at (envelope_bytes e) 4 ≡ e.first_sustain
  unfolding byte_at
  envelope-first-sustain = refl

  pub envelope-loop-first : byte_at (envelope_bytes e) 5 ≡ e.loop_first
  unfolding byte_at
  envelope-loop-first = refl

  pub envelope-loop-last : byte_at (envelope_bytes e) 6 ≡ e.loop_last
  unfolding byte_at
  envelope-loop-last = refl

  pub envelope-second-sustain : byte_at (envelope_bytes e) 7 ≡ e.second_sustain
  unfolding byte_at
  envelope-second-sustain = refl

  pub point-there : (i : ℕ) → i < 32 → PartAt (envelope_bytes e) (8 + i * 4) (point_bytes (get_or e.points i no_point))
  point-there i h =
      piece-at point_bytes 4 (λ x. refl) e.points i no_point (omega (arith, many))
      (part-past (take 8 (envelope_bytes e)) (joined (map point_bytes e.points)) 8 refl)

  pub envelope-position : (i : ℕ) → i < 32 → number16 (envelope_bytes e) (8 + 4 * i) ≡ (get_or e.points i no_point).position
  unfolding byte_at number16
  envelope-position i h =
      let place : 8 + 4 * i ≡ 8 + i * 4 = omega arith in
      ap (number16 (envelope_bytes e)) place ∙ number16-start (point-there i h) (omega arith) ∙ bytes16-again (get_or e.points i no_point).position

  pub envelope-value : (i : ℕ) → i < 32 → number16 (envelope_bytes e) (10 + 4 * i) ≡ (get_or e.points i no_point).value
  unfolding byte_at number16
  envelope-value i h =
      let place : 10 + 4 * i ≡ 8 + i * 4 + 2 = omega arith in
      ap (number16 (envelope_bytes e)) place ∙ number16-at (point-there i h) 2 (omega arith) ∙ bytes16-again (get_or e.points i no_point).value
