-- The encoding of each kind of block that fits: it consists of bytes, and the rules of its kind hold for it. Also the chunks with rules of
-- their own: INFO, and the envelopes.
use Prim.Native.Nat.{ℕ, ◌+◌, ◌-◌, ◌≤◌, ◌<◌}
use mathlib.Core.Path.{◌≡◌, refl, sym, ap, ◌∙◌}
use mathlib.Core.Logic.{◌⊎◌, inl, inr}
use mathlib.Core.List.{List, [], ◌++◌, map, append_assoc}
use native.Mathlib.Omega.{arith}
use lib.ListN.{length, get_or, length-append, length-map}
use lib.Seq.{take_at}
use Rattle.vocabulary.specs.Lists.{joined, Every}
use Rattle.vocabulary.specs.Letters.{info_letters}
use Rattle.vocabulary.proofs.EveryOne.{every-at, every_of}
use Rattle.vocabulary.proofs.MappedLists.{every_map}
use Rattle.numbers.specs.Numbers.{byte_at, Bytes, number16, number32, bytes16, bytes32}
use Rattle.numbers.proofs.Stored.{bytes16-again, bytes32-again}
use Rattle.numbers.proofs.AllBytes.{bytes-nil, bytes-cons, bytes-append, bytes-joined, bytes16-bytes, bytes32-bytes}
use Rattle.packed_rows.specs.Entries.{stream_of}
use Rattle.packed_rows.proofs.Shapes.{get_or-mapped}
use Rattle.acceptance.specs.Rules.{Filled, InfoRules, SongRules, InstrumentRules, PatternRules, SampleRules, EnvelopeRules, EnvelopesRules}
use Rattle.acceptance.proofs.Locating.{bytes16-number}
use Rattle.repack_theorems.proofs.PackedBytes.{stream-bytes}
use Rattle.format.specs.Description.{Info, Song, Instrument, Pattern, Width, eight, sixteen, thirty_two, Sample, Point, Envelope, INFO}
use Rattle.format.specs.Encoding.{info_bytes, song_bytes, instrument_bytes, pattern_bytes, flags_of, frame_bytes, sample_bytes}
use Rattle.format.specs.Encoding.{point_bytes, envelope_bytes, envelopes_bytes, chunk_bytes}
use Rattle.format.specs.WellFormed.{InfoFits, SongFits, InstrumentFits, PatternFits, FrameFits, SampleFits, PointFits}
use Rattle.format.specs.WellFormed.{EnvelopeFits, EnvelopesFit, empty_sample, frames_of}
use Rattle.format.proofs.Stored.{number16-past}
use Rattle.format.proofs.ReadingBlocks.{info-read, song-size, song-length, song-entry, instrument-size}
use Rattle.format.proofs.ReadingBlocks.{instrument-sample, instrument-volume, instrument-loop-start}
use Rattle.format.proofs.ReadingBlocks.{instrument-loop-length, instrument-panning, instrument-flags, sample-size}
use Rattle.format.proofs.ReadingBlocks.{sample-flags, sample-frames, envelope-size, envelope-instrument}
use Rattle.format.proofs.ReadingBlocks.{envelope-flags, envelope-sections, envelope-first-sustain, envelope-loop-first}
use Rattle.format.proofs.ReadingBlocks.{envelope-loop-last, envelope-second-sustain, envelope-value}

-- If the encoding of each record consists of bytes, that of the list does.
pub all-bytes : {A : Type 0} {P : A → Type 0} (f : A → List ℕ) → ((x : A) → P x → Bytes (f x)) → (xs : List A) → Every P xs → Bytes (joined (map f xs))
all-bytes f each xs e = (bytes-joined (map f xs)).0 ((every_map f xs).1 (every_of each e))

-- Blocks after a front fill a chunk.
pub filled-by : (front : List ℕ) (n : ℕ) → length front ≡ n → (blocks : List (List ℕ)) (count : ℕ) → length blocks ≡ count
    → Filled n (front ++ joined blocks) count blocks
filled-by front n long blocks count many = record {
  fronts = omega (arith, long, length-append front (joined blocks));
  bytes = rw (take_at front (joined blocks) n long) refl;
  number = many;
}

-- INFO's data are after its identifier and its length.
pub info-at : (i : Info) (k : ℕ) → number16 (chunk_bytes (INFO i)) (8 + k) ≡ number16 (info_bytes i) k
info-at i = number16-past (info_letters ++ bytes32 10) (info_bytes i) 8 refl

-- M9: the encoding of INFO.
module _ (i : Info) (fits : InfoFits i) where
  pub info-bytes : Bytes (info_bytes i)
  info-bytes =
      bytes-append (bytes16 i.instruments) _ (bytes16-bytes _ (omega (arith, fits.instruments)))
      (bytes-append (bytes16 i.samples) _ (bytes16-bytes _ (omega (arith, fits.samples)))
      (bytes-append (bytes16 i.songs) _ (bytes16-bytes _ (omega (arith, fits.songs)))
      (bytes-append (bytes16 i.patterns) _ (bytes16-bytes _ (omega (arith, fits.patterns)))
      (bytes16-bytes i.tracks (omega (arith, fits.tracks.1))))))

  pub info-rules : InfoRules (chunk_bytes (INFO i))
  info-rules = record {
    size = refl;
    instruments = rw (info-at i 0 ∙ (info-read i).instruments) fits.instruments;
    samples = rw (info-at i 2 ∙ (info-read i).samples) fits.samples;
    songs = rw (info-at i 4 ∙ (info-read i).songs) fits.songs;
    patterns = rw (info-at i 6 ∙ (info-read i).patterns) fits.patterns;
    tracks = rw (info-at i 8 ∙ (info-read i).tracks) fits.tracks;
  }

-- B2, V1: the pattern numbers fit 2 bytes, since there are few enough patterns.
module _ (patterns : ℕ) (s : Song) (fits : SongFits patterns s) where
  pub song-bytes : patterns ≤ 65536 → Bytes (song_bytes s)
  song-bytes few =
      bytes-append s.name _ fits.name.1
      (bytes-append (bytes16 (length s.playlist)) _ (bytes16-bytes _ fits.many)
      (all-bytes bytes16 (λ entry low. bytes16-bytes entry (omega arith)) s.playlist fits.entries))

  pub song-rules : SongRules patterns (song_bytes s)
  song-rules =
      let long = fits.name.0 in
      record {
        size = rw (song-length s long) (song-size s long);
        entries = λ i h. (
            let there : i < length s.playlist = rw (song-length s long) at h in
            rw (song-entry s long i there) (every-at i 0 there fits.entries)
            );
      }

-- B3, V2, V6: the encoding of an instrument.
module _ (samples : List Sample) (i : Instrument) (fits : InstrumentFits samples i) where
  pub instrument-bytes : length samples < 65536 → Bytes (instrument_bytes i)
  instrument-bytes few =
      bytes-append i.name _ fits.name.1
      (bytes-append (bytes16 i.sample) _ (bytes16-bytes _ (omega (arith, fits.sample)))
      (bytes-append (bytes16 i.volume) _ (bytes16-bytes _ (omega (arith, fits.volume)))
      (bytes-append (bytes32 i.rate) _ (bytes32-bytes _ fits.rate)
      (bytes-append (bytes32 i.loop_start) _ (bytes32-bytes _ fits.loop_start)
      (bytes-append (bytes32 i.loop_length) _ (bytes32-bytes _ fits.loop_length)
      (bytes-append (bytes16 i.panning) _ (bytes16-bytes _ fits.panning.0)
      (bytes16-bytes i.flags (omega (arith, fits.flags)))))))))

  pub instrument-rules : InstrumentRules (map sample_bytes samples) (instrument_bytes i)
  instrument-rules = record {
    size = instrument-size i long;
    sample = rw (instrument-sample i long, length-map) fits.sample;
    volume = rw (instrument-volume i long) fits.volume;
    panning = rw (instrument-panning i long) fits.panning.1;
    flags = rw (instrument-flags i long) fits.flags;
    loop = λ looped. (
        let inside = fits.loop (rw (instrument-loop-length i long, instrument-flags i long) at looped) in
        let there : i.sample - 1 < length samples = omega (arith, fits.sample, inside.0) in
        rw (instrument-sample i long, instrument-loop-start i long, instrument-loop-length i long, frames-there there) inside
        );
  }
    where
      long : length i.name ≡ 30
      long = fits.name.0

      frames-there : i.sample - 1 < length samples → number32 (get_or (map sample_bytes samples) (i.sample - 1) []) 4 ≡ frames_of samples i.sample
      frames-there there =
          ap (λ (block : List ℕ). number32 block 4) (get_or-mapped sample_bytes samples (i.sample - 1) [] empty_sample there)
          ∙ sample-frames (get_or samples (i.sample - 1) empty_sample)

-- B4, V7: the encoding of a pattern.
module _ (tracks : ℕ) where
  module _ (p : Pattern) (fits : PatternFits tracks p) where
    pub pattern-bytes : Bytes (pattern_bytes p)
    pattern-bytes =
        bytes-append (bytes16 (length p.rows)) _ (bytes16-bytes _ fits.many)
        (bytes-append (bytes32 (length (stream_of p.rows))) _ (bytes32-bytes _ fits.packed)
        (bytes-append (stream_of p.rows) p.filler ((stream-bytes p.rows).0 fits.bytes) fits.filler.1))

    pub pattern-rules : PatternRules tracks (pattern_bytes p)
    unfolding byte_at number16 number32
    pattern-rules = record {
      front = bytes16 (length p.rows) ++ bytes32 (length (stream_of p.rows));
      stream = stream_of p.rows;
      filler = p.filler;
      entries = p.rows;
      bytes = refl;
      front_size = refl;
      packed = bytes32-again (length (stream_of p.rows));
      odd = fits.filler.0;
      sound = record { count = sym (bytes16-again (length p.rows)); sound = fits.sound; bytes = refl };
    }

-- B5: the encoding of a sample.
frame-bytes : (w : Width) (f : ℕ) → FrameFits w f → Bytes (frame_bytes w f)
frame-bytes eight f h = bytes-cons f [] h bytes-nil
frame-bytes sixteen f h = bytes16-bytes f h
frame-bytes thirty_two f h = bytes32-bytes f h

flags-small : (w : Width) → flags_of w < 4294967296
flags-small eight = omega arith
flags-small sixteen = omega arith
flags-small thirty_two = omega arith

flags-known : (w : Width) → (flags_of w ≡ 1) ⊎ ((flags_of w ≡ 2) ⊎ (flags_of w ≡ 4))
flags-known eight = inl refl
flags-known sixteen = inr (inl refl)
flags-known thirty_two = inr (inr refl)

module _ (s : Sample) (fits : SampleFits s) where
  pub sample-bytes : Bytes (sample_bytes s)
  sample-bytes =
      bytes-append (bytes32 (flags_of s.width)) _ (bytes32-bytes _ (flags-small s.width))
      (bytes-append (bytes32 (length s.frames)) _ (bytes32-bytes _ fits.many)
      (all-bytes (frame_bytes s.width) (frame-bytes s.width) s.frames fits.frames))

  pub sample-rules : SampleRules (sample_bytes s)
  sample-rules = record {
    flags = rw (sample-flags s) (flags-known s.width);
    size = rw (sample-flags s, sample-frames s) (sample-size s);
  }

-- B6, V3 to V5: the encoding of an envelope.
point-bytes : (p : Point) → PointFits p → Bytes (point_bytes p)
point-bytes p h = bytes-append (bytes16 p.position) (bytes16 p.value) (bytes16-bytes _ h.position) (bytes16-bytes _ h.value)

module _ (instruments : ℕ) (ValueFits : ℕ → Type 0) where
  module _ (e : Envelope) (fits : EnvelopeFits instruments ValueFits e) where
    pub envelope-bytes : instruments < 65536 → Bytes (envelope_bytes e)
    envelope-bytes few =
        bytes-append (bytes16 e.instrument) _ (bytes16-bytes _ (omega (arith, fits.instrument.1)))
        (bytes-cons e.flags _ (omega (arith, fits.flags))
        (bytes-cons e.sections _ (omega (arith, fits.sections))
        (bytes-cons e.first_sustain _ fits.bytes.0
        (bytes-cons e.loop_first _ fits.bytes.1
        (bytes-cons e.loop_last _ fits.bytes.2
        (bytes-cons e.second_sustain _ fits.bytes.3
        (all-bytes point_bytes point-bytes e.points fits.points)))))))

    pub envelope-rules : EnvelopeRules instruments ValueFits (envelope_bytes e)
    envelope-rules = record {
      size = envelope-size e fits.many;
      instrument = rw (envelope-instrument e fits.many) fits.instrument;
      flags = rw (envelope-flags e fits.many) fits.flags;
      sections = rw (envelope-sections e fits.many) fits.sections;
      first_sustain = rw (envelope-flags e fits.many, envelope-first-sustain e fits.many, envelope-sections e fits.many) fits.first_sustain;
      loop = rw (envelope-flags e fits.many, envelope-loop-first e fits.many, envelope-loop-last e fits.many, envelope-sections e fits.many)
          fits.loop;
      second_sustain = rw (envelope-flags e fits.many, envelope-second-sustain e fits.many, envelope-sections e fits.many) fits.second_sustain;
      values = λ i h. (
          let used : i ≤ e.sections = rw (envelope-sections e fits.many) at h in
          rw (envelope-value e fits.many i (omega (arith, fits.sections))) (fits.values i used)
          );
    }

  module _ (es : List Envelope) (fits : EnvelopesFit instruments ValueFits es) where
    pub envelopes-bytes : instruments < 65536 → Bytes (envelopes_bytes es)
    envelopes-bytes few =
        bytes-append (bytes16 (length es)) _ (bytes16-bytes _ fits.many)
        (all-bytes envelope_bytes (λ e h. envelope-bytes e h few) es fits.each)

    -- After the identifier and the length of their chunk.
    pub envelopes-rules : (front : List ℕ) → length front ≡ 8 → EnvelopesRules instruments ValueFits (front ++ envelopes_bytes es)
    envelopes-rules front long = record {
      envelopes = map envelope_bytes es;
      filled = rw append_assoc at (filled-by (front ++ bytes16 (length es)) 10 (length-append front (bytes16 (length es)) ∙ omega (arith, long)) blocks _ many);
      rules = (every_map envelope_bytes es).1 (every_of envelope-rules fits.each);
    }
      where
        blocks : List (List ℕ)
        blocks = map envelope_bytes es

        many : length blocks ≡ number16 (front ++ envelopes_bytes es) 8
        many = length-map es envelope_bytes ∙ sym (ap (number16 (front ++ envelopes_bytes es)) (sym long) ∙ bytes16-number (length es) front (joined blocks))
