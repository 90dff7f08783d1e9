-- Blocks decoded: for each kind of block the description that is read from its bytes. If the rules of the block hold, the encoding of the
-- description is the block, and the description is well formed.
use Prim.Native.Nat.{ℕ, zero, suc, ◌+◌, ◌-◌, ◌*◌, ◌<◌, ◌≤◌}
use mathlib.Core.Path.{◌≡◌, refl, sym, ap, subst, ◌∙◌}
use mathlib.Core.Logic.{◌⊎◌, inl, inr}
use mathlib.Core.List.{List, [], ◌∷◌, ◌++◌, map, append_assoc, append-nil}
use mathlib.Core.Bool.{cond}
use native.Mathlib.Omega.{arith}
use native.Mathlib.Nat.{mul-le-mul_right}
use lib.ListN.{length, get_or, take, drop, length-map, take-append-drop, drop_of_length-le}
use lib.Seq.{length-take-le, drop-drop}
use lib.Dec.{eqb}
use Rattle.vocabulary.specs.Lists.{joined, Every, none, also}
use Rattle.vocabulary.proofs.EveryOne.{every_first, every_rest}
use Rattle.numbers.specs.Numbers.{byte_at, Bytes, number16, number32, each_from, bytes_from, bytes16, bytes32}
use Rattle.numbers.proofs.Parts.{bytes-part}
use Rattle.numbers.proofs.Each.{each-length}
use Rattle.numbers.proofs.Stored.{number16-stored, number32-stored}
use Rattle.numbers.proofs.AllBytes.{bytes_take, bytes-front, bytes_after, number16-below, number32-below}
use Rattle.acceptance.specs.Rules.{InfoRules, SongRules, InstrumentRules, PatternRules, SampleRules, EnvelopeRules}
use Rattle.repack_theorems.proofs.PackedBytes.{stream-bytes}
use Rattle.format.specs.Description.{Info, Song, Instrument, Pattern, Width, eight, sixteen, thirty_two, Sample, Point, Envelope}
use Rattle.format.specs.Encoding.{info_bytes, song_bytes, instrument_bytes, pattern_bytes, flags_of, frame_bytes, sample_bytes, point_bytes, envelope_bytes}
use Rattle.format.specs.WellFormed.{InfoFits, SongFits, InstrumentFits, PatternFits, FrameFits, SampleFits, EnvelopeFits, empty_sample, no_point}
use Rattle.format.proofs.ReadingBlocks.{sample-frames, envelope-value}

-- A number of 1, 2 or 4 bytes, at a place.
abbrev pub number_at : Width → List ℕ → ℕ → ℕ
number_at eight m at = byte_at m at
number_at sixteen m at = number16 m at
number_at thirty_two m at = number32 m at

module _ (m : List ℕ) (bytes : Bytes m) where
  number-bytes : (w : Width) (at : ℕ) → frame_bytes w (number_at w m at) ≡ bytes_from m at (flags_of w)
  number-bytes eight at = refl
  number-bytes sixteen at = number16-stored m bytes at
  number-bytes thirty_two at =
      let two : at + 2 ≡ at + 1 + 1 = omega arith in
      let three : at + 3 ≡ at + 1 + 1 + 1 = omega arith in
      number32-stored m bytes at ∙ rw (two, three) refl

  -- The number's bytes, and the bytes after them.
  pub number-next : (w : Width) (at to : ℕ) → at + flags_of w ≡ to → to ≤ length m → frame_bytes w (number_at w m at) ++ drop to m ≡ drop at m
  number-next w at to e h =
      let following : drop to m ≡ drop (flags_of w) (drop at m) = ap (λ (k : ℕ). drop k m) (sym e) ∙ sym (drop-drop (flags_of w) at m) in
      ap (λ (front : List ℕ). front ++ drop to m) (number-bytes w at ∙ bytes-part m (flags_of w) at (omega arith))
      ∙ ap (λ (rest : List ℕ). take (flags_of w) (drop at m) ++ rest) following
      ∙ take-append-drop (flags_of w) (drop at m)

  pub number-then : (w : Width) (at : ℕ) {rest : List ℕ} → at + flags_of w ≤ length m → rest ≡ drop (at + flags_of w) m
      → frame_bytes w (number_at w m at) ++ rest ≡ drop at m
  number-then w at h e = ap (λ (rest : List ℕ). frame_bytes w (number_at w m at) ++ rest) e ∙ number-next w at (at + flags_of w) refl h

  -- The number fits its bytes.
  pub number_fits : (w : Width) (at : ℕ) → FrameFits w (number_at w m at)
  number_fits eight at = bytes at
  number_fits sixteen at = number16-below m bytes at
  number_fits thirty_two at = number32-below m bytes at

-- Pieces one after the other, each at its place: what is read from them, encoded again, is the bytes from the first place to the last.
module _ {A : Type 0} (encode : A → List ℕ) (read : ℕ → A) (m : List ℕ) (place : ℕ → ℕ) (n : ℕ)
    (next : (i : ℕ) → i < n → encode (read i) ++ drop (place (i + 1)) m ≡ drop (place i) m) where
  pieces-from : (left k : ℕ) → k + left ≡ n → joined (map encode (each_from read k left)) ++ drop (place n) m ≡ drop (place k) m
  pieces-from zero k e = ap (λ (i : ℕ). drop (place i) m) (omega arith)
  pieces-from (suc left) k e =
      append_assoc (encode (read k)) (joined (map encode (each_from read (k + 1) left))) (drop (place n) m)
      ∙ ap (λ (rest : List ℕ). encode (read k) ++ rest) (pieces-from left (k + 1) (omega arith))
      ∙ next k (omega arith)

  pub pieces-again : length m ≡ place n → joined (map encode (each_from read 0 n)) ≡ drop (place 0) m
  pieces-again e =
      let ends : drop (place n) m ≡ [] = drop_of_length-le m {i = place n} (omega arith) in
      sym (append-nil (joined (map encode (each_from read 0 n))))
      ∙ ap (λ (rest : List ℕ). joined (map encode (each_from read 0 n)) ++ rest) (sym ends)
      ∙ pieces-from n 0 (omega arith)

-- What holds for every element that is read.
every-from : {A : Type 0} {P : A → Type 0} (f : ℕ → A) (n k : ℕ) → ((i : ℕ) → i < k + n → P (f i)) → Every P (each_from f k n)
every-from f zero k h = none
every-from f (suc n) k h = also (h k (omega arith)) (every-from f n (k + 1) (λ i l. h i (omega arith)))

pub every-each : {A : Type 0} {P : A → Type 0} (f : ℕ → A) (n : ℕ) → ((i : ℕ) → i < n → P (f i)) → Every P (each_from f 0 n)
every-each f n h = every-from f n 0 (λ i l. h i (omega arith))

-- Past the end there is nothing.
none_left : (m : List ℕ) (at : ℕ) → length m ≤ at → [] ≡ drop at m
none_left m at h = sym (drop_of_length-le m {i = at} h)

-- M9: INFO, from the bytes of its chunk.
abbrev pub info_in : List ℕ → Info
info_in info = record {
  instruments = number16 info 8;
  samples = number16 info 10;
  songs = number16 info 12;
  patterns = number16 info 14;
  tracks = number16 info 16;
}

module _ (info : List ℕ) (bytes : Bytes info) (r : InfoRules info) where
  pub info-again : info_bytes (info_in info) ≡ drop 8 info
  info-again =
      number-then info bytes sixteen 8 (omega (arith, r.size))
      (number-then info bytes sixteen 10 (omega (arith, r.size))
      (number-then info bytes sixteen 12 (omega (arith, r.size))
      (number-then info bytes sixteen 14 (omega (arith, r.size))
      (number-then info bytes sixteen 16 {rest = []} (omega (arith, r.size)) (none_left info 18 (omega (arith, r.size)))))))

  pub info-fits : InfoFits (info_in info)
  info-fits = record { instruments = r.instruments; samples = r.samples; songs = r.songs; patterns = r.patterns; tracks = r.tracks }

-- B2: a song.
abbrev pub song_in : List ℕ → Song
song_in block = record { name = take 44 block; playlist = each_from (λ i. number16 block (46 + 2 * i)) 0 (number16 block 44) }

module _ (patterns : ℕ) (block : List ℕ) (bytes : Bytes block) (r : SongRules patterns block) where
  abbrev entry_in : ℕ → ℕ
  entry_in i = number16 block (46 + 2 * i)

  playlist-again : joined (map bytes16 (song_in block).playlist) ≡ drop 46 block
  playlist-again =
      pieces-again bytes16 entry_in block (λ i. 46 + 2 * i) (number16 block 44)
      (λ i h. number-next block bytes sixteen (46 + 2 * i) (46 + 2 * (i + 1)) (omega arith) (omega (arith, r.size)))
      r.size

  pub song-again : song_bytes (song_in block) ≡ block
  song-again =
      ap (λ (n : ℕ). take 44 block ++ (bytes16 n ++ joined (map bytes16 (song_in block).playlist))) (each-length entry_in (number16 block 44) 0)
      ∙ ap (λ (rest : List ℕ). take 44 block ++ rest) (number-then block bytes sixteen 44 (omega (arith, r.size)) playlist-again)
      ∙ take-append-drop 44 block

  pub song-fits : SongFits patterns (song_in block)
  song-fits = record {
    name = (length-take-le 44 block (omega (arith, r.size)), bytes_take 44 block bytes);
    many = rw (each-length entry_in (number16 block 44) 0) (number_fits block bytes sixteen 44);
    entries = every-each entry_in (number16 block 44) r.entries;
  }

-- B3: an instrument.
abbrev pub instrument_in : List ℕ → Instrument
instrument_in block = record {
  name = take 30 block;
  sample = number16 block 30;
  volume = number16 block 32;
  rate = number32 block 34;
  loop_start = number32 block 38;
  loop_length = number32 block 42;
  panning = number16 block 46;
  flags = number16 block 48;
}

-- The number of frames in the block of a sample is that of the sample.
frames-given : (samples : List Sample) (i : ℕ) → number32 (get_or (map sample_bytes samples) i []) 4 ≡ length (get_or samples i empty_sample).frames
unfolding number32 number16 byte_at
frames-given [] i = refl
frames-given (s ∷ samples) zero = sample-frames s
frames-given (s ∷ samples) (suc i) = frames-given samples i

module _ (samples : List Sample) (block : List ℕ) (bytes : Bytes block) (r : InstrumentRules (map sample_bytes samples) block) where
  pub instrument-again : instrument_bytes (instrument_in block) ≡ block
  instrument-again =
      ap (λ (rest : List ℕ). take 30 block ++ rest)
      (number-then block bytes sixteen 30 (omega (arith, r.size))
      (number-then block bytes sixteen 32 (omega (arith, r.size))
      (number-then block bytes thirty_two 34 (omega (arith, r.size))
      (number-then block bytes thirty_two 38 (omega (arith, r.size))
      (number-then block bytes thirty_two 42 (omega (arith, r.size))
      (number-then block bytes sixteen 46 (omega (arith, r.size))
      (number-then block bytes sixteen 48 {rest = []} (omega (arith, r.size)) (none_left block 50 (omega (arith, r.size))))))))))
      ∙ take-append-drop 30 block

  pub instrument-fits : InstrumentFits samples (instrument_in block)
  instrument-fits = record {
    name = (length-take-le 30 block (omega (arith, r.size)), bytes_take 30 block bytes);
    sample = rw (length-map samples sample_bytes) at r.sample;
    volume = omega (arith, r.volume);
    rate = number_fits block bytes thirty_two 34;
    loop_start = number_fits block bytes thirty_two 38;
    loop_length = number_fits block bytes thirty_two 42;
    panning = (number_fits block bytes sixteen 46, r.panning);
    flags = r.flags;
    loop = λ looped. (let inside = rw (frames-given samples (number16 block 30 - 1)) at (r.loop looped).1 in ((r.loop looped).0, omega (arith, inside)));
  }

-- B4: a pattern. Its rows of entries are those of the rules.
module _ (tracks : ℕ) {block : List ℕ} (r : PatternRules tracks block) where
  abbrev pub pattern_in : Pattern
  pattern_in = record { rows = r.entries; filler = r.filler }

  module _ (bytes : Bytes block) where
    parts : Bytes (r.front ++ (r.stream ++ r.filler))
    parts = subst Bytes r.bytes bytes

    front_bytes : Bytes r.front
    front_bytes = bytes-front r.front (r.stream ++ r.filler) parts

    rest-bytes : Bytes (r.stream ++ r.filler)
    rest-bytes = bytes_after r.front (r.stream ++ r.filler) parts

    front-again : bytes16 (number16 r.front 0) ++ bytes32 (number32 r.front 2) ≡ r.front
    front-again =
        number-then r.front front_bytes sixteen 0 (omega (arith, r.front_size))
        (number-then r.front front_bytes thirty_two 2 {rest = []} (omega (arith, r.front_size)) (none_left r.front 6 (omega (arith, r.front_size))))

    pub pattern-again : pattern_bytes pattern_in ≡ block
    pattern-again =
        rw (r.sound.count, ← r.sound.bytes, ← r.packed) (ap (λ (front : List ℕ). front ++ (r.stream ++ r.filler)) front-again ∙ sym r.bytes)

    pub pattern-fits : PatternFits tracks pattern_in
    pattern-fits = record {
      many = rw r.sound.count (number_fits r.front front_bytes sixteen 0);
      packed = rw (← r.sound.bytes, ← r.packed) (number_fits r.front front_bytes thirty_two 2);
      sound = r.sound.sound;
      bytes = (stream-bytes r.entries).1 (subst Bytes r.sound.bytes (bytes-front r.stream r.filler rest-bytes));
      filler = (rw (← r.sound.bytes) r.odd, bytes_after r.stream r.filler rest-bytes);
    }

-- B4: the patterns of a list of blocks, one for each.
abbrev pub patterns_in : (tracks : ℕ) {blocks : List (List ℕ)} → Every (PatternRules tracks) blocks → List Pattern
patterns_in tracks none = []
patterns_in tracks (also r e) = pattern_in tracks r ∷ patterns_in tracks e

pub patterns-again : (tracks : ℕ) {blocks : List (List ℕ)} (e : Every (PatternRules tracks) blocks) → Every Bytes blocks
    → map pattern_bytes (patterns_in tracks e) ≡ blocks
patterns-again tracks none b = refl
patterns-again tracks (also r e) b = rw (pattern-again tracks r (every_first b), patterns-again tracks e (every_rest b))

pub patterns-fit : (tracks : ℕ) {blocks : List (List ℕ)} (e : Every (PatternRules tracks) blocks) → Every Bytes blocks
    → Every (PatternFits tracks) (patterns_in tracks e)
patterns-fit tracks none b = none
patterns-fit tracks (also r e) b = also (pattern-fits tracks r (every_first b)) (patterns-fit tracks e (every_rest b))

-- B5: a sample, whose flags determine the width of its frames.
abbrev pub width_in : ℕ → Width
width_in flags = cond (eqb flags 1) eight (cond (eqb flags 2) sixteen thirty_two)

flags-again : (flags : ℕ) → (flags ≡ 1) ⊎ ((flags ≡ 2) ⊎ (flags ≡ 4)) → flags_of (width_in flags) ≡ flags
flags-again flags (inl e) = rw e
flags-again flags (inr (inl e)) = rw e
flags-again flags (inr (inr e)) = rw e

abbrev pub frame_in : Width → List ℕ → ℕ → ℕ
frame_in w block i = number_at w block (8 + i * flags_of w)

abbrev pub sample_in : List ℕ → Sample
sample_in block = record { width = width_in (number32 block 0); frames = each_from (frame_in (width_in (number32 block 0)) block) 0 (number32 block 4) }

module _ (block : List ℕ) (bytes : Bytes block) (r : SampleRules block) where
  abbrev width : Width
  width = width_in (number32 block 0)

  flags : flags_of width ≡ number32 block 0
  flags = flags-again (number32 block 0) r.flags

  size : length block ≡ 8 + number32 block 4 * flags_of width
  size = rw flags r.size

  inside : (i : ℕ) → i < number32 block 4 → 8 + (i + 1) * flags_of width ≤ length block
  inside i h = omega (arith, size, mul-le-mul_right (flags_of width) h)

  frames-again : joined (map (frame_bytes width) (sample_in block).frames) ≡ drop 8 block
  frames-again =
      let start : 8 + 0 * flags_of width ≡ 8 = omega arith in
      pieces-again (frame_bytes width) (frame_in width block) block (λ i. 8 + i * flags_of width) (number32 block 4)
      (λ i h. number-next block bytes width (8 + i * flags_of width) (8 + (i + 1) * flags_of width) (omega arith) (inside i h))
      size
      ∙ ap (λ (k : ℕ). drop k block) start

  pub sample-again : sample_bytes (sample_in block) ≡ block
  sample-again =
      let frames : List ℕ = joined (map (frame_bytes width) (sample_in block).frames) in
      ap (λ (n : ℕ). bytes32 n ++ (bytes32 (length (sample_in block).frames) ++ frames)) flags
      ∙ ap (λ (n : ℕ). bytes32 (number32 block 0) ++ (bytes32 n ++ frames)) (each-length (frame_in width block) (number32 block 4) 0)
      ∙ number-then block bytes thirty_two 0 (omega (arith, r.size)) (number-then block bytes thirty_two 4 (omega (arith, r.size)) frames-again)

  pub sample-fits : SampleFits (sample_in block)
  sample-fits = record {
    many = rw (each-length (frame_in width block) (number32 block 4) 0) (number_fits block bytes thirty_two 4);
    frames = every-each (frame_in width block) (number32 block 4) (λ i h. number_fits block bytes width (8 + i * flags_of width));
  }

-- B6: a point of an envelope, and an envelope.
abbrev pub point_in : List ℕ → ℕ → Point
point_in block i = record { position = number16 block (8 + 4 * i); value = number16 block (10 + 4 * i) }

abbrev pub envelope_in : List ℕ → Envelope
envelope_in block = record {
  instrument = number16 block 0;
  flags = byte_at block 2;
  sections = byte_at block 3;
  first_sustain = byte_at block 4;
  loop_first = byte_at block 5;
  loop_last = byte_at block 6;
  second_sustain = byte_at block 7;
  points = each_from (point_in block) 0 32;
}

module _ (instruments : ℕ) (ValueFits : ℕ → Type 0) (block : List ℕ) (bytes : Bytes block) (r : EnvelopeRules instruments ValueFits block) where
  point-next : (i : ℕ) → i < 32 → point_bytes (point_in block i) ++ drop (8 + 4 * (i + 1)) block ≡ drop (8 + 4 * i) block
  point-next i h =
      ap (λ (rest : List ℕ). bytes16 (number16 block (8 + 4 * i)) ++ rest)
      (number-next block bytes sixteen (10 + 4 * i) (8 + 4 * (i + 1)) (omega arith) (omega (arith, r.size)))
      ∙ number-next block bytes sixteen (8 + 4 * i) (10 + 4 * i) (omega arith) (omega (arith, r.size))

  points-again : joined (map point_bytes (envelope_in block).points) ≡ drop 8 block
  points-again = pieces-again point_bytes (point_in block) block (λ i. 8 + 4 * i) 32 point-next r.size

  pub envelope-again : envelope_bytes (envelope_in block) ≡ block
  envelope-again =
      number-then block bytes sixteen 0 (omega (arith, r.size))
      (number-then block bytes eight 2 (omega (arith, r.size))
      (number-then block bytes eight 3 (omega (arith, r.size))
      (number-then block bytes eight 4 (omega (arith, r.size))
      (number-then block bytes eight 5 (omega (arith, r.size))
      (number-then block bytes eight 6 (omega (arith, r.size))
      (number-then block bytes eight 7 (omega (arith, r.size)) points-again))))))

  value-given : (i : ℕ) → i < 32 → number16 block (10 + 4 * i) ≡ (get_or (envelope_in block).points i no_point).value
  value-given i h = ap (λ (b : List ℕ). number16 b (10 + 4 * i)) (sym envelope-again) ∙ envelope-value (envelope_in block) refl i h

  pub envelope-fits : EnvelopeFits instruments ValueFits (envelope_in block)
  envelope-fits = record {
    instrument = r.instrument;
    flags = r.flags;
    sections = r.sections;
    bytes = (bytes 4, bytes 5, bytes 6, bytes 7);
    first_sustain = r.first_sustain;
    loop = r.loop;
    second_sustain = r.second_sustain;
    many = refl;
    points = every-each (point_in block) 32
        (λ i h. record { position = number_fits block bytes sixteen (8 + 4 * i); value = number_fits block bytes sixteen (10 + 4 * i) });
    values = λ i h. subst ValueFits (value-given i (omega (arith, r.sections))) (r.values i h);
  }
