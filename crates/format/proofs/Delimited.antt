-- Self-delimiting encodings: if two of them are at the front of the same bytes, the encoded data are the same, and so are the bytes after
-- them. Numbers of 2 and of 4 bytes, lists of known length, a known number of pieces one after the other, and each block of a module are
-- encoded in this way.
use Prim.Native.Nat.{ℕ, ◌%◌, ◌<◌}
use mathlib.Core.Path.{◌≡◌, refl, sym, ap, subst, ◌∙◌}
use mathlib.Core.List.{List, [], ◌∷◌, ◌++◌, map, append_assoc}
use mathlib.Core.Bool.{cond}
use native.Mathlib.Omega.{arith}
use lib.ListN.{length, get_or, length-append}
use lib.Dec.{eqb}
use Rattle.vocabulary.specs.Lists.{joined, Every, none, also}
use Rattle.numbers.specs.Numbers.{number16, number32, bytes16, bytes32}
use Rattle.numbers.proofs.Stored.{bytes16-again, bytes32-again}
use Rattle.packed_rows.specs.Entries.{stream_of}
use Rattle.packed_rows.specs.Theorems.{SoundStream}
use Rattle.packed_rows.proofs.Grammar.{reads-one}
use Rattle.format.specs.Description.{Info, Song, Instrument, Pattern, Width, eight, sixteen, thirty_two, Sample, Envelope}
use Rattle.format.specs.Encoding.{info_bytes, song_bytes, instrument_bytes, pattern_bytes, flags_of, frame_bytes, sample_bytes}
use Rattle.format.specs.Encoding.{point_bytes, envelope_bytes, envelopes_bytes}
use Rattle.format.specs.WellFormed.{PatternFits}

-- Two lists of the same length at the front.
pub front_same : {A : Type 0} (xs ys : List A) {s t : List A} → length xs ≡ length ys → xs ++ s ≡ ys ++ t → (xs ≡ ys) × (s ≡ t)
front_same [] [] h e = (refl, e)
front_same [] (y ∷ ys) h e = absurd (omega arith)
front_same (x ∷ xs) [] h e = absurd (omega arith)
front_same (x ∷ xs) (y ∷ ys) {s} {t} h e =
    let first : x ≡ y = cc in
    let rest = front_same xs ys {s = s} {t = t} (omega arith) (cc) in
    (λ i. first i ∷ rest.0 i, rest.1)

-- Numbers.
bytes16-same : (a b : ℕ) → bytes16 a ≡ bytes16 b → a ≡ b
bytes16-same a b e = sym (bytes16-again a) ∙ ap (λ (l : List ℕ). number16 l 0) e ∙ bytes16-again b

bytes32-same : (a b : ℕ) → bytes32 a ≡ bytes32 b → a ≡ b
bytes32-same a b e = sym (bytes32-again a) ∙ ap (λ (l : List ℕ). number32 l 0) e ∙ bytes32-again b

pub next16 : (a b : ℕ) {s t : List ℕ} → bytes16 a ++ s ≡ bytes16 b ++ t → (a ≡ b) × (s ≡ t)
next16 a b e = let parts = front_same (bytes16 a) (bytes16 b) refl e in (bytes16-same a b parts.0, parts.1)

pub next32 : (a b : ℕ) {s t : List ℕ} → bytes32 a ++ s ≡ bytes32 b ++ t → (a ≡ b) × (s ≡ t)
next32 a b e = let parts = front_same (bytes32 a) (bytes32 b) refl e in (bytes32-same a b parts.0, parts.1)

-- A self-delimiting encoding, for all data that fit.
abbrev pub Delimited : {A : Type 0} → (A → Type 0) → (A → List ℕ) → Type 0
Delimited {A} Fits f = (x y : A) (s t : List ℕ) → Fits x → Fits y → f x ++ s ≡ f y ++ t → (x ≡ y) × (s ≡ t)

-- Pieces one after the other: the same number on both sides; or, if no piece is empty, all bytes.
module _ {A : Type 0} {Fits : A → Type 0} (f : A → List ℕ) (delimited : Delimited Fits f) where
  pub pieces-same : (xs ys : List A) (s t : List ℕ) → Every Fits xs → Every Fits ys → length xs ≡ length ys
      → joined (map f xs) ++ s ≡ joined (map f ys) ++ t
      → (xs ≡ ys) × (s ≡ t)
  pieces-same [] [] s t p q h e = (refl, e)
  pieces-same [] (y ∷ ys) s t p q h e = absurd (omega arith)
  pieces-same (x ∷ xs) [] s t p q h e = absurd (omega arith)
  pieces-same (x ∷ xs) (y ∷ ys) s t (also p ps) (also q qs) h e =
      let first = delimited x y (joined (map f xs) ++ s) (joined (map f ys) ++ t) p q
      (sym (append_assoc (f x) (joined (map f xs)) s) ∙ e ∙ append_assoc (f y) (joined (map f ys)) t) in
      let rest = pieces-same xs ys s t ps qs (omega arith) first.1 in
      (λ i. first.0 i ∷ rest.0 i, rest.1)

  pub all_same : ((x : A) → Fits x → 0 < length (f x)) → (xs ys : List A) → Every Fits xs → Every Fits ys → joined (map f xs) ≡ joined (map f ys) → xs ≡ ys
  all_same some [] [] p q e = refl
  all_same some [] (y ∷ ys) p (also q qs) e = absurd (omega (arith, some y q, ap length e, length-append (f y) (joined (map f ys))))
  all_same some (x ∷ xs) [] (also p ps) q e = absurd (omega (arith, some x p, ap length e, length-append (f x) (joined (map f xs))))
  all_same some (x ∷ xs) (y ∷ ys) (also p ps) (also q qs) e =
      let first = delimited x y (joined (map f xs)) (joined (map f ys)) p q e in
      let rest = all_same some xs ys ps qs first.1 in
      λ i. first.0 i ∷ rest i

-- No condition: any number, and any record.
abbrev Any : {A : Type 0} → A → Type 0
Any x = Unit {0}

pub every_any : {A : Type 0} (xs : List A) → Every Any xs
every_any [] = none
every_any (x ∷ xs) = also tt (every_any xs)

bytes16-delimited : Delimited Any bytes16
bytes16-delimited x y s t p q e = next16 x y e

-- INFO.
pub info-same : (i j : Info) → info_bytes i ≡ info_bytes j → i ≡ j
info-same i j e =
    let a = next16 i.instruments j.instruments e in
    let b = next16 i.samples j.samples a.1 in
    let c = next16 i.songs j.songs b.1 in
    let d = next16 i.patterns j.patterns c.1 in
    let tracks = bytes16-same i.tracks j.tracks d.1 in
    λ k. record { instruments = a.0 k; samples = b.0 k; songs = c.0 k; patterns = d.0 k; tracks = tracks k }

-- Songs.
pub song-delimited : Delimited (λ s. length s.name ≡ 44) song_bytes
song-delimited a b s t p q e =
    let name = front_same a.name b.name (p ∙ sym q) (simp append_assoc at e) in
    let many = next16 (length a.playlist) (length b.playlist) name.1 in
    let playlist = pieces-same bytes16 bytes16-delimited a.playlist b.playlist s t (every_any a.playlist)
    (every_any b.playlist) many.0 many.1 in
    (λ i. record { name = name.0 i; playlist = playlist.0 i }, playlist.1)

pub song-some : (s : Song) → length s.name ≡ 44 → 0 < length (song_bytes s)
song-some s h = simp length-append (omega arith)

-- Instruments.
pub instrument-delimited : Delimited (λ i. length i.name ≡ 30) instrument_bytes
instrument-delimited i j s t p q e =
    let name = front_same i.name j.name (p ∙ sym q) (simp append_assoc at e) in
    let sample = next16 i.sample j.sample name.1 in
    let volume = next16 i.volume j.volume sample.1 in
    let rate = next32 i.rate j.rate volume.1 in
    let start = next32 i.loop_start j.loop_start rate.1 in
    let long = next32 i.loop_length j.loop_length start.1 in
    let panning = next16 i.panning j.panning long.1 in
    let flags = next16 i.flags j.flags panning.1 in (
      λ k.
          record {
            name = name.0 k;
            sample = sample.0 k;
            volume = volume.0 k;
            rate = rate.0 k;
            loop_start = start.0 k;
            loop_length = long.0 k;
            panning = panning.0 k;
            flags = flags.0 k;
          },
      flags.1,
    )

pub instrument-some : (i : Instrument) → length i.name ≡ 30 → 0 < length (instrument_bytes i)
instrument-some i h = simp length-append (omega arith)

-- Patterns: a stream with a given number of rows and tracks is read in only one way.
module _ (tracks : ℕ) where
  pub pattern-delimited : Delimited (PatternFits tracks) pattern_bytes
  pattern-delimited p q s t f g e =
      let rows = next16 (length p.rows) (length q.rows) e in
      let packed = next32 (length (stream_of p.rows)) (length (stream_of q.rows)) rows.1 in
      let stream = front_same (stream_of p.rows) (stream_of q.rows) packed.0 (simp append_assoc at packed.1) in
      let filler = front_same p.filler q.filler (f.filler.0 ∙ ap (λ (n : ℕ). n % 2) packed.0 ∙ sym g.filler.0) stream.1 in
      let one : SoundStream (length q.rows) tracks (stream_of q.rows) p.rows = record { count = rows.0; sound = f.sound; bytes = sym stream.0 } in
      let two : SoundStream (length q.rows) tracks (stream_of q.rows) q.rows = record { count = refl; sound = g.sound; bytes = refl } in
      let same : p.rows ≡ q.rows = reads-one (length q.rows) tracks (stream_of q.rows) p.rows q.rows one two in
      (λ i. record { rows = same i; filler = filler.0 i }, filler.1)

  pub pattern-some : (p : Pattern) → PatternFits tracks p → 0 < length (pattern_bytes p)
  pattern-some p f = omega arith

-- Samples: the flags determine the width.
width_of : ℕ → Width
width_of flags = cond (eqb flags 1) eight (cond (eqb flags 2) sixteen thirty_two)

width-again : (w : Width) → width_of (flags_of w) ≡ w
unfolding width_of
width-again eight = refl
width-again sixteen = refl
width-again thirty_two = refl

frame-delimited : (w : Width) → Delimited Any (frame_bytes w)
frame-delimited eight x y s t p q e = (cc, cc)
frame-delimited sixteen x y s t p q e = next16 x y e
frame-delimited thirty_two x y s t p q e = next32 x y e

pub sample-delimited : Delimited Any sample_bytes
sample-delimited a b s t p q e =
    let flags = next32 (flags_of a.width) (flags_of b.width) e in
    let width : a.width ≡ b.width = sym (width-again a.width) ∙ ap width_of flags.0 ∙ width-again b.width in
    let many = next32 (length a.frames) (length b.frames) flags.1 in
    let Alike : Width → Type 0 = λ w. joined (map (frame_bytes w) a.frames) ++ s ≡ joined (map (frame_bytes b.width) b.frames) ++ t in
    let many-alike = subst Alike width many.1 in
    let frames = pieces-same (frame_bytes b.width) (frame-delimited b.width) a.frames b.frames s t
    (every_any a.frames) (every_any b.frames) many.0 many-alike in
    (λ i. record { width = width i; frames = frames.0 i }, frames.1)

pub sample-some : (s : Sample) → Any s → 0 < length (sample_bytes s)
sample-some s h = omega arith

-- Envelopes.
point-delimited : Delimited Any point_bytes
point-delimited a b s t p q e =
    let position = next16 a.position b.position e in
    let value = next16 a.value b.value position.1 in
    (λ i. record { position = position.0 i; value = value.0 i }, value.1)

abbrev six_bytes : Envelope → List ℕ
six_bytes e = e.flags ∷ e.sections ∷ e.first_sustain ∷ e.loop_first ∷ e.loop_last ∷ e.second_sustain ∷ []

pub envelope-delimited : Delimited (λ e. length e.points ≡ 32) envelope_bytes
envelope-delimited a b s t p q e =
    let instrument = next16 a.instrument b.instrument e in
    let six = front_same (six_bytes a) (six_bytes b) refl instrument.1 in
    let points = pieces-same point_bytes point-delimited a.points b.points s t (every_any a.points) (every_any b.points) (p ∙ sym q) six.1 in
    let byte : (k : ℕ) → get_or (six_bytes a) k 0 ≡ get_or (six_bytes b) k 0 =
    λ k. ap (λ (l : List ℕ). get_or l k 0) six.0 in (
      λ i.
          record {
            instrument = instrument.0 i;
            flags = byte 0 i;
            sections = byte 1 i;
            first_sustain = byte 2 i;
            loop_first = byte 3 i;
            loop_last = byte 4 i;
            second_sustain = byte 5 i;
            points = points.0 i;
          },
      points.1,
    )

pub envelopes-same : (xs ys : List Envelope) → Every (λ e. length e.points ≡ 32) xs
    → Every (λ e. length e.points ≡ 32) ys → envelopes_bytes xs ≡ envelopes_bytes ys
    → xs ≡ ys
envelopes-same xs ys p q e =
    let many = next16 (length xs) (length ys) e in
    (pieces-same envelope_bytes envelope-delimited xs ys [] [] p q many.0 (ap (λ (l : List ℕ). l ++ []) many.1)).0
