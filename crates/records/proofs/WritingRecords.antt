-- The output of each function that writes a record: the record is at the front of the output.
use Prim.Native.Nat.{ℕ, ◌-◌, ◌*◌, ◌≤◌}
use mathlib.Core.Path.{◌≡◌, refl, sym, ap, ◌∙◌}
use mathlib.Core.List.{List, [], ◌∷◌, ◌++◌, flatten}
use native.Mathlib.Omega.{arith}
use lib.ListN.{length, take, drop, set, length-append}
use lib.Seq.{length-take-le, sets-eq}
use borrow.Rule.Slice.PartMut.{mid_of, put_mid}
use Rattle.numbers.specs.Numbers.{Bytes, bytes_from, bytes16, bytes32, put_at}
use Rattle.numbers.proofs.PutBytes.{put_each, put-each, put_front}
use Rattle.layout.specs.declared.Layout.{Layout}
use Rattle.blocks.specs.StoredFields.{sample_flags, sample_frames}
use Rattle.blocks.specs.Sizes.{width_of, size_of, envelope_count}
use Rattle.blocks.specs.declared.BlockKind.TheVariants.{Song as SongBlock}
use Rattle.blocks.specs.declared.RecordKind.{RecordKind}
use Rattle.blocks.specs.declared.RecordKind.TheVariants.{Song, Instrument, Pattern, Sample}
use Rattle.acceptance.proofs.Ends.{copied}
use Rattle.samples.specs.Shown.{shown_sample}
use Rattle.envelopes.specs.Shown.{record_kind}
use Rattle.envelopes.specs.declared.EnvelopeKind.{EnvelopeKind}
use Rattle.summary.specs.Shown.{name_of, shown_info}
use Rattle.records.specs.Records.{info_record, counts_record, sample_record, summary_record, record_at}
use Rattle.records.specs.Steps.{point_record, points_from}
use Rattle.acceptance.proofs.Ahead.{Ahead, ahead-second, ahead-last, second-inside, second-part, third-length, third-put, AheadBlocks, blocks_last}
use Rattle.records.proofs.RecordLengths.{name-length, record-length, equal-lengths}
use Rattle.records.proofs.StoredRecords.{two_bytes, song-stored, instrument-stored, envelope-stored}

-- A copy of n bytes.
pub stored-written : (m : List ℕ) (at n : ℕ) (out copied : List ℕ) → copied ≡ bytes_from m at (length (take n out))
    → n ≤ length out
    → copied ++ drop n out ≡ bytes_from m at n ++ drop n out
stored-written m at n out copied e h = ap (λ (l : List ℕ). l ++ drop n out) (e ∙ ap (bytes_from m at) (length-take-le n out h))

-- The length that is returned for a record, and the output afterwards.
abbrev pub RecordWritten : List ℕ → ℕ → RecordKind → ℕ → List ℕ → List ℕ → ℕ → Type 0
RecordWritten m version kind at out out' r = (r ≡ length (record_at m version kind at)) × (out' ≡ record_at m version kind at ++ drop r out)

-- The required room is there.
pub room_of : (m : List ℕ) (version at : ℕ) (kind : RecordKind) {other : RecordKind} {n k : ℕ} → kind ≡ other
    → length (record_at m version other at) ≡ n → length (record_at m version kind at) ≤ k
    → n ≤ k
room_of m version at kind {other} {n} {k} e size room =
    let there : length (record_at m version other at) ≤ k = rw e at room in
    omega (arith, there, size)

module _ (m : List ℕ) (bytes : Bytes m) (version at : ℕ) (kind : RecordKind) where
  module _ (out : List ℕ) {out' : List ℕ} {n r : ℕ} where
    written_as : (other : RecordKind) (xs : List ℕ) → kind ≡ other → xs ≡ record_at m version other at
        → length (record_at m version other at) ≡ n → (r ≡ n) × (out' ≡ xs ++ drop n out)
        → RecordWritten m version kind at out out' r
    written_as other xs e same size w = rw e (w.0 ∙ sym size, w.1 ∙ rw (same, w.0) refl)

    pub song-written : kind ≡ Song → n ≡ size_of SongBlock m at → (r ≡ n) × (out' ≡ bytes_from m at n ++ drop n out)
        → RecordWritten m version kind at out out' r
    unfolding record_at size_of
    song-written e size w =
        written_as Song (bytes_from m at n) e (ap (bytes_from m at) size ∙ song-stored m bytes at)
        (record-length m version Song at ∙ sym size) w

  module _ (out : List ℕ) {out' : List ℕ} {r : ℕ} where
    pub instrument-written : kind ≡ Instrument → (r ≡ 50) × (out' ≡ bytes_from m at 50 ++ drop 50 out) → RecordWritten m version kind at out out' r
    unfolding record_at
    instrument-written e w = written_as out Instrument (bytes_from m at 50) e (instrument-stored m bytes at) (record-length m version Instrument at) w

    pub pattern-written : kind ≡ Pattern → (r ≡ 2) × (out' ≡ bytes_from m at 2 ++ drop 2 out) → RecordWritten m version kind at out out' r
    unfolding record_at
    pattern-written e w = written_as out Pattern (bytes_from m at 2) e (two_bytes m bytes at) (record-length m version Pattern at) w

    pub sample-written : kind ≡ Sample → (r ≡ 6) × (out' ≡ sample_record (shown_sample m at) ++ drop 6 out) → RecordWritten m version kind at out out' r
    unfolding record_at
    sample-written e w = written_as out Sample (sample_record (shown_sample m at)) e refl (record-length m version Sample at) w

    pub envelope-written : {other : RecordKind} → kind ≡ other → length (record_at m version other at) ≡ 136
        → (r ≡ 136) × (out' ≡ record_at m version other at ++ drop 136 out)
        → RecordWritten m version kind at out out' r
    envelope-written {other} e size w = written_as out other (record_at m version other at) e refl size w

-- A sample's record: two numbers.
module _ (m : List ℕ) (at w frames : ℕ) (out : List ℕ) (e : w ≡ width_of (sample_flags m at)) (f : frames ≡ sample_frames m at) where
  pub bits-frames : 6 ≤ length out → put_at (bytes32 frames) 2 (put_at (bytes16 (8 * w)) 0 out) ≡ sample_record (shown_sample m at) ++ drop 6 out
  unfolding flatten
  bits-frames room = put_front (bytes16 (8 * w) ∷ bytes32 frames ∷ []) out room ∙ rw (e, f) refl

-- The points of an envelope.
module _ (m : List ℕ) (other : EnvelopeKind) (version at : ℕ) where
  pub points-size : length (points_from m other version at 32 0) ≡ 128
  points-size = equal-lengths (point_record m other version at) (λ point. 1) 4 (λ point. refl) 32 0

  pub points-last : {P : ℕ → Type 0} (out₀ out : List ℕ) {point to left : ℕ}
      → AheadBlocks (point_record m other version at) (λ point. 1) P 32 0 out₀ out point to left → left ≤ 0
      → out ≡ points_from m other version at 32 0 ++ drop 128 out₀
  points-last out₀ out {to = to} b over =
      let done = blocks_last out₀ out b over in
      let all : to ≡ 128 = done.0 ∙ points-size in
      done.1 ∙ ap (λ (k : ℕ). points_from m other version at 32 0 ++ drop k out₀) all

-- An envelope's record: the bytes before the points by a copy, and the points.
module _ (m : List ℕ) (bytes : Bytes m) (other : EnvelopeKind) (version at : ℕ) (out copied mid : List ℕ) where
  abbrev headed : List ℕ
  headed = copied ++ drop 8 out

  pub head-points : copied ≡ bytes_from m at (length (take 8 out)) → 136 ≤ length out
      → mid ≡ points_from m other version at 32 0 ++ drop 128 (mid_of 8 (length headed - 8) headed)
      → put_mid 8 (length headed - 8) headed mid ≡ record_at m version (record_kind other) at ++ drop 136 out
  head-points e room is =
      let points : List ℕ = points_from m other version at 32 0 in
      let head : headed ≡ bytes_from m at 8 ++ drop 8 out = stored-written m at 8 out copied e (omega (arith, room)) in
      let size : 128 ≡ length points = sym (points-size m other version at) in
      let a : Ahead out (bytes_from m at 8 ++ points) headed 8 points = ahead-second (bytes_from m at 8) points (refl, head) in
      let fits : length (bytes_from m at 8 ++ points) ≤ length out = omega (arith, size, room) in
      (ahead-last fits headed points a mid (size, is)).1 ∙ ap (λ (l : List ℕ). l ++ drop 136 out) (sym (envelope-stored m bytes other version at))

-- The numbers of INFO and the numbers of envelopes: seven numbers, one after the other.
module _ (m : List ℕ) (l : Layout) where
  abbrev numbers : List ℕ
  numbers = info_record (shown_info l) ++ counts_record m l

  module _ (out : List ℕ) (volume panning : ℕ) (v : volume ≡ envelope_count m l.spans.venv) (p : panning ≡ envelope_count m l.spans.penv) where
    abbrev seven : List (List ℕ)
    seven =
        bytes16 l.instruments
        ∷ bytes16 l.samples
        ∷ bytes16 l.songs
        ∷ bytes16 l.patterns
        ∷ bytes16 l.tracks
        ∷ bytes16 volume
        ∷ bytes16 panning
        ∷ []

    pub counts-written : 60 ≤ length out → put_each seven 46 out ≡ put_at numbers 46 out
    unfolding flatten
    counts-written room = put-each seven 46 out room ∙ rw (v, p) refl

-- The summary of a module: version and revision by two stores, the name by a copy, and the numbers.
module _ (m : List ℕ) (l : Layout) (out name : List ℕ) (room : 60 ≤ length out) (same : name ≡ name_of m l) where
  abbrev front : List ℕ
  front = l.version ∷ l.revision ∷ []

  abbrev versioned : List ℕ
  versioned = set (set out 0 l.version) 1 l.revision

  size : 44 ≡ length (name_of m l)
  size = sym (name-length m l)

  fits : length (front ++ (name_of m l ++ (numbers m l))) ≤ length out
  fits = omega (arith, length-append (name_of m l) (numbers m l), size, room)

  first : (2 ≡ length front) × (versioned ≡ front ++ drop 2 out)
  first = (refl, sets-eq front out 0 (omega (arith, room)))

  pub name-inside : 2 ≤ length versioned
  name-inside = second-inside front (name_of m l) (numbers m l) out fits versioned first

  pub name-part : length name ≤ length (mid_of 2 (length versioned - 2) versioned)
  name-part = rw same (second-part front (name_of m l) (numbers m l) out fits versioned first)

  module _ (mid₂ : List ℕ) (is₂ : mid₂ ≡ take (length name) name ++ drop (length name) (mid_of 2 (length versioned - 2) versioned)) where
    abbrev named : List ℕ
    named = put_mid 2 (length versioned - 2) versioned mid₂

    second : (44 ≡ length (name_of m l)) × (mid₂ ≡ name_of m l ++ drop 44 (mid_of 2 (length versioned - 2) versioned))
    second = (
      size,
      copied name (name_of m l) (mid_of 2 (length versioned - 2) versioned) mid₂ same is₂
          ∙ ap (λ (k : ℕ). name_of m l ++ drop k (mid_of 2 (length versioned - 2) versioned)) (sym size),
    )

    pub numbers-room : 60 ≤ length named
    numbers-room = omega (arith, third-length front (name_of m l) (numbers m l) out fits versioned first mid₂ second, room)

    pub summary-written : put_at (numbers m l) 46 named ≡ summary_record m l ++ drop 60 out
    summary-written = third-put front (name_of m l) (numbers m l) out fits versioned first mid₂ second
