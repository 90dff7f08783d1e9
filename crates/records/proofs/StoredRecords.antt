-- Records that are stored in the module as they are shown: the bytes from a place on are the fields one after the other.
use Prim.Native.Nat.{ℕ, zero, suc, ◌+◌, ◌*◌}
use mathlib.Core.Path.{◌≡◌, refl, sym, ap, ◌∙◌}
use mathlib.Core.List.{List, [], ◌∷◌, ◌++◌, map}
use native.Mathlib.Omega.{arith}
use native.Mathlib.Nat.{zero-add, suc-add}
use lib.IntN.{ℤ}
use Rattle.vocabulary.specs.Lists.{joined}
use Rattle.numbers.specs.Numbers.{byte_at, Bytes, number16, number32, signed16, each_from, bytes_from, bytes16, bytes32, unsigned16}
use Rattle.numbers.proofs.Stored.{number16-stored}
use Rattle.numbers.proofs.Parts.{four_bytes}
use Rattle.numbers.proofs.AllBytes.{number16-below}
use Rattle.blocks.specs.StoredFields.{song_length, instrument_sample, instrument_volume, instrument_rate, instrument_loop_start}
use Rattle.blocks.specs.StoredFields.{instrument_loop_length, instrument_panning, envelope_flags, envelope_sections, envelope_first_sustain}
use Rattle.blocks.specs.StoredFields.{envelope_loop_first, envelope_loop_last, envelope_second_sustain}
use Rattle.blocks.specs.Sizes.{places_from}
use Rattle.samples.proofs.SixteenBits.{stored-again}
use Rattle.envelopes.specs.Shown.{record_kind, position_shown, value_shown, shown_envelope}
use Rattle.envelopes.specs.declared.EnvelopeKind.{EnvelopeKind}
use Rattle.envelopes.specs.declared.EnvelopeKind.TheVariants.{Volume, Panning}
use Rattle.songs.specs.Shown.{shown_song, playlist_bytes}
use Rattle.instruments.specs.Shown.{shown_instrument}
use Rattle.records.specs.Records.{song_record, instrument_record, point_records, envelope_record, record_at}
use Rattle.records.specs.Steps.{points_from}

-- Bytes from a place on, in two parts.
bytes-split : (m : List ℕ) (a b at to : ℕ) → at + a ≡ to → bytes_from m at (a + b) ≡ bytes_from m at a ++ bytes_from m to b
bytes-split m zero b at to e = ap (bytes_from m at) (zero-add b) ∙ ap (λ (k : ℕ). bytes_from m k b) (omega (arith, e))
bytes-split m (suc a) b at to e =
    ap (bytes_from m at) (suc-add a b) ∙ ap (λ (rest : List ℕ). byte_at m at ∷ rest) (bytes-split m a b (at + 1) to (omega (arith, e)))

-- Points, one by one.
points-joined : (f : ℕ → ℕ) (g : ℕ → ℤ) (n k : ℕ)
    → point_records (each_from f k n) (each_from g k n) ≡ joined (map (λ (i : ℕ). bytes16 (f i) ++ bytes16 (unsigned16 (g i))) (places_from (λ point. 1) n k))
points-joined f g zero k = refl
points-joined f g (suc n) k = ap (λ (rest : List ℕ). bytes16 (f k) ++ (bytes16 (unsigned16 (g k)) ++ rest)) (points-joined f g n (k + 1))

module _ (m : List ℕ) (bytes : Bytes m) where
  pub two_bytes : (at : ℕ) → bytes_from m at 2 ≡ bytes16 (number16 m at)
  two_bytes at = sym (number16-stored m bytes at)

  -- A number, and the bytes after it.
  pub next16 : (k at to : ℕ) → at + 2 ≡ to → bytes_from m at (2 + k) ≡ bytes16 (number16 m at) ++ bytes_from m to k
  next16 k at to e = bytes-split m 2 k at to e ∙ ap (λ (l : List ℕ). l ++ bytes_from m to k) (two_bytes at)

  next32 : (k at to : ℕ) → at + 4 ≡ to → bytes_from m at (4 + k) ≡ bytes32 (number32 m at) ++ bytes_from m to k
  next32 k at to e = bytes-split m 4 k at to e ∙ ap (λ (l : List ℕ). l ++ bytes_from m to k) (four_bytes m bytes at)

  pub song-stored : (at : ℕ) → bytes_from m at (46 + 2 * song_length m at) ≡ song_record (shown_song m at) (playlist_bytes m at)
  song-stored at =
      let n = 2 * song_length m at in
      let same : 46 + n ≡ 44 + (2 + n) = omega arith in
      ap (bytes_from m at) same
      ∙ bytes-split m 44 (2 + n) at (at + 44) refl
      ∙ ap (λ (rest : List ℕ). bytes_from m at 44 ++ rest) (next16 n (at + 44) (at + 46) (omega arith))

  pub instrument-stored : (at : ℕ) → bytes_from m at 50 ≡ instrument_record (shown_instrument m at)
  instrument-stored at =
      bytes-split m 30 20 at (at + 30) refl
      ∙ ap (λ (rest : List ℕ). bytes_from m at 30 ++ rest) (next16 18 (at + 30) (at + 32) (omega arith)
      ∙ ap (λ (rest : List ℕ). bytes16 (instrument_sample m at) ++ rest) (next16 16 (at + 32) (at + 34) (omega arith)
      ∙ ap (λ (rest : List ℕ). bytes16 (instrument_volume m at) ++ rest) (next32 12 (at + 34) (at + 38) (omega arith)
      ∙ ap (λ (rest : List ℕ). bytes32 (instrument_rate m at) ++ rest) (next32 8 (at + 38) (at + 42) (omega arith)
      ∙ ap (λ (rest : List ℕ). bytes32 (instrument_loop_start m at) ++ rest) (next32 4 (at + 42) (at + 46) (omega arith)
      ∙ ap (λ (rest : List ℕ). bytes32 (instrument_loop_length m at) ++ rest) (next16 2 (at + 46) (at + 48) (omega arith)
      ∙ ap (λ (v : ℕ). bytes16 v ++ bytes_from m (at + 48) 2) (sym (stored-again (instrument_panning m at) (number16-below m bytes (at + 46))))
      ∙ ap (λ (rest : List ℕ). bytes16 (unsigned16 (signed16 (instrument_panning m at))) ++ rest) (two_bytes (at + 48))))))))

  -- The bytes before the points of an envelope.
  head-stored : (at : ℕ)
      → bytes_from m at 8
      ≡ bytes16 (number16 m at)
      ++ (envelope_flags m at ∷ envelope_sections m at ∷ envelope_first_sustain m at ∷ envelope_loop_first m at
      ∷ envelope_loop_last m at ∷ envelope_second_sustain m at ∷ [])
  head-stored at =
      let e3 : at + 2 + 1 ≡ at + 3 = omega arith in
      let e4 : at + 3 + 1 ≡ at + 4 = omega arith in
      let e5 : at + 4 + 1 ≡ at + 5 = omega arith in
      let e6 : at + 5 + 1 ≡ at + 6 = omega arith in
      let e7 : at + 6 + 1 ≡ at + 7 = omega arith in
      next16 6 at (at + 2) refl ∙ rw (e3, e4, e5, e6, e7) refl

  envelope-joined : (kind : EnvelopeKind) (version at : ℕ)
      → envelope_record (shown_envelope m kind version at) ≡ bytes_from m at 8 ++ points_from m kind version at 32 0
  envelope-joined kind version at =
      ap (λ (points : List ℕ).
      bytes16 (number16 m at)
      ++ (envelope_flags m at ∷ envelope_sections m at ∷ envelope_first_sustain m at ∷ envelope_loop_first m at
      ∷ envelope_loop_last m at ∷ envelope_second_sustain m at ∷ points))
      (points-joined (position_shown m at (envelope_sections m at)) (value_shown m kind version at (envelope_sections m at)) 32 0)
      ∙ ap (λ (head : List ℕ). head ++ points_from m kind version at 32 0) (sym (head-stored at))

  -- The record of an envelope: the bytes before the points, and the points.
  pub envelope-stored : (kind : EnvelopeKind) (version at : ℕ)
      → record_at m version (record_kind kind) at ≡ bytes_from m at 8 ++ points_from m kind version at 32 0
  unfolding record_at
  envelope-stored Volume version at = envelope-joined Volume version at
  envelope-stored Panning version at = envelope-joined Panning version at
