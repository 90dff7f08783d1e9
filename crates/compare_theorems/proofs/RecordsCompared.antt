-- The bytes of two records of one kind are equal exactly if the queries show the same of the two blocks: songs, instruments and samples.
use Prim.Native.Nat.{ℕ, zero, suc, ◌+◌, ◌*◌, ◌<◌}
use mathlib.Core.Path.{◌≡◌, refl, sym, ap, ◌∙◌}
use mathlib.Core.Logic.{◌↔◌}
use mathlib.Core.List.{List, [], ◌++◌}
use native.Mathlib.Omega.{arith}
use native.Mathlib.Nat.{add-zero}
use lib.Dec.{ltb}
use borrow.Author.Tests.{ltb-true, lt-ltb}
use Rattle.numbers.specs.Numbers.{byte_at, Bytes, number16, signed16, each_from, bytes_from, bytes16, bytes32, unsigned16}
use Rattle.numbers.proofs.AllBytes.{number16-below}
use Rattle.blocks.specs.StoredFields.{song_name, song_length, song_entry, instrument_name, instrument_sample, instrument_volume}
use Rattle.blocks.specs.StoredFields.{instrument_rate, instrument_loop_start, instrument_loop_length, instrument_panning, instrument_flags, sample_frames}
use Rattle.acceptance.proofs.Locating.{same-number16}
use Rattle.samples.specs.Shown.{bytes_per_frame, shown_sample}
use Rattle.samples.specs.declared.SampleAnswer.{SampleAnswer}
use Rattle.samples.proofs.SixteenBits.{stored-again}
use Rattle.songs.specs.Shown.{shown_song, entry_in, playlist_bytes}
use Rattle.songs.specs.declared.SongAnswer.{SongAnswer}
use Rattle.songs.specs.declared.EntryAnswer.{EntryAnswer}
use Rattle.instruments.specs.Shown.{shown_instrument}
use Rattle.records.specs.Records.{song_record, instrument_record, sample_record}
use Rattle.records.proofs.StoredRecords.{next16 as bytes-next16}
use Rattle.format.proofs.Delimited.{front_same, next16, next32}
use Rattle.showing_theorems.proofs.SameBytes.{same_if}

-- If two functions have the same results for n numbers, they have the same result for each of them.
each-says : {A : Type 0} (f g : ℕ → A) (n j k : ℕ) → each_from f j n ≡ each_from g k n → (i : ℕ) → i < n → f (j + i) ≡ g (k + i)
each-says f g zero j k e i less = absurd (omega arith)
each-says f g (suc n) j k e zero less = let first : f j ≡ g k = cc in simp add-zero first
each-says f g (suc n) j k e (suc i) less =
    let rest : each_from f (j + 1) n ≡ each_from g (k + 1) n = cc in
    ap f (omega arith) ∙ each-says f g n (j + 1) (k + 1) rest i (omega arith) ∙ ap g (omega arith)

-- A stored number, by the 2 bytes of the signed number that is shown.
signed-says : (v w : ℕ) → v < 65536 → w < 65536 → unsigned16 (signed16 v) ≡ unsigned16 (signed16 w) → v ≡ w
signed-says v w h l e = sym (stored-again v h) ∙ e ∙ stored-again w l

module _ (m k : List ℕ) (bytes : Bytes m) (others : Bytes k) where
  -- Numbers one after the other that are the same have the same bytes.
  numbers-same : (n at to : ℕ) → ((i : ℕ) → i < n → number16 m (at + 2 * i) ≡ number16 k (to + 2 * i)) → bytes_from m at (2 * n) ≡ bytes_from k to (2 * n)
  numbers-same zero at to h = refl
  numbers-same (suc n) at to h =
      let more : 2 * suc n ≡ 2 + 2 * n = omega arith in
      let first : number16 m at ≡ number16 k to = simp add-zero at (h 0 (omega arith)) in
      let rest : bytes_from m (at + 2) (2 * n) ≡ bytes_from k (to + 2) (2 * n) =
      numbers-same n (at + 2) (to + 2) (λ i less. ap (number16 m) (omega arith) ∙ h (suc i) (omega arith) ∙ ap (number16 k) (omega arith)) in
      rw more (bytes-next16 m bytes (2 * n) at (at + 2) refl
      ∙ ap (λ (v : ℕ). bytes16 v ++ bytes_from m (at + 2) (2 * n)) first
      ∙ ap (λ (l : List ℕ). bytes16 (number16 k to) ++ l) rest
      ∙ sym (bytes-next16 k others (2 * n) to (to + 2) refl))

  -- A song: name, length and every entry.
  module _ (at to : ℕ) where
    entries-say : song_length m at ≡ song_length k to → playlist_bytes m at ≡ playlist_bytes k to → (entry : ℕ) → entry_in m at entry ≡ entry_in k to entry
    entries-say size e entry =
        rw size (same_if (ltb entry (song_length k to)) _ (λ h. rw (same (ltb-true entry (song_length k to) h))))
      where
        same : entry < song_length k to → song_entry m at entry ≡ song_entry k to entry
        same less =
            same-number16 m k (at + 46) (to + 46) (2 * song_length k to)
            (each-says (byte_at m) (byte_at k) (2 * song_length k to) (at + 46) (to + 46) (rw size at e)) (2 * entry) (omega arith)

    entries-same : song_length m at ≡ song_length k to → ((entry : ℕ) → entry_in m at entry ≡ entry_in k to entry) → playlist_bytes m at ≡ playlist_bytes k to
    entries-same size each =
        rw size (numbers-same (song_length k to) (at + 46) (to + 46) (λ i less.
        (let test = lt-ltb i (song_length k to) less in ap (λ (a : EntryAnswer). a.pattern) (simp (size, test) at (each i)))))

    pub song-exact : (song_record (shown_song m at) (playlist_bytes m at) ≡ song_record (shown_song k to) (playlist_bytes k to))
        ↔ ((shown_song m at ≡ shown_song k to) × ((entry : ℕ) → entry_in m at entry ≡ entry_in k to entry))
    song-exact = (
      λ e.
          let name = front_same (song_name m at) (song_name k to) refl e in
          let size = next16 (song_length m at) (song_length k to) name.1 in
          (rw (name.0, size.0), entries-say size.0 size.1),
      λ h.
          let size : song_length m at ≡ song_length k to = ap (λ (a : SongAnswer). a.length) h.0 in
          ap (λ (a : SongAnswer). song_record a (playlist_bytes m at)) h.0 ∙ ap (song_record (shown_song k to)) (entries-same size h.1),
    )

    -- An instrument: field by field.
    pub instrument-exact : (instrument_record (shown_instrument m at) ≡ instrument_record (shown_instrument k to))
        ↔ (shown_instrument m at ≡ shown_instrument k to)
    instrument-exact = (
      λ e.
          let name = front_same (instrument_name m at) (instrument_name k to) refl e in
          let sample = next16 (instrument_sample m at) (instrument_sample k to) name.1 in
          let volume = next16 (instrument_volume m at) (instrument_volume k to) sample.1 in
          let rate = next32 (instrument_rate m at) (instrument_rate k to) volume.1 in
          let start = next32 (instrument_loop_start m at) (instrument_loop_start k to) rate.1 in
          let size = next32 (instrument_loop_length m at) (instrument_loop_length k to) start.1 in
          let panning = next16 (unsigned16 (signed16 (instrument_panning m at))) (unsigned16 (signed16 (instrument_panning k to))) size.1 in
          let flags = next16 (instrument_flags m at) (instrument_flags k to) {s = []} {t = []} panning.1 in
          let stored = signed-says (instrument_panning m at) (instrument_panning k to)
          (number16-below m bytes (at + 46)) (number16-below k others (to + 46)) panning.0 in
          rw (name.0, sample.0, volume.0, rate.0, start.0, size.0, stored, flags.0),
      ap instrument_record,
    )

    -- A sample: width, number of frames, and the frames.
    pub sample-exact : (a b : List ℕ)
        → (sample_record (shown_sample m at) ++ a ≡ sample_record (shown_sample k to) ++ b) ↔ ((shown_sample m at ≡ shown_sample k to) × (a ≡ b))
    sample-exact a b = (
      λ e.
          let width =
          next16 (8 * bytes_per_frame m at) (8 * bytes_per_frame k to) {s = bytes32 (sample_frames m at) ++ a}
          {t = bytes32 (sample_frames k to) ++ b} e in
          let frames = next32 (sample_frames m at) (sample_frames k to) {s = a} {t = b} width.1 in
          (rw (width.0, frames.0), frames.1),
      λ h. ap (λ (x : SampleAnswer). sample_record x ++ a) h.0 ∙ ap (λ (x : List ℕ). sample_record (shown_sample k to) ++ x) h.1,
    )
