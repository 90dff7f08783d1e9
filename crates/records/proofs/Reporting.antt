-- Theorem 19, kind by kind: what a query answers for a block that is found is the block's record; for a playlist, entry by entry.
use Prim.Native.Nat.{ℕ, zero, suc, ◌+◌, ◌*◌, ◌<◌}
use Rattle.std.specs.Prelude.{Result, Ok}
use Rattle.refusal.specs.declared.Refusal.{Refusal}
use Rattle.queries.specs.declared.Block.{Block}
use mathlib.Core.Path.{◌≡◌, refl, sym, ap, ◌∙◌}
use mathlib.Core.List.{List, ◌++◌}
use native.Mathlib.Omega.{arith}
use native.Mathlib.Nat.{add-zero}
use borrow.Author.Tests.{lt-ltb}
use Rattle.vocabulary.specs.Lists.{joined}
use Rattle.numbers.specs.Numbers.{Bytes, number16, each_from, bytes_from, bytes16}
use Rattle.layout.specs.declared.Layout.{Layout}
use Rattle.blocks.specs.StoredFields.{song_length, song_entry}
use Rattle.blocks.specs.declared.RecordKind.TheVariants.{Song, Instrument, Pattern, Sample, VolumeEnvelope, PanningEnvelope}
use Rattle.module.specs.Verdicts.{opened}
use Rattle.samples.specs.Shown.{sample_if}
use Rattle.envelopes.specs.Shown.{count_if, envelope_if}
use Rattle.envelopes.specs.declared.EnvelopeKind.TheVariants.{Volume, Panning}
use Rattle.patterns.specs.Shown.{rows_if}
use Rattle.songs.specs.Shown.{shown_song, song_if, entry_in, entry_if, playlist_bytes}
use Rattle.summary.specs.Shown.{version_if, name_if, info_if}
use Rattle.instruments.specs.Shown.{instrument_if}
use Rattle.records.specs.Records.{version_record, info_record, summary_record, song_record, instrument_record, sample_record}
use Rattle.records.specs.Records.{envelope_record, record_at, records_of, all_records}
use Rattle.records.specs.Reported.{reported_summary, reported_song, reported_instrument, reported_pattern, reported_sample, reported_envelope, reported_records}
use Rattle.records.proofs.StoredRecords.{next16}
use Rattle.records.proofs.ByNumber.{records-numbered}

-- Bytes that are numbers one after the other, given number by number.
numbers-given : (m : List ℕ) → Bytes m → (f : ℕ → ℕ) (n k at : ℕ) → ((i : ℕ) → i < n → f (k + i) ≡ number16 m (at + 2 * i))
    → joined (each_from (λ (i : ℕ). bytes16 (f i)) k n) ≡ bytes_from m at (2 * n)
numbers-given m bytes f zero k at h = refl
numbers-given m bytes f (suc n) k at h =
    let more : 2 + 2 * n ≡ 2 * suc n = omega arith in
    let first : f k ≡ number16 m at = simp add-zero at (h 0 (omega arith)) in
    let rest : joined (each_from (λ (i : ℕ). bytes16 (f i)) (k + 1) n) ≡ bytes_from m (at + 2) (2 * n) =
    numbers-given m bytes f n (k + 1) (at + 2)
    (λ i less. ap f (omega arith) ∙ h (suc i) (omega arith) ∙ ap (number16 m) (omega arith)) in
    ap (λ (v : ℕ). bytes16 v ++ joined (each_from (λ (i : ℕ). bytes16 (f i)) (k + 1) n)) first
    ∙ ap (λ (following : List ℕ). bytes16 (number16 m at) ++ following) rest
    ∙ sym (next16 m bytes (2 * n) at (at + 2) refl)
    ∙ ap (bytes_from m at) more

-- A playlist, entry by entry.
playlist-given : (m : List ℕ) → Bytes m → (at : ℕ)
    → joined (each_from (λ (entry : ℕ). bytes16 (entry_in m at entry).pattern) 0 (song_length m at)) ≡ playlist_bytes m at
playlist-given m bytes at =
    numbers-given m bytes (λ (entry : ℕ). (entry_in m at entry).pattern) (song_length m at) 0 (at + 46)
    (λ i h. simp (lt-ltb (0 + i) (song_length m at) (omega arith)) (ap (λ (k : ℕ). song_entry m at k) (omega arith)))

-- Equal lists, appended in the same order.
pub same-joint : {a b c d e f g a' b' c' d' e' f' g' : List ℕ} → a ≡ a' → b ≡ b' → c ≡ c' → d ≡ d' → e ≡ e' → f ≡ f' → g ≡ g'
    → a ++ (b ++ (c ++ (d ++ (e ++ (f ++ g))))) ≡ a' ++ (b' ++ (c' ++ (d' ++ (e' ++ (f' ++ g')))))
same-joint p q r s t u v = rw (p, q, r, s, t, u, v) refl

module _ (m : List ℕ) (l : Layout) (o : opened m ≡ Ok l) where
  summary-reported : reported_summary m ≡ summary_record m l
  summary-reported =
      ap (λ (x : Result Layout Refusal).
      version_record (version_if x)
      ++ ((name_if m x).name ++ (info_record (info_if x) ++ (bytes16 (count_if m Volume x).count ++ bytes16 (count_if m Panning x).count))))
      o

  songs-reported : Bytes m → joined (each_from (reported_song m) 0 (info_if (opened m)).songs) ≡ records_of m l Song
  unfolding record_at
  songs-reported bytes =
      ap (λ (x : Result Layout Refusal). joined (each_from (reported_song m) 0 (info_if x).songs)) o
      ∙ records-numbered m l o Song
      (λ (f : Result Block Refusal).
      song_record (song_if m f)
      (joined (each_from (λ (entry : ℕ). bytes16 (entry_if m entry f).pattern) 0 (song_if m f).length)))
      (λ b. ap (song_record (shown_song m b.at)) (playlist-given m bytes b.at))

  instruments-reported : joined (each_from (reported_instrument m) 1 (info_if (opened m)).instruments) ≡ records_of m l Instrument
  unfolding record_at
  instruments-reported =
      ap (λ (x : Result Layout Refusal). joined (each_from (reported_instrument m) 1 (info_if x).instruments)) o
      ∙ records-numbered m l o Instrument (λ (f : Result Block Refusal). instrument_record (instrument_if m f)) (λ b. refl)

  patterns-reported : joined (each_from (reported_pattern m) 0 (info_if (opened m)).patterns) ≡ records_of m l Pattern
  unfolding record_at
  patterns-reported =
      ap (λ (x : Result Layout Refusal). joined (each_from (reported_pattern m) 0 (info_if x).patterns)) o
      ∙ records-numbered m l o Pattern (λ (f : Result Block Refusal). bytes16 (rows_if m f).rows) (λ b. refl)

  samples-reported : joined (each_from (reported_sample m) 1 (info_if (opened m)).samples) ≡ records_of m l Sample
  unfolding record_at
  samples-reported =
      ap (λ (x : Result Layout Refusal). joined (each_from (reported_sample m) 1 (info_if x).samples)) o
      ∙ records-numbered m l o Sample (λ (f : Result Block Refusal). sample_record (sample_if m f)) (λ b. refl)

  volumes-reported : joined (each_from (reported_envelope m Volume) 0 (count_if m Volume (opened m)).count) ≡ records_of m l VolumeEnvelope
  unfolding record_at
  volumes-reported =
      ap (λ (x : Result Layout Refusal). joined (each_from (reported_envelope m Volume) 0 (count_if m Volume x).count)) o
      ∙ records-numbered m l o VolumeEnvelope (λ (f : Result Block Refusal). envelope_record (envelope_if m Volume f)) (λ b. refl)

  pannings-reported : joined (each_from (reported_envelope m Panning) 0 (count_if m Panning (opened m)).count) ≡ records_of m l PanningEnvelope
  unfolding record_at
  pannings-reported =
      ap (λ (x : Result Layout Refusal). joined (each_from (reported_envelope m Panning) 0 (count_if m Panning x).count)) o
      ∙ records-numbered m l o PanningEnvelope (λ (f : Result Block Refusal). envelope_record (envelope_if m Panning f)) (λ b. refl)

  pub records-reported : Bytes m → all_records m l ≡ reported_records m
  records-reported bytes =
      sym (same-joint summary-reported (songs-reported bytes) instruments-reported patterns-reported samples-reported volumes-reported pannings-reported)
