-- The lengths of records: one by one, and all of a kind.
use Prim.Native.Nat.{ℕ, zero, suc, ◌+◌, ◌*◌}
use mathlib.Core.Path.{◌≡◌, refl}
use mathlib.Core.List.{List, ◌++◌, map}
use mathlib.Core.Bool.{Bool, true, false, cond}
use native.Mathlib.Omega.{arith}
use native.Mathlib.Nat.{suc-mul}
use lib.ListN.{length, replicate, length-append}
use Rattle.vocabulary.specs.Lists.{joined}
use Rattle.numbers.specs.Numbers.{byte_at, bytes_from}
use Rattle.numbers.proofs.Each.{each-length}
use Rattle.layout.specs.declared.Layout.{Layout}
use Rattle.blocks.specs.StoredFields.{song_length}
use Rattle.blocks.specs.Sizes.{size_of, places_from, place_after}
use Rattle.blocks.specs.declared.BlockKind.TheVariants.{Song as SongBlock}
use Rattle.blocks.specs.declared.RecordKind.{RecordKind}
use Rattle.blocks.specs.declared.RecordKind.TheVariants.{Song, Instrument, Pattern, Sample, VolumeEnvelope, PanningEnvelope}
use Rattle.acceptance.proofs.Cutting.{places-length}
use Rattle.acceptance.proofs.Ahead.{every_any}
use Rattle.summary.specs.Shown.{name_of, shown_info}
use Rattle.records.specs.Records.{info_record, counts_record, summary_record, record_at}

-- A name has 44 bytes, so the summary has 60.
pub name-length : (m : List ℕ) (l : Layout) → length (name_of m l) ≡ 44
name-length m l = go l.spans.name.present
  where
    go : (there : Bool) → length (cond there (bytes_from m (l.spans.name.at + 8) 44) (replicate 44 0)) ≡ 44
    go true = refl
    go false = refl

pub summary-length : (m : List ℕ) (l : Layout) → length (summary_record m l) ≡ 60
summary-length m l = omega (arith, length-append (name_of m l) (info_record (shown_info l) ++ counts_record m l), name-length m l)

-- A song's record is as long as its block. The records of each other kind have a fixed length.
abbrev record_length : List ℕ → RecordKind → ℕ → ℕ
record_length m Song at = size_of SongBlock m at
record_length m Instrument at = 50
record_length m Pattern at = 2
record_length m Sample at = 6
record_length m VolumeEnvelope at = 136
record_length m PanningEnvelope at = 136

pub record-length : (m : List ℕ) (version : ℕ) (kind : RecordKind) (at : ℕ) → length (record_at m version kind at) ≡ record_length m kind at
unfolding record_at size_of
record-length m version Song at = omega (arith, each-length (byte_at m) (2 * song_length m at) (at + 46))
record-length m version Instrument at = refl
record-length m version Pattern at = refl
record-length m version Sample at = refl
record-length m version VolumeEnvelope at = refl
record-length m version PanningEnvelope at = refl

-- Records of one length.
pub equal-lengths : (f : ℕ → List ℕ) (size : ℕ → ℕ) (w : ℕ) → ((at : ℕ) → length (f at) ≡ w) → (n at : ℕ)
    → length (joined (map f (places_from size n at))) ≡ n * w
equal-lengths f size w each zero at = omega arith
equal-lengths f size w each (suc n) at =
    omega (arith, length-append (f at) (joined (map f (places_from size n (at + size at)))), each at, equal-lengths f size w each n (at + size at), suc-mul n w)

-- Records that are as long as their blocks.
pub block-lengths : (f : ℕ → List ℕ) (size : ℕ → ℕ) → ((at : ℕ) → length (f at) ≡ size at) → (n at : ℕ)
    → at + length (joined (map f (places_from size n at))) ≡ place_after size n at
block-lengths f size each n at = places-length f size n at (every_any each (places_from size n at))
