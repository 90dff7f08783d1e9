-- Definitions that the contracts of private functions cite: the points of an envelope one by one, the records of some blocks, and the
-- condition on an envelope under which each value fits 2 bytes.
use Rattle.std.specs.Prelude.{ℕ, ◌≤◌, ◌≡◌, List, ◌++◌, map}
use Rattle.vocabulary.specs.Lists.{joined}
use Rattle.numbers.specs.Numbers.{bytes16, unsigned16}
use Rattle.blocks.specs.StoredFields.{envelope_sections, envelope_value}
use Rattle.blocks.specs.Sizes.{size_of, places_from}
use Rattle.blocks.specs.declared.BlockKind.{BlockKind}
use Rattle.blocks.specs.declared.RecordKind.{RecordKind}
use Rattle.blocks.specs.declared.RecordKind.TheVariants.{Song, Instrument, Pattern, Sample, VolumeEnvelope, PanningEnvelope}
use Rattle.envelopes.specs.Shown.{position_shown, value_shown}
use Rattle.envelopes.specs.declared.EnvelopeKind.{EnvelopeKind}
use Rattle.envelopes.specs.declared.EnvelopeKind.TheVariants.{Volume, Panning}
use Rattle.records.specs.Records.{record_at}

-- A point of the envelope at a place.
abbrev pub point_record : List ℕ → EnvelopeKind → ℕ → ℕ → ℕ → List ℕ
point_record m kind version at point =
    bytes16 (position_shown m at (envelope_sections m at) point) ++ bytes16 (unsigned16 (value_shown m kind version at (envelope_sections m at) point))

-- The records of n points of the envelope, from one on.
abbrev pub points_from : List ℕ → EnvelopeKind → ℕ → ℕ → ℕ → ℕ → List ℕ
points_from m kind version at n point = joined (map (point_record m kind version at) (places_from (λ point. 1) n point))

-- The records of n blocks from a place on.
abbrev pub records_from : List ℕ → BlockKind → RecordKind → ℕ → ℕ → ℕ → List ℕ
records_from m blocks kind version n at = joined (map (record_at m version kind) (places_from (size_of blocks m) n at))

-- V5: a panning value in version 2 is at most 64. There is no condition on other values.
abbrev pub ValueScales : EnvelopeKind → ℕ → ℕ → Type 0
ValueScales Volume version v = Unit {0}
ValueScales Panning version v = version ≡ 2 → v ≤ 64

-- This holds for the values in use of the panning envelope at a place. There is no condition on other record kinds.
abbrev pub ValuesScale : List ℕ → ℕ → RecordKind → ℕ → Type 0
ValuesScale m version Song at = Unit {0}
ValuesScale m version Instrument at = Unit {0}
ValuesScale m version Pattern at = Unit {0}
ValuesScale m version Sample at = Unit {0}
ValuesScale m version VolumeEnvelope at = Unit {0}
ValuesScale m version PanningEnvelope at = (point : ℕ) → point ≤ envelope_sections m at → ValueScales Panning version (envelope_value m at point)
