-- FORMAT.md, G2 to G5 and G7 (document 02, K2, "Compare two modules"): the list of differences of two accepted modules. `m` is the first
-- module with its layout `l`, `k` the second with its layout `j`.
use Rattle.std.specs.Prelude.{ℕ, ◌+◌, ◌*◌, max, List, [], ◌∷◌, ◌++◌, Bool, cond, not, ◌&&◌, length, eqb, ltb, Result, Ok, Err}
use Rattle.vocabulary.specs.Lists.{joined}
use Rattle.refusal.specs.Numbers.{refusal, no_refusal, refused_outcome}
use Rattle.refusal.specs.Lengths.{output_of}
use Rattle.refusal.specs.declared.Reason.TheVariants.{Room}
use Rattle.refusal.specs.declared.Refusal.{Refusal}
use Rattle.numbers.specs.Numbers.{part_of, each_from}
use Rattle.differences.specs.Differences.{whole_difference, difference_if, list_bytes, equal_bytes}
use Rattle.differences.specs.declared.Difference.{Difference}
use Rattle.packed_rows.specs.Comparing.{stream_differences}
use Rattle.layout.specs.declared.Layout.{Layout}
use Rattle.blocks.specs.StoredFields.{pattern_rows, packed_bytes, sample_flags, sample_frames}
use Rattle.blocks.specs.Sizes.{width_of}
use Rattle.blocks.specs.RecordKinds.{count_of}
use Rattle.blocks.specs.declared.RecordKind.{RecordKind}
use Rattle.blocks.specs.declared.RecordKind.TheVariants.{Song, Instrument, Pattern, Sample, VolumeEnvelope, PanningEnvelope}
use Rattle.module.specs.Verdicts.{opened}
use Rattle.queries.specs.Finding.{first_of, there, block_of}
use Rattle.summary.specs.Shown.{name_of}
use Rattle.records.specs.Records.{record_at}
use Rattle.compare.specs.declared.CompareAnswer.{CompareAnswer}

-- G2: the kinds of entries: "1 name, 2 INFO field, 3 song, 4 instrument, 5 volume and 6 panning envelope, 7 sample, 8 pattern".
abbrev pub kind_of : RecordKind → ℕ
kind_of Song = 3
kind_of Instrument = 4
kind_of VolumeEnvelope = 5
kind_of PanningEnvelope = 6
kind_of Sample = 7
kind_of Pattern = 8

-- G3: the name. A missing NAME is shown as zeros.
abbrev pub name_differences : List ℕ → Layout → List ℕ → Layout → List Difference
name_differences m l k j = difference_if (not (equal_bytes (name_of m l) (name_of k j))) (whole_difference 1 0)

-- G3: "INFO fields 0 to 4".
abbrev pub number_differences : ℕ → ℕ → ℕ → List Difference
number_differences a b field = difference_if (not (eqb a b)) (whole_difference 2 field)

abbrev pub info_differences : Layout → Layout → List Difference
info_differences l j =
    number_differences l.instruments j.instruments 0
    ++ (number_differences l.samples j.samples 1
    ++ (number_differences l.songs j.songs 2
    ++ (number_differences l.patterns j.patterns 3
    ++ number_differences l.tracks j.tracks 4)))

-- G4: what is compared of the record whose block is at a place: the record as it is shown (Q16), and of a sample "every frame".
abbrev pub compared_record : List ℕ → ℕ → RecordKind → ℕ → List ℕ
compared_record m version Song at = record_at m version Song at
compared_record m version Instrument at = record_at m version Instrument at
compared_record m version Pattern at = record_at m version Pattern at
compared_record m version Sample at = record_at m version Sample at ++ part_of m (at + 8) (sample_frames m at * width_of (sample_flags m at))
compared_record m version VolumeEnvelope at = record_at m version VolumeEnvelope at
compared_record m version PanningEnvelope at = record_at m version PanningEnvelope at

-- G4: two records of one kind and number are equal, or "one entry stands for a whole record that differs".
abbrev pub record_differences : List ℕ → Layout → List ℕ → Layout → RecordKind → ℕ → ℕ → ℕ → List Difference
record_differences m l k j kind number at to =
    difference_if (not (equal_bytes (compared_record m l.version kind at) (compared_record k j.version kind to)))
    (whole_difference (kind_of kind) number)

-- G5: whether two patterns have the same tracks and the same rows. If not, one entry stands "for patterns of unequal rows or tracks".
abbrev pub sizes_same : List ℕ → Layout → List ℕ → Layout → ℕ → ℕ → Bool
sizes_same m l k j at to = eqb l.tracks j.tracks && eqb (pattern_rows m at) (pattern_rows k to)

abbrev pub patterns_differences : List ℕ → Layout → List ℕ → Layout → ℕ → ℕ → ℕ → List Difference
patterns_differences m l k j number at to =
    cond (sizes_same m l k j at to)
    (stream_differences (packed_bytes m at) (packed_bytes k to) (pattern_rows m at) l.tracks number)
    (whole_difference (kind_of Pattern) number ∷ [])

-- G4, G5: the differences of two blocks of one kind and number, at their places in the two modules.
abbrev pub block_differences : List ℕ → Layout → List ℕ → Layout → RecordKind → ℕ → ℕ → ℕ → List Difference
block_differences m l k j Song number at to = record_differences m l k j Song number at to
block_differences m l k j Instrument number at to = record_differences m l k j Instrument number at to
block_differences m l k j Pattern number at to = patterns_differences m l k j number at to
block_differences m l k j Sample number at to = record_differences m l k j Sample number at to
block_differences m l k j VolumeEnvelope number at to = record_differences m l k j VolumeEnvelope number at to
block_differences m l k j PanningEnvelope number at to = record_differences m l k j PanningEnvelope number at to

-- G4: the differences of what has this number in either module. A record that "is in one module only" is one entry.
abbrev pub numbered_differences : List ℕ → Layout → List ℕ → Layout → RecordKind → ℕ → List Difference
numbered_differences m l k j kind number =
    cond (there m l kind number && there k j kind number)
    (block_differences m l k j kind number (block_of m l kind number).at (block_of k j kind number).at)
    (whole_difference (kind_of kind) number ∷ [])

-- The differences of all records of a kind: of every number that either module has (Q2).
abbrev pub kind_differences : List ℕ → Layout → List ℕ → Layout → RecordKind → List Difference
kind_differences m l k j kind =
    joined (each_from (numbered_differences m l k j kind) (first_of kind) (max (count_of m l kind) (count_of k j kind)))

-- G2: the list of differences, "entries ascending".
abbrev pub differences : List ℕ → Layout → List ℕ → Layout → List Difference
differences m l k j =
    name_differences m l k j
    ++ (info_differences l j
    ++ (kind_differences m l k j Song
    ++ (kind_differences m l k j Instrument
    ++ (kind_differences m l k j VolumeEnvelope
    ++ (kind_differences m l k j PanningEnvelope
    ++ (kind_differences m l k j Sample
    ++ kind_differences m l k j Pattern))))))

-- G7: 17 if the room is less than 10 bytes for each entry, which is its place; else the number of entries.
abbrev pub refused_compare : Refusal → CompareAnswer
refused_compare r = record { outcome = refused_outcome r; entries = 0 }

abbrev pub compared_if : List Difference → ℕ → CompareAnswer
compared_if ds room =
    cond (ltb room (10 * length ds)) (refused_compare (refusal Room (10 * length ds))) (record { outcome = no_refusal; entries = length ds })

-- G7: "the first module's" refusal, "the second's", 17.
abbrev pub compare_second : List ℕ → Layout → List ℕ → ℕ → Result Layout Refusal → CompareAnswer
compare_second m l k room (Ok j) = compared_if (differences m l k j) room
compare_second m l k room (Err r) = refused_compare r

abbrev pub compare_first : List ℕ → List ℕ → ℕ → Result Layout Refusal → CompareAnswer
compare_first m k room (Ok l) = compare_second m l k room (opened k)
compare_first m k room (Err r) = refused_compare r

abbrev pub compare_answer : List ℕ → List ℕ → ℕ → CompareAnswer
compare_answer m k room = compare_first m k room (opened m)

-- F8: what the output then holds.
abbrev pub output_second : List ℕ → Layout → List ℕ → List ℕ → Result Layout Refusal → List ℕ
output_second m l k out (Ok j) = output_of (10 * length (differences m l k j)) (list_bytes (differences m l k j)) out
output_second m l k out (Err r) = out

abbrev pub output_first : List ℕ → List ℕ → List ℕ → Result Layout Refusal → List ℕ
output_first m k out (Ok l) = output_second m l k out (opened k)
output_first m k out (Err r) = out

abbrev pub compare_output : List ℕ → List ℕ → List ℕ → List ℕ
compare_output m k out = output_first m k out (opened m)

-- The list of differences of two modules; empty if one of them is refused.
abbrev pub differences_second : List ℕ → Layout → List ℕ → Result Layout Refusal → List Difference
differences_second m l k (Ok j) = differences m l k j
differences_second m l k (Err r) = []

abbrev pub differences_first : List ℕ → List ℕ → Result Layout Refusal → List Difference
differences_first m k (Ok l) = differences_second m l k (opened k)
differences_first m k (Err r) = []

abbrev pub module_differences : List ℕ → List ℕ → List Difference
module_differences m k = differences_first m k (opened m)
