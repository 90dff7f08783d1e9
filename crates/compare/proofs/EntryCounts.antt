-- How many entries the list of differences of two accepted modules can have at most.
use Prim.Native.Nat.{ℕ, ◌+◌, ◌-◌, ◌*◌, ◌≤◌, max}
use Rattle.std.specs.Prelude.{Ok}
use mathlib.Core.Path.{◌≡◌}
use mathlib.Core.List.{List, [], ◌∷◌, ◌++◌}
use mathlib.Core.Bool.{Bool, true, false, cond, not, ◌&&◌}
use native.Mathlib.Omega.{arith}
use native.Mathlib.Nat.{le_trans, mul-le-mul, mul-le-mul_right, max-le}
use lib.ListN.{length, get_or, length-append}
use lib.Dec.{eqb}
use Rattle.numbers.specs.Numbers.{Bytes, number16}
use Rattle.numbers.proofs.AllBytes.{number16-below}
use Rattle.cells.specs.Cells.{Cell, Row, empty_cell}
use Rattle.differences.specs.Differences.{whole_difference, difference_if, equal_bytes}
use Rattle.differences.specs.declared.Difference.{Difference}
use Rattle.packed_rows.specs.Entries.{rows_from}
use Rattle.packed_rows.specs.Stream.{read_stream, entries_read}
use Rattle.packed_rows.specs.Comparing.{field_difference, cell_differences, row_differences, pattern_differences, stream_differences}
use Rattle.packed_rows.specs.ComparingSteps.{SmallCount}
use Rattle.packed_rows.proofs.EachFrom.{joined-most}
use Rattle.layout.specs.declared.ChunkSpan.{ChunkSpan}
use Rattle.layout.specs.declared.Layout.{Layout}
use Rattle.blocks.specs.StoredFields.{pattern_rows, packed_bytes}
use Rattle.blocks.specs.Sizes.{envelope_count}
use Rattle.blocks.specs.RecordKinds.{count_of}
use Rattle.blocks.specs.declared.RecordKind.{RecordKind}
use Rattle.blocks.specs.declared.RecordKind.TheVariants.{Song, Instrument, Pattern, Sample, VolumeEnvelope, PanningEnvelope}
use Rattle.module.specs.Verdicts.{opened}
use Rattle.queries.specs.Finding.{first_of, there, block_of}
use Rattle.acceptance.specs.Rules.{InfoRules}
use Rattle.acceptance.proofs.Spans.{CountsOf}
use Rattle.acceptance.proofs.ChunkHalf.{Outlined, outline-chunks}
use Rattle.acceptance.proofs.OpenModules.{module-opens}
use Rattle.summary.specs.Shown.{name_of}
use Rattle.compare.specs.Compared.{kind_of, name_differences, number_differences, info_differences, compared_record, record_differences}
use Rattle.compare.specs.Compared.{sizes_same, patterns_differences, block_differences}
use Rattle.compare.specs.Compared.{numbered_differences, kind_differences, differences}
use Rattle.compare.specs.Steps.{BothOpen}

-- At most one entry for what is compared as a whole.
pub one-most : (b : Bool) (d : Difference) → length (difference_if b d) ≤ 1
one-most true d = omega arith
one-most false d = omega arith

-- At most six entries for a cell.
cell-most : (pattern row track : ℕ) (a b : Cell) → length (cell_differences pattern row track a b) ≤ 6
cell-most pattern row track a b =
    joined-most (field_difference pattern row track a b) 1
    (λ field. one-most (not (eqb (get_or a (field - 1) 0) (get_or b (field - 1) 0)))
    (record { kind = 8; number = pattern; row = row; track = track; field = field })) 6 1

row-most : (pattern tracks row : ℕ) (a b : Row) → length (row_differences pattern tracks row a b) ≤ tracks * 6
row-most pattern tracks row a b =
    joined-most (λ (track : ℕ). cell_differences pattern row track (get_or a (track - 1) empty_cell) (get_or b (track - 1) empty_cell)) 6
    (λ track. cell-most pattern row track (get_or a (track - 1) empty_cell) (get_or b (track - 1) empty_cell)) tracks 1

pattern-most : (pattern rows tracks : ℕ) (a b : List Row) → length (pattern_differences pattern rows tracks a b) ≤ rows * (tracks * 6)
pattern-most pattern rows tracks a b =
    joined-most (λ (row : ℕ). row_differences pattern tracks row (get_or a row []) (get_or b row [])) (tracks * 6)
    (λ row. row-most pattern tracks row (get_or a row []) (get_or b row [])) rows 0

-- No two patterns of accepted modules have more differences than this: 65,535 rows of 254 tracks with 6 fields.
abbrev pub most_entries : ℕ
most_entries = 99875340

few : (rows tracks : ℕ) → rows ≤ 65535 → tracks ≤ 254 → rows * (tracks * 6) ≤ most_entries
few rows tracks r t = omega (arith, mul-le-mul r (mul-le-mul t (let six : 6 ≤ 6 = omega arith in six)))

streams-most : (a b : List ℕ) (rows tracks pattern : ℕ) → rows ≤ 65535 → tracks ≤ 254
    → length (stream_differences a b rows tracks pattern) ≤ most_entries
streams-most a b rows tracks pattern r t =
    le_trans
    (pattern-most pattern rows tracks (rows_from tracks (entries_read (read_stream rows tracks a)))
    (rows_from tracks (entries_read (read_stream rows tracks b))))
    (few rows tracks r t)

-- The numbers of an accepted module.
pub record Counts (l : Layout) : Type 0 where
  pub instruments : l.instruments ≤ 255
  pub samples : l.samples ≤ 255
  pub songs : l.songs ≤ 32767
  pub patterns : l.patterns ≤ 1024
  pub tracks : l.tracks ≤ 254

module _ (m : List ℕ) (bytes : Bytes m) (l : Layout) (o : opened m ≡ Ok l) where
  pub counts : Counts l
  counts =
      let outlined : Outlined m l = outline-chunks m l bytes (module-opens m l o).outlined in
      let info = outlined.mandatory.info in
      let is : CountsOf l info.0 = outlined.layout.counts info.0 info.1 in
      let rules : InfoRules info.0 = outlined.rules.info info.0 info.1 in
      record {
        instruments = omega (arith, is.0, rules.instruments);
        samples = omega (arith, is.1, rules.samples);
        songs = omega (arith, is.2, rules.songs);
        patterns = omega (arith, is.3, rules.patterns);
        tracks = omega (arith, is.4, rules.tracks.1);
      }

  -- There are at most 65,535 records of a kind.
  envelopes-small : (chunk : ChunkSpan) → envelope_count m chunk ≤ 65535
  envelopes-small chunk = go chunk.present
    where
      go : (b : Bool) → cond b (number16 m (chunk.at + 8)) 0 ≤ 65535
      go true = omega (arith, number16-below m bytes (chunk.at + 8))
      go false = omega arith

  pub count_small : (kind : RecordKind) → count_of m l kind ≤ 65535
  count_small Song = omega (arith, counts.songs)
  count_small Instrument = omega (arith, counts.instruments)
  count_small Pattern = omega (arith, counts.patterns)
  count_small Sample = omega (arith, counts.samples)
  count_small VolumeEnvelope = envelopes-small l.spans.venv
  count_small PanningEnvelope = envelopes-small l.spans.penv

-- The list of differences of two accepted modules is small: its entries are far fewer than a usize can count.
module _ (m : List ℕ) (bytes : Bytes m) (l : Layout) (k : List ℕ) (others : Bytes k) (j : Layout) (opens : BothOpen m l k j) where
  patterns-most : (number at to : ℕ) → length (patterns_differences m l k j number at to) ≤ most_entries
  patterns-most number at to = go (sizes_same m l k j at to)
    where
      cells : List Difference
      cells = stream_differences (packed_bytes m at) (packed_bytes k to) (pattern_rows m at) l.tracks number

      rows : pattern_rows m at ≤ 65535
      rows = omega (arith, number16-below m bytes at)

      go : (b : Bool) → length (cond b cells (whole_difference 8 number ∷ [])) ≤ most_entries
      go true = streams-most (packed_bytes m at) (packed_bytes k to) (pattern_rows m at) l.tracks number rows (counts m bytes l opens.first).tracks
      go false = omega arith

  record-most : (kind : RecordKind) (number at to : ℕ) → length (record_differences m l k j kind number at to) ≤ most_entries
  record-most kind number at to =
      let same = equal_bytes (compared_record m l.version kind at) (compared_record k j.version kind to) in
      le_trans (one-most (not same) (whole_difference (kind_of kind) number)) (omega arith)

  block-most : (kind : RecordKind) (number at to : ℕ) → length (block_differences m l k j kind number at to) ≤ most_entries
  block-most Song number at to = record-most Song number at to
  block-most Instrument number at to = record-most Instrument number at to
  block-most Pattern number at to = patterns-most number at to
  block-most Sample number at to = record-most Sample number at to
  block-most VolumeEnvelope number at to = record-most VolumeEnvelope number at to
  block-most PanningEnvelope number at to = record-most PanningEnvelope number at to

  number-most : (kind : RecordKind) (number : ℕ) → length (numbered_differences m l k j kind number) ≤ most_entries
  number-most kind number = go (there m l kind number && there k j kind number)
    where
      blocks : List Difference
      blocks = block_differences m l k j kind number (block_of m l kind number).at (block_of k j kind number).at

      go : (b : Bool) → length (cond b blocks (whole_difference (kind_of kind) number ∷ [])) ≤ most_entries
      go true = block-most kind number (block_of m l kind number).at (block_of k j kind number).at
      go false = omega arith

  -- At most 65,535 records of a kind, each with no more entries than a pattern.
  kind-most : (kind : RecordKind) → length (kind_differences m l k j kind) ≤ 65535 * most_entries
  kind-most kind =
      le_trans (joined-most (numbered_differences m l k j kind) most_entries (number-most kind) (max (count_of m l kind) (count_of k j kind)) (first_of kind))
      (mul-le-mul_right most_entries (max-le (count_small m bytes l opens.first kind) (count_small k others j opens.second kind)))

  info-most : length (info_differences l j) ≤ 5
  info-most =
      let a : List Difference = number_differences l.instruments j.instruments 0 in
      let b : List Difference = number_differences l.samples j.samples 1 in
      let c : List Difference = number_differences l.songs j.songs 2 in
      let d : List Difference = number_differences l.patterns j.patterns 3 in
      let e : List Difference = number_differences l.tracks j.tracks 4 in
      omega (
        arith,
        length-append a (b ++ (c ++ (d ++ e))),
        length-append b (c ++ (d ++ e)),
        length-append c (d ++ e),
        length-append d e,
        one-most (not (eqb l.instruments j.instruments)) (whole_difference 2 0),
        one-most (not (eqb l.samples j.samples)) (whole_difference 2 1),
        one-most (not (eqb l.songs j.songs)) (whole_difference 2 2),
        one-most (not (eqb l.patterns j.patterns)) (whole_difference 2 3),
        one-most (not (eqb l.tracks j.tracks)) (whole_difference 2 4),
      )

  pub differences-small : SmallCount (length (differences m l k j))
  differences-small =
      let six : List Difference = kind_differences m l k j Pattern in
      let five : List Difference = kind_differences m l k j Sample ++ six in
      let four : List Difference = kind_differences m l k j PanningEnvelope ++ five in
      let three : List Difference = kind_differences m l k j VolumeEnvelope ++ four in
      let two : List Difference = kind_differences m l k j Instrument ++ three in
      let one : List Difference = kind_differences m l k j Song ++ two in
      omega (
        arith,
        length-append (name_differences m l k j) (info_differences l j ++ one),
        length-append (info_differences l j) one,
        length-append (kind_differences m l k j Song) two,
        length-append (kind_differences m l k j Instrument) three,
        length-append (kind_differences m l k j VolumeEnvelope) four,
        length-append (kind_differences m l k j PanningEnvelope) five,
        length-append (kind_differences m l k j Sample) six,
        one-most (not (equal_bytes (name_of m l) (name_of k j))) (whole_difference 1 0),
        info-most,
        kind-most Song,
        kind-most Instrument,
        kind-most VolumeEnvelope,
        kind-most PanningEnvelope,
        kind-most Sample,
        kind-most Pattern,
      )
