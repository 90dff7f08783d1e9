-- G1: every number of an entry fits 2 bytes, if the modules are lists of bytes.
use Prim.Native.Nat.{ℕ, ◌+◌, ◌-◌, ◌≤◌, ◌<◌, max}
use Rattle.std.specs.Prelude.{Ok}
use mathlib.Core.Path.{◌≡◌, ap, ◌∙◌}
use mathlib.Core.List.{List, [], ◌∷◌}
use mathlib.Core.Bool.{Bool, true, false, cond, not, ◌&&◌}
use native.Mathlib.Omega.{arith}
use lib.ListN.{get_or}
use lib.Dec.{eqb}
use Rattle.vocabulary.specs.Lists.{Every, none, also}
use Rattle.vocabulary.proofs.EveryOne.{every_append}
use Rattle.cells.specs.Cells.{Cell, Row, empty_cell}
use Rattle.numbers.specs.Numbers.{Bytes, number16}
use Rattle.numbers.proofs.AllBytes.{number16-below}
use Rattle.differences.specs.Differences.{whole_difference, equal_bytes}
use Rattle.packed_rows.specs.Entries.{rows_from}
use Rattle.packed_rows.specs.Stream.{read_stream, entries_read}
use Rattle.packed_rows.specs.Comparing.{field_difference, cell_differences, row_differences, pattern_differences, stream_differences}
use Rattle.layout.specs.declared.ChunkSpan.{ChunkSpan}
use Rattle.layout.specs.declared.Layout.{Layout}
use Rattle.blocks.specs.Sizes.{envelope_count}
use Rattle.blocks.specs.StoredFields.{pattern_rows, packed_bytes}
use Rattle.blocks.specs.RecordKinds.{count_of}
use Rattle.blocks.specs.declared.RecordKind.{RecordKind}
use Rattle.blocks.specs.declared.RecordKind.TheVariants.{Song, Instrument, Pattern, Sample, VolumeEnvelope, PanningEnvelope}
use Rattle.module.specs.Verdicts.{opened, verdict_of_outline}
use Rattle.queries.specs.Finding.{first_of, there, block_of}
use Rattle.summary.specs.Shown.{name_of}
use Rattle.format.specs.Description.{Description}
use Rattle.format.specs.Encoding.{encoded}
use Rattle.format.specs.WellFormed.{WellFormed}
use Rattle.format.proofs.Placed.{encoded-opens, info-numbers}
use Rattle.format.proofs.Theorems.{accepted-encoded}
use Rattle.compare.specs.Compared.{kind_of, name_differences, number_differences, info_differences, compared_record, record_differences, sizes_same}
use Rattle.compare.specs.Compared.{patterns_differences, block_differences, numbered_differences, kind_differences, differences, module_differences}
use Rattle.compare_theorems.specs.Differs.{Fits}
use Rattle.compare_theorems.proofs.EachNumber.{every-number}
use Rattle.compare_theorems.proofs.BothOpen.{by-layouts}
use Rattle.compare_theorems.proofs.AscendingLists.{difference-every}

-- M9, B6: the numbers that the records of a module can have, and its tracks.
record NumbersFit (m : List ℕ) (l : Layout) : Type 0 where
  pub numbers : (kind : RecordKind) → first_of kind + count_of m l kind ≤ 65536
  pub tracks : l.tracks ≤ 254

module _ (m : List ℕ) (bytes : Bytes m) (l : Layout) (opens : opened m ≡ Ok l) where
  envelopes-below : (chunk : ChunkSpan) → envelope_count m chunk ≤ 65536
  envelopes-below chunk = go chunk.present
    where
      go : (b : Bool) → cond b (number16 m (chunk.at + 8)) 0 ≤ 65536
      go true = omega (arith, number16-below m bytes (chunk.at + 8))
      go false = omega arith

  numbers_fit : NumbersFit m l
  numbers_fit = let (d, w, is) = accepted-encoded m bytes (ap verdict_of_outline opens) in go d w is
    where
      go : (d : Description) → WellFormed d → encoded d ≡ m → NumbersFit m l
      go d w is =
          let (k, first, layout) = encoded-opens d w in
          let second : opened (encoded d) ≡ Ok l = ap opened is ∙ opens in
          let one : k ≡ l = cc in
          let same = info-numbers d w layout w.info w.info_there in
          let fits = w.lists.info_fits in
          let instruments : l.instruments ≤ 255 = omega (arith, ap (λ (l : Layout). l.instruments) one, same.0, fits.instruments) in
          let samples : l.samples ≤ 255 = omega (arith, ap (λ (l : Layout). l.samples) one, same.1, fits.samples) in
          let songs : l.songs ≤ 32767 = omega (arith, ap (λ (l : Layout). l.songs) one, same.2, fits.songs) in
          let patterns : l.patterns ≤ 1024 = omega (arith, ap (λ (l : Layout). l.patterns) one, same.3, fits.patterns) in
          let tracks : l.tracks ≤ 254 = omega (arith, ap (λ (l : Layout). l.tracks) one, same.4, fits.tracks.1) in
          record { numbers = counted instruments samples songs patterns; tracks = tracks }
        where
          counted : l.instruments ≤ 255 → l.samples ≤ 255 → l.songs ≤ 32767 → l.patterns ≤ 1024
              → (kind : RecordKind) → first_of kind + count_of m l kind ≤ 65536
          counted i s o p Song = omega (arith, o)
          counted i s o p Instrument = omega (arith, i)
          counted i s o p Pattern = omega (arith, p)
          counted i s o p Sample = omega (arith, s)
          counted i s o p VolumeEnvelope = omega (arith, envelopes-below l.spans.venv)
          counted i s o p PanningEnvelope = omega (arith, envelopes-below l.spans.penv)

-- An entry for something whole.
whole-fits : (kind number : ℕ) → kind < 65536 → number < 65536 → Fits (whole_difference kind number)
whole-fits kind number k n = record { kind = k; number = n; row = omega arith; track = omega arith; field = omega arith }

-- G5: the entries of a pattern.
module _ (pattern : ℕ) (p : pattern < 65536) (tracks : ℕ) (t : tracks ≤ 254) where
  cell-fits : (row track : ℕ) (a b : Cell) → row < 65536 → track < 65536 → Every Fits (cell_differences pattern row track a b)
  cell-fits row track a b r t =
      every-number (field_difference pattern row track a b) 6 1
      (λ field low high. difference-every (not (eqb (get_or a (field - 1) 0) (get_or b (field - 1) 0))) _
      (record { kind = omega arith; number = p; row = r; track = t; field = omega (arith, high) }))

  row_fits : (row : ℕ) (a b : Row) → row < 65536 → Every Fits (row_differences pattern tracks row a b)
  row_fits row a b r =
      every-number _ tracks 1
      (λ track low high. cell-fits row track (get_or a (track - 1) empty_cell) (get_or b (track - 1) empty_cell) r (omega (arith, high, t)))

  pattern-fits : (rows : ℕ) (a b : List Row) → rows < 65536 → Every Fits (pattern_differences pattern rows tracks a b)
  pattern-fits rows a b r = every-number _ rows 0 (λ row low high. row_fits row (get_or a row []) (get_or b row []) (omega (arith, high, r)))

  stream-fits : (a b : List ℕ) (rows : ℕ) → rows < 65536 → Every Fits (stream_differences a b rows tracks pattern)
  stream-fits a b rows r =
      let first : List Row = rows_from tracks (entries_read (read_stream rows tracks a)) in
      let second : List Row = rows_from tracks (entries_read (read_stream rows tracks b)) in
      pattern-fits rows first second r

kind_fits : (kind : RecordKind) → kind_of kind < 65536
kind_fits Song = omega arith
kind_fits Instrument = omega arith
kind_fits Pattern = omega arith
kind_fits Sample = omega arith
kind_fits VolumeEnvelope = omega arith
kind_fits PanningEnvelope = omega arith

module _ (m : List ℕ) (bytes : Bytes m) (l : Layout) (k : List ℕ) (j : Layout) (first : NumbersFit m l) (second : NumbersFit k j) where
  records-fit : (kind : RecordKind) (number at to : ℕ) → number < 65536 → Every Fits (record_differences m l k j kind number at to)
  records-fit kind number at to n =
      difference-every (not (equal_bytes (compared_record m l.version kind at) (compared_record k j.version kind to))) _
      (whole-fits (kind_of kind) number (kind_fits kind) n)

  patterns-fit : (number at to : ℕ) → number < 65536 → Every Fits (patterns_differences m l k j number at to)
  patterns-fit number at to n = go (sizes_same m l k j at to)
    where
      go : (same : Bool)
          → Every Fits
          (cond same (stream_differences (packed_bytes m at) (packed_bytes k to) (pattern_rows m at) l.tracks number) (whole_difference 8 number ∷ []))
      go true = stream-fits number n l.tracks first.tracks (packed_bytes m at) (packed_bytes k to) (pattern_rows m at) (number16-below m bytes at)
      go false = also (whole-fits 8 number (omega arith) n) none

  blocks-fit : (kind : RecordKind) (number at to : ℕ) → number < 65536 → Every Fits (block_differences m l k j kind number at to)
  blocks-fit Song number at to n = records-fit Song number at to n
  blocks-fit Instrument number at to n = records-fit Instrument number at to n
  blocks-fit Pattern number at to n = patterns-fit number at to n
  blocks-fit Sample number at to n = records-fit Sample number at to n
  blocks-fit VolumeEnvelope number at to n = records-fit VolumeEnvelope number at to n
  blocks-fit PanningEnvelope number at to n = records-fit PanningEnvelope number at to n

  numbered-fit : (kind : RecordKind) (number : ℕ) → number < 65536 → Every Fits (numbered_differences m l k j kind number)
  numbered-fit kind number n = go (there m l kind number && there k j kind number)
    where
      go : (both : Bool) → Every Fits
          (cond both (block_differences m l k j kind number (block_of m l kind number).at (block_of k j kind number).at)
          (whole_difference (kind_of kind) number ∷ []))
      go true = blocks-fit kind number (block_of m l kind number).at (block_of k j kind number).at n
      go false = also (whole-fits (kind_of kind) number (kind_fits kind) n) none

  kinds-fit : (kind : RecordKind) → Every Fits (kind_differences m l k j kind)
  kinds-fit kind =
      every-number (numbered_differences m l k j kind) (max (count_of m l kind) (count_of k j kind)) (first_of kind)
      (λ number low high. numbered-fit kind number (omega (arith, high, first.numbers kind, second.numbers kind)))

  field_fits : (a b field : ℕ) → field < 5 → Every Fits (number_differences a b field)
  field_fits a b field less = difference-every (not (eqb a b)) _ (whole-fits 2 field (omega arith) (omega (arith, less)))

  info-fits : Every Fits (info_differences l j)
  info-fits =
      (every_append (number_differences l.instruments j.instruments 0) _).1 (
        field_fits l.instruments j.instruments 0 (omega arith),
        (every_append (number_differences l.samples j.samples 1) _).1 (
          field_fits l.samples j.samples 1 (omega arith),
          (every_append (number_differences l.songs j.songs 2) _).1 (
            field_fits l.songs j.songs 2 (omega arith),
            (every_append (number_differences l.patterns j.patterns 3) _).1 (
              field_fits l.patterns j.patterns 3 (omega arith),
              field_fits l.tracks j.tracks 4 (omega arith),
            ),
          ),
        ),
      )

  list-fits : Every Fits (differences m l k j)
  list-fits =
      (every_append (name_differences m l k j) _).1 (
        difference-every (not (equal_bytes (name_of m l) (name_of k j))) _ (whole-fits 1 0 (omega arith) (omega arith)),
        (every_append (info_differences l j) _).1 (
          info-fits,
          (every_append (kind_differences m l k j Song) _).1 (
            kinds-fit Song,
            (every_append (kind_differences m l k j Instrument) _).1 (
              kinds-fit Instrument,
              (every_append (kind_differences m l k j VolumeEnvelope) _).1 (
                kinds-fit VolumeEnvelope,
                (every_append (kind_differences m l k j PanningEnvelope) _).1 (
                  kinds-fit PanningEnvelope,
                  (every_append (kind_differences m l k j Sample) _).1 (kinds-fit Sample, kinds-fit Pattern),
                ),
              ),
            ),
          ),
        ),
      )

pub differences-fit : (m k : List ℕ) → Bytes m → Bytes k → Every Fits (module_differences m k)
differences-fit m k bytes others =
    by-layouts m k (Every Fits) none
    (λ l j o p. list-fits m bytes l k j (numbers_fit m bytes l o) (numbers_fit k others j p))
