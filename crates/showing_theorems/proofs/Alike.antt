-- Modules that are alike: what has to be proved for two modules so that they show the same. Both are accepted, with the same numbers in
-- header and INFO. For every record kind and number, both give the same refusal, or both have a block and the two have the same content.
use Prim.Native.Nat.{ℕ}
use Rattle.std.specs.Prelude.{Result, Ok, Err}
use mathlib.Core.Path.{◌≡◌}
use mathlib.Core.List.{List}
use Rattle.refusal.specs.declared.Refusal.{Refusal}
use Rattle.numbers.specs.Numbers.{number16}
use Rattle.packed_rows.specs.Entries.{rows_from}
use Rattle.packed_rows.specs.Stream.{read_stream, entries_read}
use Rattle.packed_rows.specs.Answers.{check_answer}
use Rattle.layout.specs.declared.Layout.{Layout}
use Rattle.blocks.specs.StoredFields.{packed_bytes}
use Rattle.blocks.specs.Sizes.{envelope_count}
use Rattle.blocks.specs.declared.BlockKind.{BlockKind}
use Rattle.blocks.specs.RecordKinds.{block_kind_of}
use Rattle.blocks.specs.declared.RecordKind.{RecordKind}
use Rattle.blocks.specs.declared.RecordKind.TheVariants.{Song, Instrument, Pattern, Sample, VolumeEnvelope, PanningEnvelope}
use Rattle.module.specs.Verdicts.{opened}
use Rattle.queries.specs.Finding.{found}
use Rattle.queries.specs.declared.Block.{Block}
use Rattle.acceptance.proofs.Locating.{PartAt}
use Rattle.acceptance.proofs.Cutting.{Sized}
use Rattle.summary.specs.Shown.{name_of}

-- The same block is in both modules, at two places.
pub record SameBlock (kind : BlockKind) (m n : List ℕ) (at to : ℕ) : Type 0 where
  pub block : List ℕ
  pub sized : Sized kind block
  pub here : PartAt m at block
  pub there : PartAt n to block

-- Patterns with the same rows and cells: the check accepts both streams with these tracks, and carrying out their entries gives the same
-- rows of cells.
pub record SamePattern (tracks : ℕ) (m n : List ℕ) (at to : ℕ) : Type 0 where
  pub rows : number16 n to ≡ number16 m at
  pub here : check_answer (packed_bytes m at) (number16 m at) tracks ≡ Ok tt
  pub there : check_answer (packed_bytes n to) (number16 n to) tracks ≡ Ok tt
  pub cells : rows_from tracks (entries_read (read_stream (number16 n to) tracks (packed_bytes n to)))
      ≡ rows_from tracks (entries_read (read_stream (number16 m at) tracks (packed_bytes m at)))

-- What two blocks of a record kind have in common: all bytes; for a pattern its rows and its cells, which may be packed in different ways.
abbrev pub SameRecord : RecordKind → ℕ → List ℕ → List ℕ → ℕ → ℕ → Type 0
SameRecord Song tracks m n at to = SameBlock (block_kind_of Song) m n at to
SameRecord Instrument tracks m n at to = SameBlock (block_kind_of Instrument) m n at to
SameRecord Pattern tracks m n at to = SamePattern tracks m n at to
SameRecord Sample tracks m n at to = SameBlock (block_kind_of Sample) m n at to
SameRecord VolumeEnvelope tracks m n at to = SameBlock (block_kind_of VolumeEnvelope) m n at to
SameRecord PanningEnvelope tracks m n at to = SameBlock (block_kind_of PanningEnvelope) m n at to

-- What is found for a number in both modules: the same refusal, or blocks with the same content that are shown with the same version and
-- tracks.
pub data FoundAlike (kind : RecordKind) (m n : List ℕ) : Result Block Refusal → Result Block Refusal → Type 0 where
  neither : (r : Refusal) → FoundAlike kind m n (Err r) (Err r)
  both : (b c : Block) → c.version ≡ b.version → c.tracks ≡ b.tracks → SameRecord kind b.tracks m n b.at c.at → FoundAlike kind m n (Ok b) (Ok c)

-- Both modules open. Their headers and INFO are equal, they show the same name and have the same number of envelopes of each kind, and for
-- every record kind and number the same is found.
pub record Alike (m n : List ℕ) : Type 0 where
  pub layout : Layout
  pub other : Layout
  pub opens : opened m ≡ Ok layout
  pub other_opens : opened n ≡ Ok other
  pub version : other.version ≡ layout.version
  pub revision : other.revision ≡ layout.revision
  pub instruments : other.instruments ≡ layout.instruments
  pub samples : other.samples ≡ layout.samples
  pub songs : other.songs ≡ layout.songs
  pub patterns : other.patterns ≡ layout.patterns
  pub tracks : other.tracks ≡ layout.tracks
  pub name : name_of n other ≡ name_of m layout
  pub volume_envelopes : envelope_count n other.spans.venv ≡ envelope_count m layout.spans.venv
  pub panning_envelopes : envelope_count n other.spans.penv ≡ envelope_count m layout.spans.penv
  pub found : (kind : RecordKind) (number : ℕ) → FoundAlike kind m n (found m kind number) (found n kind number)
