-- Names and playlists that queries show (theorem 17): the chunk or the block lies in the module, so its bytes are shown as stored, and none
-- of them is past the end.
use Prim.Native.Nat.{ℕ, ◌+◌, ◌*◌, ◌≤◌}
use Rattle.std.specs.Prelude.{Result, Ok}
use Rattle.refusal.specs.declared.Refusal.{Refusal}
use mathlib.Core.Path.{◌≡◌, refl, ap, ◌∙◌}
use mathlib.Core.List.{List}
use mathlib.Core.Bool.{Bool, true, cond}
use native.Mathlib.Omega.{arith}
use lib.ListN.{length, replicate}
use Rattle.numbers.specs.Numbers.{part_of, bytes_from}
use Rattle.numbers.proofs.Parts.{bytes-part}
use Rattle.layout.specs.declared.Layout.{Layout}
use Rattle.blocks.specs.StoredFields.{song_length}
use Rattle.blocks.specs.Sizes.{size_of}
use Rattle.blocks.specs.RecordKinds.{block_kind_of}
use Rattle.blocks.specs.declared.RecordKind.{RecordKind}
use Rattle.blocks.specs.declared.RecordKind.TheVariants.{Song, Instrument}
use Rattle.module.specs.Verdicts.{opened}
use Rattle.queries.specs.Finding.{found}
use Rattle.queries.specs.declared.Block.{Block}
use Rattle.acceptance.proofs.OpenModules.{module-opens}
use Rattle.songs.specs.Shown.{song_if, song_answer, playlist_bytes}
use Rattle.summary.specs.Shown.{name_if, name_answer}
use Rattle.instruments.specs.Shown.{instrument_if, instrument_answer}
use Rattle.query_theorems.proofs.FoundBlocks.{block-in-chunk}

-- The data of NAME.
pub module-name : (m : List ℕ) (l : Layout) → opened m ≡ Ok l → l.spans.name.present ≡ true → (name_answer m).name ≡ part_of m (l.spans.name.at + 8) 44
module-name m l o h =
    let w = (module-opens m l o).spans.name h in
    let shown : (name_if m (Ok l)).name ≡ bytes_from m (l.spans.name.at + 8) 44 =
    ap (λ (there : Bool). cond there (bytes_from m (l.spans.name.at + 8) 44) (replicate 44 0)) h in
    ap (λ (out : Result Layout Refusal). (name_if m out).name) o ∙ shown ∙ bytes-part m 44 (l.spans.name.at + 8) (omega (arith, w.name_size refl, w.inside))

-- A block that is found ends in the module.
pub block-ends : (m : List ℕ) (kind : RecordKind) (number : ℕ) (b : Block) → found m kind number ≡ Ok b → b.at + size_of (block_kind_of kind) m b.at ≤ length m
block-ends m kind number b e = let c = block-in-chunk m kind number b e in omega (arith, c.inside, c.whole)

module _ (m : List ℕ) (number : ℕ) (b : Block) where
  pub song-name : found m Song number ≡ Ok b → (song_answer m number).name ≡ part_of m b.at 44
  unfolding size_of
  song-name e = ap (λ (f : Result Block Refusal). (song_if m f).name) e ∙ bytes-part m 44 b.at (omega (arith, block-ends m Song number b e))

  pub playlist-bytes : found m Song number ≡ Ok b → playlist_bytes m b.at ≡ part_of m (b.at + 46) (2 * song_length m b.at)
  unfolding size_of
  playlist-bytes e = bytes-part m (2 * song_length m b.at) (b.at + 46) (omega (arith, block-ends m Song number b e))

  pub instrument-name : found m Instrument number ≡ Ok b → (instrument_answer m number).name ≡ part_of m b.at 30
  unfolding size_of
  instrument-name e = ap (λ (f : Result Block Refusal). (instrument_if m f).name) e ∙ bytes-part m 30 b.at (omega (arith, block-ends m Instrument number b e))
