-- The patterns that queries find (theorem 16): the module is accepted, so the check accepts the stream of each pattern with its rows and
-- the module's tracks. The only refusal of unpacking it is 17, and each of its cells exists.
use Prim.Native.Nat.{ℕ, ◌+◌, ◌-◌, ◌≤◌, ◌<◌}
use Rattle.std.specs.Prelude.{Ok, Err}
use mathlib.Core.Path.{◌≡◌, refl, sym, ap, ◌∙◌}
use mathlib.Core.Logic.{◌↔◌}
use mathlib.Core.List.{List, []}
use mathlib.Core.Bool.{Bool, true, false, cond}
use native.Mathlib.Omega.{arith}
use lib.ListN.{length, get_or}
use lib.Dec.{leb, ltb}
use borrow.Author.Tests.{leb-true, ltb-true, le-leb, lt-ltb}
use Rattle.vocabulary.proofs.EveryOne.{every_first}
use Rattle.refusal.specs.Numbers.{refusal}
use Rattle.refusal.specs.declared.Reason.TheVariants.{Room, NotThere}
use Rattle.refusal.specs.Lengths.{refused_length, written_length, length_if, length_answer}
use Rattle.cells.specs.Cells.{sizes_fit, cell_bytes, rows_of, empty_cell, Row}
use Rattle.cells.specs.Shown.{shown_cell}
use Rattle.numbers.specs.Numbers.{number16}
use Rattle.packed_rows.specs.Entries.{rows_from}
use Rattle.packed_rows.specs.Stream.{cells_read}
use Rattle.packed_rows.specs.Answers.{check_answer, cell_there, cell_of, unpack_answer as stream_answer}
use Rattle.packed_rows.proofs.Reading.{and-true}
use Rattle.packed_rows.proofs.Accepted.{accepted-rows}
use Rattle.blocks.specs.StoredFields.{pattern_packed_length, packed_bytes}
use Rattle.blocks.specs.Sizes.{size_of, first_block}
use Rattle.blocks.specs.declared.BlockKind.TheVariants.{Pattern as PatternBlock}
use Rattle.blocks.specs.declared.RecordKind.TheVariants.{Pattern}
use Rattle.queries.specs.Finding.{found}
use Rattle.queries.specs.declared.Block.{Block}
use Rattle.acceptance.proofs.OpenModules.{module-opens}
use Rattle.acceptance.proofs.Locating.{part_length}
use Rattle.acceptance.proofs.Holding.{every-place}
use Rattle.acceptance.proofs.BlockStreams.{accepted-says, accepted-sizes, holds}
use Rattle.patterns.specs.Shown.{cell_if, cell_answer, cells_if, cells_answer}
use Rattle.query_theorems.specs.Queries.{HasCell, stored_cell}
use Rattle.query_theorems.proofs.FoundBlocks.{found-numbered, found-opened}
use Rattle.query_theorems.proofs.ShownBytes.{block-ends}

-- An accepted stream.
module _ (stream : List ℕ) (rows tracks : ℕ) (accepted : check_answer stream rows tracks ≡ Ok tt) where
  fits : sizes_fit rows tracks ≡ true
  fits = accepted-sizes stream rows tracks accepted

  -- The only refusal is 17.
  unpacked : (room : ℕ) → length_answer (stream_answer stream rows tracks room) ≡ length_if (cell_bytes rows tracks) room
  unpacked room = simp (fits, (holds stream rows tracks accepted).read) (go (ltb room (cell_bytes rows tracks)))
    where
      go : (lacks : Bool)
          → length_answer (cond lacks (Err (refusal Room (cell_bytes rows tracks))) (Ok (cell_bytes rows tracks)))
          ≡ cond lacks (refused_length (refusal Room (cell_bytes rows tracks))) (written_length (cell_bytes rows tracks))
      go true = refl
      go false = refl

  module _ (row track : ℕ) where
    cell-read : cell_there rows tracks row track ≡ true
        → cell_of stream rows tracks row track
        ≡ Ok (shown_cell (get_or (get_or (rows_from tracks (holds stream rows tracks accepted).entries) row []) (track - 1) empty_cell))
    cell-read h = simp (fits, h, (holds stream rows tracks accepted).read)

    cell-there : cell_there rows tracks row track ≡ true
        → cell_of stream rows tracks row track
        ≡ Ok (shown_cell (get_or (get_or (rows_of rows tracks (cells_read rows tracks stream)) row []) (track - 1) empty_cell))
    cell-there h =
        cell-read h
        ∙ ap (λ (all : List Row). Ok (shown_cell (get_or (get_or all row []) (track - 1) empty_cell)))
        (sym (accepted-rows (holds stream rows tracks accepted)))

    cell-lacks : cell_there rows tracks row track ≡ false → cell_of stream rows tracks row track ≡ Err (refusal NotThere 0)
    cell-lacks h = simp (fits, h)

-- A row and a track that exist.
there-says : (rows tracks row track : ℕ) → (cell_there rows tracks row track ≡ true) ↔ ((row < rows) × (1 ≤ track) × (track ≤ tracks))
there-says rows tracks row track = (
  λ h.
      let first = and-true (ltb row rows) _ h in
      let second = and-true (leb 1 track) _ first.1 in
      (ltb-true row rows first.0, leb-true 1 track second.0, leb-true track tracks second.1),
  λ h. rw (lt-ltb row rows h.0, le-leb 1 track h.1, le-leb track tracks h.2),
)

module _ (m : List ℕ) (pattern : ℕ) (b : Block) (e : found m Pattern pattern ≡ Ok b) where
  -- The packed bytes are never cut.
  pub packed-whole : length (packed_bytes m b.at) ≡ pattern_packed_length m b.at
  unfolding size_of
  packed-whole = part_length m (b.at + 6) (pattern_packed_length m b.at) (omega (arith, block-ends m Pattern pattern b e))

  pub stream-accepted : check_answer (packed_bytes m b.at) (number16 m b.at) b.tracks ≡ Ok tt
  stream-accepted =
      let (l, o) = found-opened m Pattern pattern b e in
      let s = found-numbered m Pattern pattern b l o e in
      let streams = (module-opens m l o).content.streams in
      rw s.block ((accepted-says _).0
      (every_first ((every-place _ (size_of PatternBlock m) l.patterns (first_block PatternBlock l.spans.patt)).0 streams (pattern - 0) s.counted)))

  pub unpack-length : (room : ℕ) → cells_answer m pattern room ≡ length_if (cell_bytes (number16 m b.at) b.tracks) room
  unpack-length room = ap (cells_if m room) e ∙ unpacked (packed_bytes m b.at) (number16 m b.at) b.tracks stream-accepted room

  module _ (row track : ℕ) where
    pub cell-shown : HasCell m b row track → cell_answer m pattern row track ≡ Ok (shown_cell (stored_cell m b row track))
    cell-shown h =
        ap (cell_if m row track) e
        ∙ cell-there (packed_bytes m b.at) (number16 m b.at) b.tracks stream-accepted row track ((there-says _ _ row track).1 h)

    pub cell-not-there : (cell_answer m pattern row track ≡ Err (refusal NotThere 0)) ↔ (HasCell m b row track → ⊥)
    cell-not-there = (
      λ r h. (let shown = cell-shown h in let z : ◌≡◌ {A = ℕ} 0 1 = cc in absurd (omega arith)),
      λ none. go none (cell_there (number16 m b.at) b.tracks row track) refl,
    )
      where
        go : (HasCell m b row track → ⊥) → (t : Bool) → cell_there (number16 m b.at) b.tracks row track ≡ t
            → cell_answer m pattern row track ≡ Err (refusal NotThere 0)
        go none true h = absurd (none ((there-says _ _ row track).0 h))
        go none false h = ap (cell_if m row track) e ∙ cell-lacks (packed_bytes m b.at) (number16 m b.at) b.tracks stream-accepted row track h
