-- The theorems about packed rows. In plain words, for all numbers of rows and tracks, every stream, and every list of
-- rows × tracks × 6 numbers as cells:
--
--  1. Packing any cells and reading the stream gives the cells.
--  2. The packed length is 1 for each row, 2 for each non-empty cell and 1 for each field that is not 0. It is at most
--     rows × (1 + 8 × tracks). The length that packing answers and the place of its refusal 17 are the packed length.
--  3. A stream that is accepted as certain cells is never shorter than the packer's stream of these cells.
--  4. A stream of exactly that length is accepted as the cells exactly when it is, row by row, the packer's entries for that row,
--     each once and unchanged but for bits 6 and 7 of the mask, in some order, and then the row end. And unpacking a stream into
--     enough room succeeds with certain cells exactly when the stream is accepted as these cells.
--  5. In an accepted stream, a field of a cell holds what the last entry of its row and track that names the field stored there,
--     and 0 if none names it.
--  6. A stream is read as rows of entries exactly when there are as many of these rows as the pattern has, all of their entries
--     are sound, and the stream is their bytes, each row with its row end. A stream has at most one such list of rows. The check
--     accepts exactly these streams.
--  7. A stream is refused with 15 at a place exactly when up to the place it is full rows and entries of an unfinished row, all
--     sound, and there it is broken in one of three ways: rows are left, and the bytes that follow begin with neither a row end nor
--     a sound entry; or the rows are full, no row is unfinished, and bytes follow; or rows are left and nothing follows. There is one
--     such place. No proper beginning of an accepted stream is accepted with the same rows and tracks.
-- 22. The number of fields that a mask names is the sum of its bits 0 to 5. For the masks 0 to 255 these numbers add up to 768.
-- 25. Packing any pattern into enough room and unpacking what was written into enough room gives the pattern's bytes; the rest of
--     both outputs is unchanged. This is for rows and tracks that fit, for cells of these rows and tracks, and for every output of at
--     least the packed length and every other output of at least the length of the cells.
-- 29. Bits 6 and 7 of masks are ignored. Rows of entries that are sound without these bits are accepted as certain cells exactly when the
--     same rows without the bits are. For two streams that are the same but for these bits, broken streams too, the check answers the
--     same; unpacking, repacking and reading one cell answer the same and leave the same in every output; and the patterns that the
--     streams hold have no differences. The packer's entries have none of these bits.
--
-- The reader is `read_stream`, the packer `packed_stream`, the length `packed_length`: the definitions that the contracts cite.
use Prim.Native.Nat.{ℕ, ◌+◌, ◌-◌, ◌*◌, ◌/◌, ◌%◌, ◌<◌, ◌≤◌}
use Rattle.std.specs.Prelude.{Ok, Err}
use mathlib.Core.Logic.{◌↔◌}
use mathlib.Core.Path.{◌≡◌, refl}
use mathlib.Core.List.{List, [], ◌++◌, map, foldr}
use mathlib.Core.Bool.{true}
use lib.ListN.{length, get_or, take}
use Rattle.refusal.specs.Numbers.{refusal}
use Rattle.refusal.specs.declared.Reason.TheVariants.{Stream, Room}
use Rattle.cells.specs.Cells.{sizes_fit, cell_bytes, rows_of, groups_of, non_zeros, non_empty_cells}
use Rattle.numbers.specs.Numbers.{each_from}
use Rattle.packed_rows.specs.Entries.{Entry, fields_named, stream_of}
use Rattle.packed_rows.specs.Stream.{read_stream, whole, broken_at, AcceptedAs}
use Rattle.packed_rows.specs.Packer.{packed_entries, packed_stream, packed_length}
use Rattle.packed_rows.specs.Answers.{check_answer, unpack_answer, unpack_output, pack_answer}
use Rattle.packed_rows.specs.Theorems.{all_sound, SoundStream, without_upper_bits, Reordered, SameButUpperBits, LastStored, StreamBroken}
use Rattle.packed_rows.specs.Theorems.{PackedAndUnpacked, SameAnswers}
use Rattle.packed_rows.proofs.Grammar as Grammar
use Rattle.packed_rows.proofs.Shortest as Shortest
use Rattle.packed_rows.proofs.StreamLength as StreamLength
use Rattle.packed_rows.proofs.LastEntry as LastEntry
use Rattle.packed_rows.proofs.Unpacks as Unpacks
use Rattle.packed_rows.proofs.Verdicts as Verdicts
use Rattle.packed_rows.proofs.PackedUnpacked as PackedUnpacked
use Rattle.packed_rows.proofs.Shapes as Shapes
use Rattle.packed_rows.proofs.Lengths as Lengths
use Rattle.packed_rows.proofs.UpperBits as UpperBits
use Rattle.packed_rows.proofs.IgnoredBits as IgnoredBits

-- 22.
pub fields-named-bits : (mask : ℕ)
    → fields_named mask ≡ mask % 2 + mask / 2 % 2 + mask / 4 % 2 + mask / 8 % 2 + mask / 16 % 2 + mask / 32 % 2
fields-named-bits = Lengths.fields-named-bits

pub fields-named-sum : foldr ◌+◌ 0 (each_from fields_named 0 256) ≡ 768
fields-named-sum = refl

module _ (rows tracks : ℕ) where
  -- 1.
  pub round_trip : (cells : List ℕ) → length cells ≡ cell_bytes rows tracks → AcceptedAs rows tracks (packed_stream (rows_of rows tracks cells)) cells
  round_trip = Shortest.round_trip rows tracks

  -- 2.
  pub packed-length : (cells : List ℕ) → length (packed_stream (rows_of rows tracks cells)) ≡ packed_length (rows_of rows tracks cells)
  packed-length cells = StreamLength.packed-length (rows_of rows tracks cells)

  pub packed-length-is : (cells : List ℕ) → length cells ≡ cell_bytes rows tracks
      → packed_length (rows_of rows tracks cells) ≡ rows + (2 * non_empty_cells (groups_of (rows * tracks) 6 cells) + length (non_zeros cells))
  packed-length-is = StreamLength.packed-length-cells rows tracks

  pub packed-length-at-most : (cells : List ℕ) → length cells ≡ cell_bytes rows tracks → packed_length (rows_of rows tracks cells) ≤ rows * (1 + 8 * tracks)
  packed-length-at-most = StreamLength.packed-length-at-most rows tracks

  pub packed-length-answered : (cells : List ℕ) (room n : ℕ) → pack_answer cells rows tracks room ≡ Ok n → n ≡ packed_length (rows_of rows tracks cells)
  packed-length-answered = Verdicts.pack-answers rows tracks

  pub packed-length-needed : (cells : List ℕ) (room n : ℕ)
      → pack_answer cells rows tracks room ≡ Err (refusal Room n)
      → n ≡ packed_length (rows_of rows tracks cells)
  packed-length-needed = Verdicts.pack-needs rows tracks

  -- 3.
  pub none-shorter : (stream cells : List ℕ) → AcceptedAs rows tracks stream cells → packed_length (rows_of rows tracks cells) ≤ length stream
  none-shorter = Shortest.none-shorter rows tracks

  -- 4.
  pub equal-length : (stream cells : List ℕ) → length cells ≡ cell_bytes rows tracks
      → length stream ≡ packed_length (rows_of rows tracks cells)
      → AcceptedAs rows tracks stream cells ↔ Reordered (rows_of rows tracks cells) stream
  equal-length = Shortest.equal-length rows tracks

  pub unpacks-exactly : (stream cells out : List ℕ) → sizes_fit rows tracks ≡ true → cell_bytes rows tracks ≤ length out
      → AcceptedAs rows tracks stream cells
      ↔ ((unpack_answer stream rows tracks (length out) ≡ Ok (cell_bytes rows tracks))
      × (take (cell_bytes rows tracks) (unpack_output stream rows tracks out) ≡ cells))
  unpacks-exactly = Unpacks.unpacks-exactly rows tracks

  -- 5.
  pub last_stored : (stream cells : List ℕ) (accepted : AcceptedAs rows tracks stream cells) (row track field : ℕ)
      → row < rows → 1 ≤ track → track ≤ tracks → field < 6
      → LastStored track field (get_or accepted.entries row []) (get_or cells (row * (tracks * 6) + ((track - 1) * 6 + field)) 0)
  last_stored = LastEntry.last_stored rows tracks

  -- 6.
  pub reads-exactly : (stream : List ℕ) (entries : List (List Entry))
      → (read_stream rows tracks stream ≡ whole entries) ↔ SoundStream rows tracks stream entries
  reads-exactly = Grammar.reads-exactly rows tracks

  pub reads-one : (stream : List ℕ) (entries entries' : List (List Entry)) → SoundStream rows tracks stream entries
      → SoundStream rows tracks stream entries'
      → entries ≡ entries'
  reads-one = Grammar.reads-one rows tracks

  pub accepts-exactly : (stream : List ℕ) → sizes_fit rows tracks ≡ true
      → (check_answer stream rows tracks ≡ Ok tt) ↔ ((entries : List (List Entry)) × SoundStream rows tracks stream entries)
  accepts-exactly = Verdicts.accepts-exactly rows tracks

  -- 7.
  pub breaks-exactly : (stream : List ℕ) (place : ℕ) → (read_stream rows tracks stream ≡ broken_at place) ↔ StreamBroken rows tracks stream place
  breaks-exactly = Grammar.refused-exactly rows tracks

  pub refuses-exactly : (stream : List ℕ) (place : ℕ) → sizes_fit rows tracks ≡ true
      → (check_answer stream rows tracks ≡ Err (refusal Stream place)) ↔ StreamBroken rows tracks stream place
  refuses-exactly = Verdicts.refuses-exactly rows tracks

  pub one_place : (stream : List ℕ) (place place' : ℕ) → StreamBroken rows tracks stream place → StreamBroken rows tracks stream place' → place ≡ place'
  one_place = Grammar.one_place rows tracks

  pub no-proper-beginning : (stream more : List ℕ) (entries entries' : List (List Entry))
      → read_stream rows tracks stream ≡ whole entries → read_stream rows tracks (stream ++ more) ≡ whole entries'
      → more ≡ []
  no-proper-beginning = Grammar.no-proper-beginning rows tracks

  -- 25.
  pub packed-unpacked : (cells out back : List ℕ) → sizes_fit rows tracks ≡ true → length cells ≡ cell_bytes rows tracks
      → packed_length (rows_of rows tracks cells) ≤ length out → cell_bytes rows tracks ≤ length back → PackedAndUnpacked rows tracks cells out back
  packed-unpacked = PackedUnpacked.packed-unpacked rows tracks

  -- 29.
  pub upper-bits-ignored : (entries : List (List Entry)) (cells : List ℕ) → all_sound tracks (map (map without_upper_bits) entries) ≡ true
      → AcceptedAs rows tracks (stream_of entries) cells ↔ AcceptedAs rows tracks (stream_of (map (map without_upper_bits) entries)) cells
  upper-bits-ignored = IgnoredBits.upper-bits-ignored rows tracks

  pub same-but-upper-bits : (stream stream' : List ℕ) → SameButUpperBits tracks stream stream' → SameAnswers rows tracks stream stream'
  same-but-upper-bits = IgnoredBits.same-answers rows tracks

  pub packed-without-upper-bits : (cells : List ℕ) → length cells ≡ cell_bytes rows tracks
      → map (map without_upper_bits) (map packed_entries (rows_of rows tracks cells)) ≡ map packed_entries (rows_of rows tracks cells)
  packed-without-upper-bits cells l = UpperBits.packed-rows-low (rows_of rows tracks cells) (Shapes.rows-shaped rows tracks cells l)
