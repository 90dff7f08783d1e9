-- Cells packed into enough room, and what was written unpacked into enough room: the result is the cells, and the rest of both outputs is
-- unchanged.
use Prim.Native.Nat.{ℕ, ◌≤◌}
use Rattle.std.specs.Prelude.{Ok}
use mathlib.Core.Path.{◌≡◌}
use mathlib.Core.List.{List, ◌++◌}
use mathlib.Core.Bool.{true}
use borrow.Author.Tests.{eq-eqb, le-ltb}
use lib.ListN.{length, drop}
use lib.Seq.{take_at}
use Rattle.cells.specs.Cells.{sizes_fit, cell_bytes, rows_of}
use Rattle.packed_rows.specs.Stream.{AcceptedAs}
use Rattle.packed_rows.specs.Packer.{packed_stream, packed_length}
use Rattle.packed_rows.specs.Answers.{pack_answer, pack_output}
use Rattle.packed_rows.specs.Theorems.{written_to, PackedAndUnpacked}
use Rattle.packed_rows.proofs.Shortest.{round_trip}
use Rattle.packed_rows.proofs.StreamLength.{packed-length}
use Rattle.packed_rows.proofs.Unpacks.{unpacks-whole, unpacked-output}

module _ (rows tracks : ℕ) (cells out back : List ℕ) where
  abbrev n : ℕ
  n = packed_length (rows_of rows tracks cells)

  abbrev stream : List ℕ
  stream = packed_stream (rows_of rows tracks cells)

  -- The bytes that packing wrote.
  abbrev front : List ℕ
  front = written_to cells rows tracks out

  module _ (fit : sizes_fit rows tracks ≡ true) (sized : length cells ≡ cell_bytes rows tracks) (room : n ≤ length out) where
    packs : pack_answer cells rows tracks (length out) ≡ Ok n
    packs = simp (fit, eq-eqb (length cells) (cell_bytes rows tracks) sized, le-ltb (length out) n room)

    packed : pack_output cells rows tracks out ≡ stream ++ drop n out
    packed = rw packs

    written : front ≡ stream
    written = rw packed (take_at stream (drop n out) n (packed-length (rows_of rows tracks cells)))

    accepted : AcceptedAs rows tracks front cells
    accepted = rw written (round_trip rows tracks cells sized)

    pub packed-unpacked : cell_bytes rows tracks ≤ length back → PackedAndUnpacked rows tracks cells out back
    packed-unpacked enough = record {
      packs = packs;
      packed = packed;
      written = written;
      unpacks = unpacks-whole rows tracks front back fit enough cells accepted;
      unpacked = unpacked-output rows tracks front back fit enough cells accepted;
    }
