-- A repacked pattern: its encoding is the rewritten block of the pattern's encoding, and it is well formed.
use Prim.Native.Nat.{ℕ, ◌%◌, ◌≤◌}
use mathlib.Core.Path.{◌≡◌, refl, sym, ap, ◌∙◌}
use mathlib.Core.List.{List, [], ◌∷◌, ◌++◌, map}
use mathlib.Core.Bool.{true}
use native.Mathlib.Omega.{arith}
use lib.ListN.{length, length-map, length-replicate}
use Rattle.numbers.specs.Numbers.{number16, part_of, bytes16}
use Rattle.numbers.proofs.AllBytes.{bytes-replicate}
use Rattle.packed_rows.specs.Entries.{Entry, row_from, rows_from, stream_of}
use Rattle.packed_rows.specs.Stream.{whole, read_stream, entries_read, AcceptedAs}
use Rattle.packed_rows.specs.Packer.{packed_entries, packed_stream, packed_length}
use Rattle.packed_rows.specs.Theorems.{all_sound}
use Rattle.packed_rows.proofs.Reading.{true-and}
use Rattle.packed_rows.proofs.Shapes.{row-from-shaped}
use Rattle.packed_rows.proofs.PackedRow.{packs}
use Rattle.packed_rows.proofs.Soundness.{entries-sound}
use Rattle.packed_rows.proofs.StreamLength.{packed-length}
use Rattle.packed_rows.proofs.Accepted.{accepted-rows}
use Rattle.packed_rows.proofs.Theorems.{none-shorter, reads-exactly}
use Rattle.blocks.specs.StoredFields.{packed_bytes}
use Rattle.repack.specs.Repacked.{packed}
use Rattle.repack_theorems.proofs.PackedBytes.{repacked-bytes}
use Rattle.repack_theorems.proofs.RewrittenBlock.{rewritten_block}
use Rattle.format.specs.Description.{Pattern}
use Rattle.format.specs.Encoding.{pattern_bytes}
use Rattle.format.specs.WellFormed.{PatternFits}
use Rattle.format.specs.Repacked.{repacked_pattern}
use Rattle.format.proofs.ReadingBlocks.{pattern-rows, pattern-packed, pattern-stream}

-- The number of rows is unchanged.
pub rows-many : (tracks : ℕ) (rows : List (List Entry)) → length (map packed_entries (rows_from tracks rows)) ≡ length rows
rows-many tracks rows = length-map (rows_from tracks rows) packed_entries ∙ length-map rows (row_from tracks)

-- The packer's entries are sound.
rows-sound : (tracks : ℕ) (rows : List (List Entry)) → all_sound tracks (map packed_entries (rows_from tracks rows)) ≡ true
rows-sound tracks [] = refl
rows-sound tracks (es ∷ rows) =
    true-and (entries-sound tracks (packs 1 (row_from tracks es)) (row-from-shaped tracks es) (omega arith) (omega arith))
    (rows-sound tracks rows)

module _ (tracks : ℕ) (p : Pattern) (fits : PatternFits tracks p) where
  abbrev rewritten : List (List Entry)
  rewritten = map packed_entries (rows_from tracks p.rows)

  -- The stream is read as the rows.
  reads : read_stream (length p.rows) tracks (stream_of p.rows) ≡ whole p.rows
  reads = (reads-exactly (length p.rows) tracks (stream_of p.rows) p.rows).1 (record { count = refl; sound = fits.sound; bytes = refl })

  pub pattern-rewritten : rewritten_block tracks (pattern_bytes p) ≡ pattern_bytes (repacked_pattern tracks p)
  pattern-rewritten =
      let stream : packed_bytes (pattern_bytes p) 0 ≡ stream_of p.rows = ap (part_of (pattern_bytes p) 6) (pattern-packed p) ∙ pattern-stream p in
      let read : entries_read (read_stream (number16 (pattern_bytes p) 0) tracks (packed_bytes (pattern_bytes p) 0)) ≡ p.rows =
      rw (pattern-rows p, stream, reads) refl in
      ap (λ (entries : List (List Entry)). bytes16 (length p.rows) ++ packed (packed_stream (rows_from tracks entries))) read
      ∙ ap (λ (n : ℕ). bytes16 n ++ packed (stream_of rewritten)) (sym (rows-many tracks p.rows))

  -- The stream is no longer than before.
  shorter : length (stream_of rewritten) ≤ length (stream_of p.rows)
  shorter =
      let accepted : AcceptedAs (length p.rows) tracks (stream_of p.rows) _ = record { entries = p.rows; read = reads; gives = refl } in
      omega (
        arith,
        packed-length (rows_from tracks p.rows),
        none-shorter (length p.rows) tracks (stream_of p.rows) _ accepted,
        ap packed_length (accepted-rows accepted),
      )

  pub pattern-fits : tracks ≤ 254 → PatternFits tracks (repacked_pattern tracks p)
  pattern-fits few = record {
    many = rw (rows-many tracks p.rows) fits.many;
    packed = omega (arith, shorter, fits.packed);
    sound = rows-sound tracks p.rows;
    bytes = repacked-bytes tracks few p.rows fits.bytes;
    filler = (length-replicate (length (stream_of rewritten) % 2) 0, bytes-replicate (length (stream_of rewritten) % 2));
  }
