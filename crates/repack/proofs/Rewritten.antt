-- The packer's stream of a pattern with a sound stream, and the pattern's rewritten block: what repacking the stream answers and writes,
-- their lengths, and that they are no longer than before.
use Prim.Native.Nat.{ℕ, ◌+◌, ◌%◌, ◌≤◌, ◌<◌}
use Rattle.std.specs.Prelude.{Result, Ok, Err}
use Rattle.refusal.specs.declared.Refusal.{Refusal}
use Rattle.refusal.specs.Lengths.{needed_if}
use mathlib.Core.Path.{◌≡◌, refl, sym, ap, ◌∙◌}
use mathlib.Core.List.{List, ◌++◌}
use mathlib.Core.Bool.{Bool, true, false, cond}
use native.Mathlib.Omega.{arith}
use lib.ListN.{length, drop, replicate, length-append, length-take, length-replicate}
use lib.Dec.{ltb}
use borrow.Author.Tests.{le-ltb}
use Rattle.refusal.specs.Numbers.{refusal}
use Rattle.refusal.specs.declared.Reason.TheVariants.{Room}
use Rattle.cells.specs.Cells.{sizes_fit, rows_of}
use Rattle.numbers.specs.Numbers.{part_of}
use Rattle.packed_rows.specs.Entries.{rows_from}
use Rattle.packed_rows.specs.Stream.{Reading, read_stream, entries_read, cells_read}
use Rattle.packed_rows.specs.Packer.{packed_length}
use Rattle.packed_rows.specs.Answers.{verdict_of_reading, repack_stream_answer, repack_stream_output}
use Rattle.packed_rows.proofs.StreamLength.{packed-length}
use Rattle.packed_rows.proofs.Repacking.{repack-found}
use Rattle.packed_rows.proofs.Accepted.{accepted-rows}
use Rattle.packed_rows.proofs.Theorems.{none-shorter}
use Rattle.blocks.specs.StoredFields.{pattern_rows, pattern_packed_length, packed_bytes}
use Rattle.blocks.specs.Sizes.{size_of}
use Rattle.blocks.specs.declared.BlockKind.TheVariants.{Pattern}
use Rattle.module.specs.Streams.{stream_verdict}
use Rattle.acceptance.proofs.Locating.{part_length}
use Rattle.acceptance.proofs.BlockStreams.{accepted-sizes, holds}
use Rattle.repack.specs.Repacked.{packed, repacked_stream, repacked_block}

-- A stream with its length and its filler.
pub packed-size : (stream : List ℕ) → length (packed stream) ≡ 4 + length stream + length stream % 2
packed-size stream =
    omega (arith, length-append stream (replicate (length stream % 2) 0), length-replicate {A = ℕ} (length stream % 2) 0)

-- A shorter stream does not make the block longer.
filled-shorter : (n k : ℕ) → n ≤ k → n + n % 2 ≤ k + k % 2
filled-shorter n k h = omega arith

module _ (m : List ℕ) (tracks at : ℕ) (sound : stream_verdict m tracks at ≡ Ok tt) where
  fits : sizes_fit (pattern_rows m at) tracks ≡ true
  fits = accepted-sizes (packed_bytes m at) (pattern_rows m at) tracks sound

  read : Reading
  read = read_stream (pattern_rows m at) tracks (packed_bytes m at)

  read-sound : verdict_of_reading (read_stream (pattern_rows m at) tracks (packed_bytes m at)) ≡ Ok tt
  read-sound = simp fits at sound

  stream-length : length (repacked_stream m tracks at)
      ≡ packed_length (rows_from tracks (entries_read (read_stream (pattern_rows m at) tracks (packed_bytes m at))))
  stream-length = packed-length (rows_from tracks (entries_read (read_stream (pattern_rows m at) tracks (packed_bytes m at))))

  pub stream-answer : (room : ℕ)
      → repack_stream_answer (packed_bytes m at) (pattern_rows m at) tracks room
      ≡ needed_if (length (repacked_stream m tracks at)) room
  stream-answer room = rw stream-length (simp fits (sym (repack-found (read_stream (pattern_rows m at) tracks (packed_bytes m at)) tracks room read-sound)))

  pub stream-output : (out : List ℕ) → length (repacked_stream m tracks at) ≤ length out
      → repack_stream_output (packed_bytes m at) (pattern_rows m at) tracks out ≡ repacked_stream m tracks at ++ drop (length (repacked_stream m tracks at)) out
  stream-output out h = simp (stream-answer (length out), le-ltb (length out) (length (repacked_stream m tracks at)) h)

  pub stream-shorter : length (repacked_stream m tracks at) ≤ length (packed_bytes m at)
  stream-shorter =
      let accepted = holds (packed_bytes m at) (pattern_rows m at) tracks sound in
      let least = none-shorter (pattern_rows m at) tracks (packed_bytes m at) (cells_read (pattern_rows m at) tracks (packed_bytes m at)) accepted in
      let same : packed_length (rows_of (pattern_rows m at) tracks (cells_read (pattern_rows m at) tracks (packed_bytes m at)))
      ≡ packed_length (rows_from tracks (entries_read (read_stream (pattern_rows m at) tracks (packed_bytes m at)))) =
      ap packed_length
      (accepted-rows accepted ∙ ap (λ (r : Reading). rows_from tracks (entries_read r)) (sym accepted.read)) in
      omega (arith, stream-length, least, same)

  pub stream-least : length (repacked_stream m tracks at) ≤ pattern_packed_length m at
  stream-least = omega (arith, stream-shorter, length-take (pattern_packed_length m at) (drop (at + 6) m))

  module _ (inside : at + 2 ≤ length m) where
    pub block_size : length (repacked_block m tracks at) ≡ 6 + length (repacked_stream m tracks at) + length (repacked_stream m tracks at) % 2
    block_size =
        omega (
          arith,
          length-append (part_of m at 2) (packed (repacked_stream m tracks at)),
          part_length m at 2 inside,
          packed-size (repacked_stream m tracks at),
        )

    pub block-shorter : length (repacked_block m tracks at) ≤ size_of Pattern m at
    unfolding size_of
    block-shorter = omega (arith, block_size, filled-shorter (length (repacked_stream m tracks at)) (pattern_packed_length m at) stream-least)

-- The length that repacking a stream answers, with or without enough room.
abbrev pub length_answered : Result ℕ Refusal → ℕ
length_answered (Ok n) = n
length_answered (Err r) = r.place

answered-needed : (needed room : ℕ) → length_answered (needed_if needed room) ≡ needed
answered-needed needed room = go (ltb room needed)
  where
    go : (lacks : Bool) → length_answered (cond lacks (Err (refusal Room needed)) (Ok needed)) ≡ needed
    go true = refl
    go false = refl

-- The result of repacking the stream of a pattern, from the arguments and the answer of its call.
pub stream-done : (m : List ℕ) (tracks at : ℕ) → stream_verdict m tracks at ≡ Ok tt
    → (p : Result ℕ Refusal) (stream out out' : List ℕ) (rows n : ℕ) → (stream ≡ packed_bytes m at) × (length stream < 0x100000000)
    → rows ≡ pattern_rows m at → p ≡ repack_stream_answer stream rows tracks (length out) → out' ≡ repack_stream_output stream rows tracks out
    → n ≡ length_answered p
    → (n ≡ length (repacked_stream m tracks at))
    × (n ≤ pattern_packed_length m at)
    × (n < 0x100000000)
    × (n ≤ length out → out' ≡ repacked_stream m tracks at ++ drop n out)
stream-done m tracks at sound p stream out out' rows n (same, below) r answered written reported = (
  is,
  omega (arith, is, least),
  omega (arith, is, stream-shorter m tracks at sound, ap length same, below),
  λ h. rw is (written ∙ rw (same, r) (stream-output m tracks at sound out (rw is at h))),
)
  where
    is : n ≡ length (repacked_stream m tracks at)
    is =
        let answer : p ≡ needed_if (length (repacked_stream m tracks at)) (length out) =
        answered ∙ rw (same, r) (stream-answer m tracks at sound (length out)) in
        reported ∙ ap length_answered answer ∙ answered-needed (length (repacked_stream m tracks at)) (length out)

    least : length (repacked_stream m tracks at) ≤ pattern_packed_length m at
    least = stream-least m tracks at sound
