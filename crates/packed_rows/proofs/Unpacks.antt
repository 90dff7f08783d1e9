-- The answer and the output of unpacking into enough room determine which streams hold which cells.
use Prim.Native.Nat.{ℕ, ◌≤◌}
use Rattle.std.specs.Prelude.{Ok, Err}
use native.Mathlib.Omega.{arith}
use mathlib.Core.Path.{◌≡◌, refl, sym, ◌∙◌}
use mathlib.Core.Logic.{◌↔◌}
use mathlib.Core.List.{List, ◌++◌}
use mathlib.Core.Bool.{true}
use borrow.Author.Tests.{le-ltb}
use lib.ListN.{length, take, drop}
use lib.Seq.{take_at}
use Rattle.refusal.specs.Numbers.{refusal}
use Rattle.refusal.specs.declared.Reason.TheVariants.{Stream}
use Rattle.cells.specs.Cells.{sizes_fit, cell_bytes, bytes_of}
use Rattle.packed_rows.specs.Entries.{rows_from}
use Rattle.packed_rows.specs.Stream.{Reading, broken_at, whole, read_stream, AcceptedAs}
use Rattle.packed_rows.specs.Answers.{verdict_of_reading, unpacked_if, unpack_answer, unpack_output}
use Rattle.packed_rows.proofs.Accepted.{accepted-length}

module _ (rows tracks : ℕ) (stream out : List ℕ) (fit : sizes_fit rows tracks ≡ true) (room : cell_bytes rows tracks ≤ length out) where
  -- The answer, by the reading.
  unpack-answer : (r : Reading) → read_stream rows tracks stream ≡ r
      → unpack_answer stream rows tracks (length out) ≡ unpacked_if (verdict_of_reading r) (cell_bytes rows tracks)
  unpack-answer r q = simp (fit, le-ltb (length out) (cell_bytes rows tracks) room, q)

  module _ (cells : List ℕ) (accepted : AcceptedAs rows tracks stream cells) where
    pub unpacks-whole : unpack_answer stream rows tracks (length out) ≡ Ok (cell_bytes rows tracks)
    unpacks-whole = unpack-answer (whole accepted.entries) accepted.read

    -- The output begins with the cells, and the rest of it is unchanged.
    pub unpacked-output : unpack_output stream rows tracks out ≡ cells ++ drop (cell_bytes rows tracks) out
    unpacked-output = rw (unpacks-whole, accepted.read, accepted.gives)

    unpacked-front : take (cell_bytes rows tracks) (unpack_output stream rows tracks out) ≡ cells
    unpacked-front = rw unpacked-output (take_at cells (drop (cell_bytes rows tracks) out) (cell_bytes rows tracks) (accepted-length accepted))

pub unpacks-exactly : (rows tracks : ℕ) (stream cells out : List ℕ) → sizes_fit rows tracks ≡ true → cell_bytes rows tracks ≤ length out
    → AcceptedAs rows tracks stream cells
    ↔ ((unpack_answer stream rows tracks (length out) ≡ Ok (cell_bytes rows tracks))
    × (take (cell_bytes rows tracks) (unpack_output stream rows tracks out) ≡ cells))
unpacks-exactly rows tracks stream cells out fit room =
    (there, λ h. back (read_stream rows tracks stream) refl h.0 h.1)
  where
    there : AcceptedAs rows tracks stream cells
        → (unpack_answer stream rows tracks (length out) ≡ Ok (cell_bytes rows tracks))
        × (take (cell_bytes rows tracks) (unpack_output stream rows tracks out) ≡ cells)
    there accepted =
        (unpacks-whole rows tracks stream out fit room cells accepted, unpacked-front rows tracks stream out fit room cells accepted)

    back : (r : Reading) → read_stream rows tracks stream ≡ r
        → unpack_answer stream rows tracks (length out) ≡ Ok (cell_bytes rows tracks)
        → take (cell_bytes rows tracks) (unpack_output stream rows tracks out) ≡ cells
        → AcceptedAs rows tracks stream cells
    back (broken_at p) q a t =
        let refused : unpack_answer stream rows tracks (length out) ≡ Err (refusal Stream p) =
        unpack-answer rows tracks stream out fit room (broken_at p) q in
        let z : ◌≡◌ {A = ℕ} 0 1 = cc in
        absurd (omega arith)
    back (whole entries) q a t =
        let accepted : AcceptedAs rows tracks stream (bytes_of (rows_from tracks entries)) = record { entries = entries; read = q; gives = refl } in
        rw (sym (unpacked-front rows tracks stream out fit room (bytes_of (rows_from tracks entries)) accepted) ∙ t) at accepted
