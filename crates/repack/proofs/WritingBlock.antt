-- Writing a pattern's rewritten block: its rows, then its stream after the place of the length, then the length, then the filler.
use Prim.Native.Nat.{ℕ, ◌+◌, ◌-◌, ◌%◌, ◌≤◌, ◌<◌}
use Rattle.std.specs.Prelude.{Ok}
use mathlib.Core.Path.{◌≡◌, refl, sym, ap, ◌∙◌}
use mathlib.Core.Logic.{◌≢◌}
use mathlib.Core.List.{List, [], ◌∷◌, ◌++◌, append_assoc, append-nil}
use native.Mathlib.Omega.{arith}
use native.Mathlib.Numerals.{add-one}
use lib.ListN.{length, get_or, take, drop, set, replicate, length-append}
use lib.Seq.{drop-cons, set_at}
use borrow.Rule.Slice.PartMut.{mid_of, put_mid}
use Rattle.numbers.specs.Numbers.{part_of, bytes32, put_at}
use Rattle.blocks.specs.StoredFields.{pattern_packed_length}
use Rattle.module.specs.Streams.{stream_verdict}
use Rattle.acceptance.proofs.Locating.{part_length}
use Rattle.acceptance.proofs.Ends.{copied}
use Rattle.repack.specs.Repacked.{packed, repacked_stream, repacked_block}
use Rattle.repack.proofs.Rewritten.{block_size}
use Rattle.repack.proofs.LengthBefore.{lent_length, third-is}

-- A stream of even length ends the block; after one of odd length comes a filler.
module _ (rows stream out third : List ℕ) (n : ℕ) (two : length rows ≡ 2) (size : n ≡ length stream)
    (is : third ≡ rows ++ (bytes32 n ++ (stream ++ drop (6 + n) out))) where
  even-written : n % 2 ≡ 0 → (6 + n ≡ length (rows ++ packed stream)) × (third ≡ (rows ++ packed stream) ++ drop (6 + n) out)
  even-written even =
      let none : replicate {A = ℕ} (length stream % 2) 0 ≡ [] =
      ap (λ (k : ℕ). replicate {A = ℕ} (k % 2) 0) (sym size) ∙ ap (λ (k : ℕ). replicate {A = ℕ} k 0) even in
      let whole : packed stream ≡ bytes32 n ++ stream = rw (none, append-nil stream, ← size) refl in
      (omega (arith, ap length whole, length-append rows (packed stream), two, size), is ∙ rw whole (simp append_assoc))

  odd-written : n % 2 ≡ 1 → 6 + n < length out
      → (6 + n + 1 ≡ length (rows ++ packed stream)) × (set third (6 + n) 0 ≡ (rows ++ packed stream) ++ drop (6 + n + 1) out)
  odd-written odd more =
      let one : replicate {A = ℕ} (length stream % 2) 0 ≡ 0 ∷ [] =
      ap (λ (k : ℕ). replicate {A = ℕ} (k % 2) 0) (sym size) ∙ ap (λ (k : ℕ). replicate {A = ℕ} k 0) odd in
      let whole : packed stream ≡ bytes32 n ++ (stream ++ (0 ∷ [])) = rw (one, ← size) refl in
      let front : List ℕ = rows ++ (bytes32 n ++ stream) in
      let long : length front ≡ 6 + n = omega (arith, length-append rows (bytes32 n ++ stream), two, size) in
      let cut : drop (6 + n) out ≡ get_or out (6 + n) 0 ∷ drop (6 + n + 1) out = rw (add-one (6 + n)) (drop-cons out (6 + n) 0 more) in
      let split : third ≡ front ++ (get_or out (6 + n) 0 ∷ drop (6 + n + 1) out) = is ∙ rw cut (simp append_assoc) in (
        omega (arith, ap length whole, length-append rows (packed stream), length-append stream (0 ∷ []), two, size),
        ap (λ (l : List ℕ). set l (6 + n) 0) split
            ∙ set_at front (get_or out (6 + n) 0) (drop (6 + n + 1) out) 0 (6 + n) long
            ∙ rw whole (simp append_assoc),
      )

-- The same for a pattern at a place of a module, from the arguments and the answers of the calls.
module _ (m : List ℕ) (tracks at : ℕ) (inside : at + 6 ≤ length m) (sound : stream_verdict m tracks at ≡ Ok tt) where
  pub block-long : length (repacked_block m tracks at) ≡ 6 + length (repacked_stream m tracks at) + length (repacked_stream m tracks at) % 2
  block-long = block_size m tracks at sound (omega arith)

  two : length (part_of m at 2) ≡ 2
  two = part_length m at 2 (omega arith)

  module _ (out : List ℕ) (room : length (repacked_block m tracks at) ≤ length out) {source : List ℕ} (s : source ≡ part_of m at 2) where
    six-fit : 6 ≤ length out
    six-fit = omega (arith, room, block-long)

    pub rows_fit : length source ≤ length out
    rows_fit = omega (arith, ap length s, two, six-fit)

    module _ {first : List ℕ} (copy : first ≡ take (length source) source ++ drop (length source) out) {n : ℕ} {mid : List ℕ}
        (reported : (n ≡ length (repacked_stream m tracks at))
        × (n ≤ pattern_packed_length m at)
        × (n < 0x100000000)
        × (n ≤ length (mid_of 6 (length first - 6) first) → mid ≡ repacked_stream m tracks at ++ drop n (mid_of 6 (length first - 6) first)))
      where
        rows-first : first ≡ part_of m at 2 ++ drop 2 out
        rows-first = copied source (part_of m at 2) out first s copy ∙ ap (λ (k : ℕ). part_of m at 2 ++ drop k out) two

        enough : 6 + n ≤ length out
        enough = omega (arith, reported.0, room, block-long)

        stream-next : mid ≡ repacked_stream m tracks at ++ drop n (mid_of 6 (length first - 6) first)
        stream-next = reported.3 (omega (arith, lent_length (part_of m at 2) out first 2 two six-fit rows-first, enough))

        abbrev following : List ℕ
        following = put_mid 6 (length first - 6) first mid

        module _ {whole : List ℕ} (put : whole ≡ put_at (bytes32 n) 2 following) where
          whole_is : whole ≡ part_of m at 2 ++ (bytes32 n ++ (repacked_stream m tracks at ++ drop (6 + n) out))
          whole_is = put ∙ third-is (part_of m at 2) out first 2 two six-fit rows-first (repacked_stream m tracks at) mid n reported.0 enough stream-next

          pub even-block : n % 2 ≡ 0 → (6 + n ≡ length (repacked_block m tracks at)) × (whole ≡ repacked_block m tracks at ++ drop (6 + n) out)
          even-block = even-written (part_of m at 2) (repacked_stream m tracks at) out whole n two reported.0 whole_is

          pub odd-block : n % 2 ≢ 0
              → (6 + n + 1 ≡ length (repacked_block m tracks at)) × (set whole (6 + n) 0 ≡ repacked_block m tracks at ++ drop (6 + n + 1) out)
          odd-block h =
              let odd : n % 2 ≡ 1 = omega arith in
              odd-written (part_of m at 2) (repacked_stream m tracks at) out whole n two reported.0 whole_is odd
              (omega (arith, odd, reported.0, room, block-long))
