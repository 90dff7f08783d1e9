-- A loop that writes numbers as 2 bytes each, from the front on: one more number is written.
use Prim.Native.Nat.{ℕ, zero, suc, ◌+◌, ◌*◌, ◌/◌, ◌%◌, ◌<◌, ◌≤◌}
use mathlib.Core.Path.{◌≡◌, refl, sym, ap, ◌∙◌}
use mathlib.Core.List.{List, ◌++◌}
use native.Mathlib.Omega.{arith}
use native.Mathlib.Numerals.{add-one, unary_clauses}
use lib.ListN.{length, drop, set, length-append, length-drop}
use lib.IntN.{ℤ}
use Rattle.vocabulary.specs.Lists.{joined}
use Rattle.numbers.specs.Numbers.{signed16, each_from, bytes16, unsigned16, put_at}
use Rattle.numbers.proofs.PutBytes.{put-after, put-sets}
use Rattle.samples.proofs.SixteenBits.{stored-again}

module _ (f : ℕ → ℤ) where
  -- The n numbers from a number on, 2 bytes each.
  abbrev pub pairs : ℕ → ℕ → List ℕ
  pairs k n = joined (each_from (λ (i : ℕ). bytes16 (unsigned16 (f i))) k n)

  pub pairs-length : (n k : ℕ) → length (pairs k n) ≡ 2 * n
  pairs-length zero k = refl
  pairs-length (suc n) k = omega (arith, pairs-length n (k + 1))

  -- One more number, and the bytes after it.
  pairs-more : (n k : ℕ) (rest : List ℕ) → pairs k (suc n) ++ rest ≡ pairs k n ++ (bytes16 (unsigned16 (f (k + n))) ++ rest)
  pairs-more zero k rest = ap (λ (i : ℕ). bytes16 (unsigned16 (f i)) ++ rest) (omega arith)
  pairs-more (suc n) k rest =
      let again = pairs-more n (k + 1) rest in
      ap (λ (t : List ℕ). bytes16 (unsigned16 (f k)) ++ t) (again ∙ ap (λ (i : ℕ). pairs (k + 1) n ++ (bytes16 (unsigned16 (f i)) ++ rest)) (omega arith))

-- The first i numbers are written, and room is left for the others.
pub record Writing (f : ℕ → ℤ) (n : ℕ) (out : List ℕ) (i : ℕ) : Type 0 where
  pub rest : List ℕ
  pub same : out ≡ pairs f 0 i ++ rest
  pub room : 2 * i + length rest ≡ 2 * n

module _ (f : ℕ → ℤ) (n : ℕ) where
  pub writing-length : (out : List ℕ) (i : ℕ) → Writing f n out i → length out ≡ 2 * n
  writing-length out i h =
      let joint : length out ≡ length (pairs f 0 i) + length h.rest = ap length h.same ∙ length-append (pairs f 0 i) h.rest in
      omega (arith, pairs-length f i 0, h.room)

  pub writing-turn : (out : List ℕ) (i v : ℕ) → Writing f n out i → i < n → v < 65536 → signed16 v ≡ f i
      → Writing f n (set (set out (2 * i) (v / 256)) (2 * i + 1) (v % 256)) (i + 1)
  writing-turn out i v h less small e =
      let front : List ℕ = pairs f 0 i in
      let two : 2 ≤ length h.rest = omega (arith, h.room) in
      let inside : 2 * i + 2 ≤ length out = omega (arith, writing-length out i h) in
      let stores : set (set out (2 * i) (v / 256)) (2 * i + 1) (v % 256) ≡ put_at (bytes16 v) (2 * i) out =
      simp unary_clauses (put-sets (bytes16 v) (2 * i) out inside) in
      let same : v ≡ unsigned16 (f (0 + i)) = sym (stored-again v small) ∙ ap unsigned16 e ∙ ap (λ (k : ℕ). unsigned16 (f k)) (omega arith) in
      record {
        rest = drop 2 h.rest;
        same =
            stores
            ∙ ap (put_at (bytes16 v) (2 * i)) h.same
            ∙ put-after front (bytes16 v) (2 * i) (pairs-length f i 0) h.rest two
            ∙ ap (λ (k : ℕ). front ++ (bytes16 k ++ drop 2 h.rest)) same
            ∙ sym (pairs-more f i 0 (drop 2 h.rest))
            ∙ ap (λ (k : ℕ). pairs f 0 k ++ drop 2 h.rest) (sym (add-one i));
        room = omega (arith, h.room, length-drop 2 h.rest);
      }
