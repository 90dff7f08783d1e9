-- Numbers after a front, read at their place; and pieces of one size, one after the other: the number of their bytes, and each piece at its
-- place.
use Prim.Native.Nat.{ℕ, zero, suc, ◌+◌, ◌*◌, ◌<◌}
use mathlib.Core.Path.{◌≡◌, refl, subst}
use mathlib.Core.List.{List, [], ◌∷◌, ◌++◌, map, append-nil}
use native.Mathlib.Omega.{arith}
use native.Mathlib.Nat.{suc-mul}
use lib.ListN.{length, get_or, length-append}
use Rattle.vocabulary.specs.Lists.{joined}
use Rattle.numbers.specs.Numbers.{number16, number32}
use Rattle.acceptance.proofs.Locating.{PartAt, number16-after, number32-after}
use Rattle.acceptance.proofs.Cutting.{part-first, part-rest}

-- The bytes after a front of a given length.
module _ (front rest : List ℕ) (at : ℕ) (long : length front ≡ at) where
  pub number16-past : (k : ℕ) → number16 (front ++ rest) (at + k) ≡ number16 rest k
  number16-past k = rw (← long) (number16-after front rest k)

  pub number32-past : (k : ℕ) → number32 (front ++ rest) (at + k) ≡ number32 rest k
  number32-past k = rw (← long) (number32-after front rest k)

  pub part-past : PartAt (front ++ rest) at rest
  part-past = record { before = front; after = []; bytes = rw append-nil refl; starts = long }

-- Pieces of one size.
module _ {A : Type 0} (f : A → List ℕ) (size : ℕ) (one : (x : A) → length (f x) ≡ size) where
  pub pieces-size : (xs : List A) → length (joined (map f xs)) ≡ length xs * size
  pieces-size [] = omega arith
  pieces-size (x ∷ xs) = omega (arith, length-append (f x) (joined (map f xs)), one x, pieces-size xs, suc-mul (length xs) size)

  pub piece-at : {m : List ℕ} (xs : List A) (i : ℕ) (other : A) {at : ℕ} → i < length xs → PartAt m at (joined (map f xs))
      → PartAt m (at + i * size) (f (get_or xs i other))
  piece-at [] i other h p = absurd (omega arith)
  piece-at {m} (x ∷ xs) zero other {at} h p = subst (λ (k : ℕ). PartAt m k (f x)) (omega arith) (part-first (f x) (joined (map f xs)) p)
  piece-at {m} (x ∷ xs) (suc i) other {at} h p =
      subst (λ (k : ℕ). PartAt m k (f (get_or xs i other))) (omega (arith, one x, suc-mul i size))
      (piece-at xs i other (omega arith) (part-rest (f x) (joined (map f xs)) p))
