-- The numbers of a part of a list of bytes are those at its place in the whole: for a part anywhere, for the front, for the end, and for
-- the results of `take` and `drop`.
use Prim.Native.Nat.{ℕ, ◌+◌, ◌≤◌, ◌<◌}
use mathlib.Core.Path.{◌≡◌, refl, sym, ap, ◌∙◌}
use mathlib.Core.List.{List, ◌++◌, append_assoc}
use native.Mathlib.Omega.{arith}
use native.Mathlib.Nat.{add_assoc, add-zero, zero-add}
use lib.ListN.{length, take, drop, length-append, length-drop, take-append-drop, get_or-append}
use lib.Seq.{length-take-le, take_at, drop_at, get_or-append-add, get_or-take, get_or-drop}
use Rattle.numbers.specs.Numbers.{byte_at, number16, number32, part_of, bytes16, bytes32}
use Rattle.numbers.proofs.Stored.{bytes16-again, bytes32-again}

-- Numbers agree if their bytes do: `size` bytes from two places on.
module _ (xs ys : List ℕ) (at to size : ℕ) (same : (i : ℕ) → i < size → byte_at xs (at + i) ≡ byte_at ys (to + i)) where
  pub same-number16 : (k : ℕ) → k + 2 ≤ size → number16 xs (at + k) ≡ number16 ys (to + k)
  unfolding number16
  same-number16 k h = simp add_assoc (simp (same k (omega arith), same (k + 1) (omega arith)))

  pub same-number32 : (k : ℕ) → k + 4 ≤ size → number32 xs (at + k) ≡ number32 ys (to + k)
  unfolding number32
  same-number32 k h = simp add_assoc (simp (same-number16 k (omega arith), same-number16 (k + 2) (omega arith)))

-- The end of a list.
module _ (xs ys : List ℕ) where
  pub byte_at-after : (k : ℕ) → byte_at (xs ++ ys) (length xs + k) ≡ byte_at ys k
  unfolding byte_at
  byte_at-after k = get_or-append-add xs ys k 0

  following : (i : ℕ) → byte_at (xs ++ ys) (length xs + i) ≡ byte_at ys (0 + i)
  following i = rw zero-add (byte_at-after i)

  pub number16-after : (k : ℕ) → number16 (xs ++ ys) (length xs + k) ≡ number16 ys k
  number16-after k = rw zero-add at (same-number16 (xs ++ ys) ys (length xs) 0 (k + 2) (λ i h. following i) k (omega arith))

  pub number32-after : (k : ℕ) → number32 (xs ++ ys) (length xs + k) ≡ number32 ys k
  number32-after k = rw zero-add at (same-number32 (xs ++ ys) ys (length xs) 0 (k + 4) (λ i h. following i) k (omega arith))

-- The front of a list.
module _ (xs ys : List ℕ) where
  pub byte_at-front : (k : ℕ) → k < length xs → byte_at (xs ++ ys) k ≡ byte_at xs k
  unfolding byte_at
  byte_at-front k h = get_or-append xs ys 0 k h

  front : (i : ℕ) → i < length xs → byte_at (xs ++ ys) (0 + i) ≡ byte_at xs (0 + i)
  front i h = rw zero-add (byte_at-front i h)

  pub number16-front : (k : ℕ) → k + 2 ≤ length xs → number16 (xs ++ ys) k ≡ number16 xs k
  number16-front k h = rw zero-add at (same-number16 (xs ++ ys) xs 0 0 (length xs) front k h)

  pub number32-front : (k : ℕ) → k + 4 ≤ length xs → number32 (xs ++ ys) k ≡ number32 xs k
  number32-front k h = rw zero-add at (same-number32 (xs ++ ys) xs 0 0 (length xs) front k h)

-- A part of a list.
module _ (xs ys zs : List ℕ) where
  pub byte_at-part : (k : ℕ) → k < length ys → byte_at (xs ++ (ys ++ zs)) (length xs + k) ≡ byte_at ys k
  byte_at-part k h = byte_at-after xs (ys ++ zs) k ∙ byte_at-front ys zs k h

  pub number16-part : (k : ℕ) → k + 2 ≤ length ys → number16 (xs ++ (ys ++ zs)) (length xs + k) ≡ number16 ys k
  number16-part k h = number16-after xs (ys ++ zs) k ∙ number16-front ys zs k h

  pub number32-part : (k : ℕ) → k + 4 ≤ length ys → number32 (xs ++ (ys ++ zs)) (length xs + k) ≡ number32 ys k
  number32-part k h = number32-after xs (ys ++ zs) k ∙ number32-front ys zs k h

-- The result of `take`.
module _ (n : ℕ) (xs : List ℕ) where
  pub byte_at-take : (k : ℕ) → k < n → byte_at (take n xs) k ≡ byte_at xs k
  unfolding byte_at
  byte_at-take k h = get_or-take n xs k 0 h

  taken : (i : ℕ) → i < n → byte_at (take n xs) (0 + i) ≡ byte_at xs (0 + i)
  taken i h = rw zero-add (byte_at-take i h)

  pub number16-take : (k : ℕ) → k + 2 ≤ n → number16 (take n xs) k ≡ number16 xs k
  number16-take k h = rw zero-add at (same-number16 (take n xs) xs 0 0 n taken k h)

  pub number32-take : (k : ℕ) → k + 4 ≤ n → number32 (take n xs) k ≡ number32 xs k
  number32-take k h = rw zero-add at (same-number32 (take n xs) xs 0 0 n taken k h)

-- The result of `drop`.
module _ (n : ℕ) (xs : List ℕ) where
  pub byte_at-drop : (k : ℕ) → byte_at (drop n xs) k ≡ byte_at xs (n + k)
  unfolding byte_at
  byte_at-drop k = get_or-drop n xs k 0

  left : (i : ℕ) → byte_at (drop n xs) (0 + i) ≡ byte_at xs (n + i)
  left i = rw zero-add (byte_at-drop i)

  pub number16-drop : (k : ℕ) → number16 (drop n xs) k ≡ number16 xs (n + k)
  number16-drop k = rw zero-add at (same-number16 (drop n xs) xs 0 n (k + 2) (λ i h. left i) k (omega arith))

  pub number32-drop : (k : ℕ) → number32 (drop n xs) k ≡ number32 xs (n + k)
  number32-drop k = rw zero-add at (same-number32 (drop n xs) xs 0 n (k + 4) (λ i h. left i) k (omega arith))

-- These bytes are at a place of the module.
pub record PartAt (m : List ℕ) (at : ℕ) (part : List ℕ) : Type 0 where
  pub before : List ℕ
  pub after : List ℕ
  pub bytes : m ≡ before ++ (part ++ after)
  pub starts : length before ≡ at

-- The numbers of the part, by their offset in it; the first ones at the place itself.
module _ {m : List ℕ} {at : ℕ} {part : List ℕ} (p : PartAt m at part) where
  pub byte_at-at : (k : ℕ) → k < length part → byte_at m (at + k) ≡ byte_at part k
  byte_at-at k h = rw (p.bytes, ← p.starts) (byte_at-part p.before part p.after k h)

  pub number16-at : (k : ℕ) → k + 2 ≤ length part → number16 m (at + k) ≡ number16 part k
  number16-at k h = rw (p.bytes, ← p.starts) (number16-part p.before part p.after k h)

  pub number32-at : (k : ℕ) → k + 4 ≤ length part → number32 m (at + k) ≡ number32 part k
  number32-at k h = rw (p.bytes, ← p.starts) (number32-part p.before part p.after k h)

  pub byte_at-start : 0 < length part → byte_at m at ≡ byte_at part 0
  byte_at-start h = rw add-zero at (byte_at-at 0 h)

  pub number16-start : 2 ≤ length part → number16 m at ≡ number16 part 0
  number16-start h = rw add-zero at (number16-at 0 (omega arith))

  pub number32-start : 4 ≤ length part → number32 m at ≡ number32 part 0
  number32-start h = rw add-zero at (number32-at 0 (omega arith))

  pub part-inside : at + length part ≤ length m
  part-inside =
      omega (arith, ap length p.bytes, length-append p.before (part ++ p.after), length-append part p.after, p.starts)

  pub part-is : part_of m at (length part) ≡ part
  part-is = rw (p.bytes, drop_at p.before (part ++ p.after) at p.starts) (take_at part p.after (length part) refl)

-- A part that does not run past the end is at its place, whole.
module _ (m : List ℕ) (at n : ℕ) (fits : at + n ≤ length m) where
  pub part_length : length (part_of m at n) ≡ n
  part_length = length-take-le n (drop at m) (simp length-drop (omega arith))

  pub part-there : PartAt m at (part_of m at n)
  part-there = record {
    before = take at m;
    after = drop n (drop at m);
    bytes = sym (rw take-append-drop (take-append-drop at m));
    starts = length-take-le at m (omega arith);
  }

-- A part of a part is a part of the whole.
pub part-of-part : {m part inner : List ℕ} {at to : ℕ} → PartAt m at part → PartAt part to inner → PartAt m (at + to) inner
part-of-part {m} {part} {inner} p q = record {
  before = p.before ++ q.before;
  after = q.after ++ p.after;
  bytes = p.bytes ∙ rw q.bytes (simp append_assoc);
  starts = rw (length-append, p.starts, q.starts);
}

-- A number stored as two bytes, or as four, and read back.
pub bytes16-number : (n : ℕ) (front rest : List ℕ) → number16 (front ++ (bytes16 n ++ rest)) (length front) ≡ n
bytes16-number n front rest = rw add-zero at (number16-part front (bytes16 n) rest 0 (omega arith)) ∙ bytes16-again n

pub bytes32-number : (n : ℕ) (front rest : List ℕ) → number32 (front ++ (bytes32 n ++ rest)) (length front) ≡ n
bytes32-number n front rest = rw add-zero at (number32-part front (bytes32 n) rest 0 (omega arith)) ∙ bytes32-again n
