-- Lists of bytes: each number is below 256. A list is one exactly if each of its parts is: the first byte and the rest, two lists one after
-- the other, lists that are joined. So are the results of `take` and `drop`. A lent slice of bytes is such a list.
use Prim.Native.Nat.{ℕ, zero, suc, ◌+◌, ◌/◌, ◌<◌}
use mathlib.Core.Logic.{◌↔◌}
use mathlib.Core.List.{List, [], ◌∷◌, ◌++◌}
use native.Mathlib.Omega.{arith}
use native.Mathlib.Nat.{mod-lt, div-lt_iff_lt-mul}
use mir.Val.{Fits}
use mir.Syntax.{w8}
use lib.ListN.{get_or, take, drop, replicate, take-append-drop}
use Rattle.vocabulary.specs.Lists.{joined, Every, none, also}
use Rattle.vocabulary.proofs.EveryOne.{every_first, every_rest, every_append}
use Rattle.numbers.specs.Numbers.{byte_at, Bytes, number16, number32, part_of, bytes16, bytes32}

-- One of the bytes, or the 0 past the end.
pub bytes-get_or : (xs : List ℕ) (i : ℕ) → Bytes xs → get_or xs i 0 < 256
unfolding byte_at
bytes-get_or xs i h = h i

-- No byte, and one more byte.
pub bytes-nil : Bytes []
unfolding byte_at
bytes-nil i = omega arith

module _ (b : ℕ) (bs : List ℕ) where
  pub bytes-cons : b < 256 → Bytes bs → Bytes (b ∷ bs)
  unfolding byte_at
  bytes-cons h t zero = h
  bytes-cons h t (suc i) = t i

  pub bytes-first : Bytes (b ∷ bs) → b < 256
  unfolding byte_at
  bytes-first h = h 0

  pub bytes_rest : Bytes (b ∷ bs) → Bytes bs
  unfolding byte_at
  bytes_rest h i = h (suc i)

-- The same, as a property of every element.
pub bytes-every : (xs : List ℕ) → Bytes xs ↔ Every (λ b. b < 256) xs
bytes-every [] = (λ h. none, λ e. bytes-nil)
bytes-every (b ∷ bs) = (
  λ h. also (bytes-first b bs h) ((bytes-every bs).0 (bytes_rest b bs h)),
  λ e. bytes-cons b bs (every_first e) ((bytes-every bs).1 (every_rest e)),
)

-- Two lists, one after the other.
module _ (xs ys : List ℕ) where
  pub bytes-append : Bytes xs → Bytes ys → Bytes (xs ++ ys)
  bytes-append h k = (bytes-every (xs ++ ys)).1 ((every_append xs ys).1 ((bytes-every xs).0 h, (bytes-every ys).0 k))

  pub bytes-front : Bytes (xs ++ ys) → Bytes xs
  bytes-front h = (bytes-every xs).1 ((every_append xs ys).0 ((bytes-every (xs ++ ys)).0 h)).0

  pub bytes_after : Bytes (xs ++ ys) → Bytes ys
  bytes_after h = (bytes-every ys).1 ((every_append xs ys).0 ((bytes-every (xs ++ ys)).0 h)).1

-- The results of `take` and `drop`, and a part.
module _ (n : ℕ) (xs : List ℕ) where
  pub bytes_take : Bytes xs → Bytes (take n xs)
  bytes_take h = bytes-front (take n xs) (drop n xs) (rw take-append-drop h)

  pub bytes_drop : Bytes xs → Bytes (drop n xs)
  bytes_drop h = bytes_after (take n xs) (drop n xs) (rw take-append-drop h)

pub bytes-of-part : (m : List ℕ) (at n : ℕ) → Bytes m → Bytes (part_of m at n)
bytes-of-part m at n h = bytes_take n (drop at m) (bytes_drop at m h)

-- Joined lists.
pub bytes-joined : (xss : List (List ℕ)) → Every Bytes xss ↔ Bytes (joined xss)
bytes-joined [] = (λ e. bytes-nil, λ h. none)
bytes-joined (xs ∷ xss) = (
  λ e. bytes-append xs (joined xss) (every_first e) ((bytes-joined xss).0 (every_rest e)),
  λ h. also (bytes-front xs (joined xss) h) ((bytes-joined xss).1 (bytes_after xs (joined xss) h)),
)

-- Zeros.
pub bytes-replicate : (n : ℕ) → Bytes (replicate n 0)
bytes-replicate zero = bytes-nil
bytes-replicate (suc n) = bytes-cons 0 (replicate n 0) (omega arith) (bytes-replicate n)

-- The numbers read from such a list.
module _ (m : List ℕ) (bytes : Bytes m) where
  pub number16-below : (at : ℕ) → number16 m at < 65536
  unfolding number16
  number16-below at = omega (arith, bytes at, bytes (at + 1))

  pub number32-below : (at : ℕ) → number32 m at < 0x100000000
  unfolding number32
  number32-below at = omega (arith, number16-below at, number16-below (at + 2))

-- A number as two bytes, and as four.
pub bytes16-bytes : (n : ℕ) → n < 65536 → Bytes (bytes16 n)
bytes16-bytes n h =
    bytes-cons _ _ ((div-lt_iff_lt-mul {k = 256} {x = n} {y = 256} (omega arith)).1 h)
    (bytes-cons _ _ (mod-lt n (omega arith)) bytes-nil)

pub bytes32-bytes : (n : ℕ) → n < 0x100000000 → Bytes (bytes32 n)
bytes32-bytes n h =
    bytes-cons _ _ ((div-lt_iff_lt-mul {k = 16777216} {x = n} {y = 256} (omega arith)).1 h)
    (bytes-cons _ _ (mod-lt (n / 65536) (omega arith))
    (bytes-cons _ _ (mod-lt (n / 256) (omega arith))
    (bytes-cons _ _ (mod-lt n (omega arith)) bytes-nil)))

-- The elements of a slice of bytes are below 256.
pub slice-bytes : (m : List ℕ) → ((i : ℕ) → Fits w8 (get_or m i 0)) → Bytes m
unfolding byte_at
slice-bytes m h i = omega (arith, h i)
