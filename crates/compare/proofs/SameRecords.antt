-- Tests for equality, each of which holds if the other does.
--     tests_same     any two such tests
--     test-same      two tests of numbers
--     bytes16-same   numbers and their 2 bytes; bytes32-same: and their 4 bytes
--     values_same    signed numbers, as the code compares them and as they are stored in 2 bytes
--     equal_of       lists that the code has compared, by what they are
use Prim.Native.Nat.{ℕ, ◌-◌, ◌<◌, ◌≤◌}
use mathlib.Core.Path.{◌≡◌, refl, sym, ap, ◌∙◌}
use mathlib.Core.List.{List}
use mathlib.Core.Bool.{Bool, true, false}
use native.Mathlib.Omega.{arith}
use lib.Dec.{eqb}
use lib.IntN.{ℤ, pos, negsuc}
use mir.Syntax.{w32}
use mir.Val.{of_z}
use borrow.Author.Tests.{eq-eqb, eqb-true}
use Rattle.numbers.specs.Numbers.{number16, number32, bytes16, bytes32, unsigned16}
use Rattle.numbers.proofs.Stored.{bytes16-again, bytes32-again}
use Rattle.differences.specs.Differences.{equal_bytes}
use Rattle.differences.proofs.EqualBytes.{equal-says, same-equal}

-- Two tests, each of which holds if the other does.
pub tests_same : (a b : Bool) → (a ≡ true → b ≡ true) → (b ≡ true → a ≡ true) → a ≡ b
tests_same true b h k = sym (h refl)
tests_same false true h k = k refl
tests_same false false h k = refl

equal-test : (xs ys : List ℕ) → xs ≡ ys → equal_bytes xs ys ≡ true
equal-test xs ys e = ap (equal_bytes xs) (sym e) ∙ same-equal xs

pub equal_of : {r : Bool} (a b : List ℕ) {xs ys : List ℕ} → a ≡ xs → b ≡ ys → r ≡ equal_bytes a b → r ≡ equal_bytes xs ys
equal_of a b e f h = h ∙ rw (e, f) refl

module _ (a b : ℕ) where
  pub test-same : (c d : ℕ) → (a ≡ b → c ≡ d) → (c ≡ d → a ≡ b) → eqb a b ≡ eqb c d
  test-same c d h k = tests_same (eqb a b) (eqb c d) (λ t. eq-eqb c d (h (eqb-true a b t))) (λ t. eq-eqb a b (k (eqb-true c d t)))

  number_same : (f : ℕ → List ℕ) (back : List ℕ → ℕ) → ((n : ℕ) → back (f n) ≡ n) → equal_bytes (f a) (f b) ≡ eqb a b
  number_same f back again =
      tests_same (equal_bytes (f a) (f b)) (eqb a b)
      (λ t. eq-eqb a b (sym (again a) ∙ ap back (equal-says (f a) (f b) t) ∙ again b))
      (λ t. equal-test (f a) (f b) (ap f (eqb-true a b t)))

  pub bytes16-same : equal_bytes (bytes16 a) (bytes16 b) ≡ eqb a b
  bytes16-same = number_same bytes16 (λ (xs : List ℕ). number16 xs 0) bytes16-again

  pub bytes32-same : equal_bytes (bytes32 a) (bytes32 b) ≡ eqb a b
  bytes32-same = number_same bytes32 (λ (xs : List ℕ). number32 xs 0) bytes32-again

-- Signed numbers that 2 bytes distinguish: all below 65,536 and none negative, or all from -32,768 to 32,767.
abbrev pub Apart : Bool → ℤ → Type 0
Apart true (pos n) = n < 32768
Apart true (negsuc n) = n < 32768
Apart false (pos n) = n < 65536
Apart false (negsuc n) = ⊥

-- Such numbers are the same if they are stored the same: a number that is not negative as it is, -(n + 1) as the largest number minus n.
module _ (f : ℤ → ℕ) (largest : ℕ) (enough : 65535 ≤ largest) (up : (n : ℕ) → f (pos n) ≡ n) (down : (n : ℕ) → f (negsuc n) ≡ largest - n) where
  kept-apart : (signed : Bool) (v w : ℤ) → Apart signed v → Apart signed w → f v ≡ f w → v ≡ w
  kept-apart signed (pos a) (pos b) h k e = ap pos (sym (up a) ∙ e ∙ up b)
  kept-apart true (pos a) (negsuc b) h k e = absurd (omega (arith, e, h, k, enough, up a, down b))
  kept-apart false (pos a) (negsuc b) h k e = absurd k
  kept-apart true (negsuc a) (pos b) h k e = absurd (omega (arith, e, h, k, enough, up b, down a))
  kept-apart false (negsuc a) w h k e = absurd h
  kept-apart true (negsuc a) (negsuc b) h k e = ap negsuc (let same : a ≡ b = omega (arith, e, h, k, enough, down a, down b) in same)

module _ (signed : Bool) (v w : ℤ) (h : Apart signed v) (k : Apart signed w) where
  pub values_same : eqb (of_z w32 v) (of_z w32 w) ≡ eqb (unsigned16 v) (unsigned16 w)
  values_same =
      test-same (of_z w32 v) (of_z w32 w) (unsigned16 v) (unsigned16 w)
      (λ e. ap unsigned16 (kept-apart (of_z w32) 4294967295 (omega arith) (λ n. refl) (λ n. omega arith) signed v w h k e))
      (λ e. ap (of_z w32) (kept-apart unsigned16 65535 (omega arith) (λ n. refl) (λ n. refl) signed v w h k e))
