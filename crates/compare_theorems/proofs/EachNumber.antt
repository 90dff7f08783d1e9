-- Lists made for each number of a range, and joined: what holds for every element, and if two functions agree.
use Prim.Native.Nat.{ℕ, zero, suc, ◌+◌, ◌≤◌, ◌<◌}
use mathlib.Core.Path.{◌≡◌, ap}
use mathlib.Core.List.{List}
use native.Mathlib.Omega.{arith}
use Rattle.vocabulary.specs.Lists.{joined, Every, none}
use Rattle.vocabulary.proofs.EveryOne.{every_append}
use Rattle.numbers.specs.Numbers.{each_from}
use Rattle.packed_rows.proofs.EachFrom.{each-alike}

module _ {A : Type 0} (f : ℕ → List A) where
  pub every-number : {P : A → Type 0} (n k : ℕ) → ((i : ℕ) → k ≤ i → i < k + n → Every P (f i)) → Every P (joined (each_from f k n))
  every-number zero k h = none
  every-number (suc n) k h =
      (every_append (f k) (joined (each_from f (k + 1) n))).1
      (h k (omega arith) (omega arith), every-number n (k + 1) (λ i low high. h i (omega (arith, low)) (omega (arith, high))))

  pub same_numbers : (g : ℕ → List A) (n k : ℕ) → ((i : ℕ) → f i ≡ g i) → joined (each_from f k n) ≡ joined (each_from g k n)
  same_numbers g n k h = ap joined (each-alike f g n k (λ i low high. h i))
