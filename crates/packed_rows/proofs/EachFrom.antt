-- The values of a function for consecutive numbers (`each_from`), and the lists among them joined: in two parts, the first and the rest, none,
-- two functions with the same values, only empty lists, and the length.
use Prim.Native.Nat.{ℕ, zero, suc, ◌+◌, ◌*◌, ◌≤◌, ◌<◌}
use mathlib.Core.Path.{◌≡◌, refl, ap, ◌∙◌}
use mathlib.Core.List.{List, [], ◌∷◌, ◌++◌}
use native.Mathlib.Omega.{arith}
use native.Mathlib.Nat.{suc-mul}
use lib.ListN.{length, length-append}
use Rattle.vocabulary.specs.Lists.{joined}
use Rattle.vocabulary.proofs.JoinedLists.{joined-append}
use Rattle.numbers.specs.Numbers.{each_from}

module _ {A : Type 0} where
  pub each-parts : (f : ℕ → A) (n m k : ℕ) → each_from f k (n + m) ≡ each_from f k n ++ each_from f (k + n) m
  each-parts f zero m k =
      ap (λ (p : ℕ × ℕ). each_from f p.0 p.1)
      (let one : k ≡ k + 0 = omega arith in let two : 0 + m ≡ m = omega arith in λ i. (one i, two i))
  each-parts f (suc n) m k =
      ap (each_from f k) (let e : suc n + m ≡ suc (n + m) = omega arith in e)
      ∙ ap (λ (l : List A). f k ∷ l) (each-parts f n m (k + 1))
      ∙ ap (λ (p : ℕ). f k ∷ (each_from f (k + 1) n ++ each_from f p m)) (let e : k + 1 + n ≡ k + suc n = omega arith in e)

  pub each-alike : (f g : ℕ → A) (n k : ℕ) → ((i : ℕ) → k ≤ i → i < k + n → f i ≡ g i) → each_from f k n ≡ each_from g k n
  each-alike f g zero k h = refl
  each-alike f g (suc n) k h =
      let first : f k ≡ g k = h k (omega arith) (omega arith) in
      let rest : each_from f (k + 1) n ≡ each_from g (k + 1) n = each-alike f g n (k + 1) (λ i low high. h i (omega arith) (omega arith)) in
      λ i. first i ∷ rest i

module _ {A : Type 0} (f : ℕ → List A) where
  pub joined-parts : (n m k : ℕ) → joined (each_from f k (n + m)) ≡ joined (each_from f k n) ++ joined (each_from f (k + n) m)
  joined-parts n m k = ap joined (each-parts f n m k) ∙ joined-append (each_from f k n) (each_from f (k + n) m)

  pub joined-first : (n m k : ℕ) → n ≡ suc m → joined (each_from f k n) ≡ f k ++ joined (each_from f (k + 1) m)
  joined-first n m k e = ap (λ (j : ℕ). joined (each_from f k j)) e

  pub joined-none : (n k : ℕ) → n ≡ 0 → joined (each_from f k n) ≡ []
  joined-none n k e = ap (λ (j : ℕ). joined (each_from f k j)) e

  pub joined-empty : (n k : ℕ) → ((i : ℕ) → k ≤ i → i < k + n → f i ≡ []) → joined (each_from f k n) ≡ []
  joined-empty zero k h = refl
  joined-empty (suc n) k h =
      ap (λ (l : List A). l ++ joined (each_from f (k + 1) n)) (h k (omega arith) (omega arith))
      ∙ joined-empty n (k + 1) (λ i low high. h i (omega arith) (omega arith))

  pub joined-most : (most : ℕ) → ((i : ℕ) → length (f i) ≤ most) → (n k : ℕ) → length (joined (each_from f k n)) ≤ n * most
  joined-most most h zero k = omega arith
  joined-most most h (suc n) k =
      omega (arith, length-append (f k) (joined (each_from f (k + 1) n)), h k, joined-most most h n (k + 1), suc-mul n most)
