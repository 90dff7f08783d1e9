-- Lists that have the same bytes.
--     equal-says     lists that are equal by the test are the same list
--     same-equal     a list is equal to itself
--     unlike         lists of different lengths are not equal
--     equal-turned   the order of the two lists does not matter
--     equal-parts    lists that begin with parts of one length are equal part by part
--     equal-step     the loop: the first bytes, and then the rest
--     equal-end      the loop's end
use Prim.Native.Nat.{ℕ, suc, ◌≤◌, ◌<◌}
use mathlib.Core.Path.{◌≡◌, refl, sym, ap, ◌∙◌}
use mathlib.Core.List.{List, [], ◌∷◌, ◌++◌}
use mathlib.Core.Bool.{Bool, true, false, ◌&&◌, and_assoc, and-true}
use native.Mathlib.Omega.{arith}
use lib.ListN.{length, get_or, drop, length-drop}
use lib.Seq.{drop-cons}
use lib.Dec.{eqb}
use borrow.Author.Tests.{eq-eqb, ne_eqb, eqb-true, eqb-false}
use Rattle.differences.specs.Differences.{equal_bytes}

pub equal-says : (xs ys : List ℕ) → equal_bytes xs ys ≡ true → xs ≡ ys
equal-says [] [] e = refl
equal-says [] (y ∷ ys) e = absurd (let z : ◌≡◌ {A = ℕ} 0 1 = cc in omega arith)
equal-says (x ∷ xs) [] e = absurd (let z : ◌≡◌ {A = ℕ} 0 1 = cc in omega arith)
equal-says (x ∷ xs) (y ∷ ys) e = go (eqb x y) refl e (equal-says xs ys)
  where
    go : (p : Bool) → eqb x y ≡ p → (p && equal_bytes xs ys) ≡ true → (equal_bytes xs ys ≡ true → xs ≡ ys) → x ∷ xs ≡ y ∷ ys
    go true p e rest = ap (◌∷ xs) (eqb-true x y p) ∙ ap (y ∷◌) (rest e)
    go false p e rest = absurd (let z : ◌≡◌ {A = ℕ} 0 1 = cc in omega arith)

pub same-equal : (xs : List ℕ) → equal_bytes xs xs ≡ true
same-equal [] = refl
same-equal (x ∷ xs) = simp (eq-eqb x x refl) (same-equal xs)

pub unlike : (xs ys : List ℕ) → (length xs ≡ length ys → ⊥) → equal_bytes xs ys ≡ false
unlike [] [] h = absurd (h refl)
unlike [] (y ∷ ys) h = refl
unlike (x ∷ xs) [] h = refl
unlike (x ∷ xs) (y ∷ ys) h = go (eqb x y) (unlike xs ys (λ e. h (ap suc e)))
  where
    go : (p : Bool) → equal_bytes xs ys ≡ false → (p && equal_bytes xs ys) ≡ false
    go true rest = rest
    go false rest = refl

pub equal-turned : (xs ys : List ℕ) → equal_bytes xs ys ≡ equal_bytes ys xs
equal-turned [] [] = refl
equal-turned [] (y ∷ ys) = refl
equal-turned (x ∷ xs) [] = refl
equal-turned (x ∷ xs) (y ∷ ys) = ap (◌&& equal_bytes xs ys) (turned (eqb x y) refl) ∙ ap (eqb y x &&◌) (equal-turned xs ys)
  where
    turned : (b : Bool) → eqb x y ≡ b → eqb x y ≡ eqb y x
    turned true e = e ∙ sym (eq-eqb y x (sym (eqb-true x y e)))
    turned false e = e ∙ sym (ne_eqb y x (λ same. eqb-false x y e (sym same)))

pub equal-parts : (xs ys more others : List ℕ) → length xs ≡ length ys
    → equal_bytes (xs ++ more) (ys ++ others) ≡ (equal_bytes xs ys && equal_bytes more others)
equal-parts [] [] more others e = refl
equal-parts [] (y ∷ ys) more others e = absurd (omega (arith, e))
equal-parts (x ∷ xs) [] more others e = absurd (omega (arith, e))
equal-parts (x ∷ xs) (y ∷ ys) more others e =
    ap (eqb x y &&◌) (equal-parts xs ys more others (omega (arith, e)))
    ∙ sym (and_assoc (eqb x y) (equal_bytes xs ys) (equal_bytes more others))

module _ (a b : List ℕ) (same : length a ≡ length b) where
  pub equal-step : (i : ℕ) → i < length a
      → equal_bytes (drop i a) (drop i b) ≡ (eqb (get_or a i 0) (get_or b i 0) && equal_bytes (drop (suc i) a) (drop (suc i) b))
  equal-step i less = rw (drop-cons a i 0 less, drop-cons b i 0 (omega (arith, same))) refl

  pub equal-end : (i : ℕ) → length a ≤ i → (alike : Bool) → (alike && equal_bytes (drop i a) (drop i b)) ≡ alike
  equal-end i over alike =
      let none : length (drop i a) ≡ 0 = omega (arith, length-drop i a) in
      let neither : length (drop i b) ≡ 0 = omega (arith, same, length-drop i b) in
      ap (alike &&◌) (nothing (drop i a) (drop i b) none neither) ∙ and-true alike
    where
      nothing : (xs ys : List ℕ) → length xs ≡ 0 → length ys ≡ 0 → equal_bytes xs ys ≡ true
      nothing [] [] p q = refl
      nothing [] (y ∷ ys) p q = absurd (omega (arith, q))
      nothing (x ∷ xs) ys p q = absurd (omega (arith, p))
