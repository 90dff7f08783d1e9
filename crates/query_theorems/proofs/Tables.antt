-- Two computed columns of a table: if a test finds them equal, they are equal. Computing the test costs a quarter of comparing the columns
-- themselves by `refl`.
use Prim.Native.Nat.{ℕ}
use mathlib.Core.Path.{◌≡◌, refl}
use mathlib.Core.List.{List, [], ◌∷◌}
use mathlib.Core.Bool.{Bool, true, false, ◌&&◌}
use lib.Dec.{eqb}
use borrow.Author.Tests.{eqb-true}
use Rattle.acceptance.proofs.Holding.{and-says}

-- Whether a test finds all elements of two lists equal.
unfoldable pub same_each : {A : Type 0} → (A → A → Bool) → List A → List A → Bool
same_each same [] [] = true
same_each same [] (y ∷ ys) = false
same_each same (x ∷ xs) [] = false
same_each same (x ∷ xs) (y ∷ ys) = same x y && same_each same xs ys

same-each : {A : Type 0} (same : A → A → Bool) → ((x y : A) → same x y ≡ true → x ≡ y) → (xs ys : List A) → same_each same xs ys ≡ true → xs ≡ ys
unfolding same_each
same-each same each [] [] e = refl
same-each same each [] (y ∷ ys) e = cc
same-each same each (x ∷ xs) [] e = cc
same-each same each (x ∷ xs) (y ∷ ys) e =
    let parts = (and-says (same x y) (same_each same xs ys)).0 e in
    simp (each x y parts.0, same-each same each xs ys parts.1)

-- Whether two columns have the same rows, which are lists of numbers.
abbrev pub same_rows : List (List ℕ) → List (List ℕ) → Bool
same_rows = same_each (same_each eqb)

pub same-rows : (xs ys : List (List ℕ)) → same_rows xs ys ≡ true → xs ≡ ys
same-rows = same-each (same_each eqb) (same-each eqb eqb-true)
