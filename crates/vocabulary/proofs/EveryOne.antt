-- A property of every element of a list: for the first element and the rest, for two lists one after the other, for the element at a place,
-- and for the list with one element replaced.
use Prim.Native.Nat.{ℕ, zero, suc, ◌<◌}
use mathlib.Core.Logic.{◌↔◌}
use mathlib.Core.List.{List, [], ◌∷◌, ◌++◌}
use native.Mathlib.Omega.{arith}
use lib.ListN.{length, get_or, set}
use Rattle.vocabulary.specs.Lists.{Every, none, also}

module _ {A : Type 0} {P : A → Type 0} where
  pub every_first : {x : A} {xs : List A} → Every P (x ∷ xs) → P x
  every_first (also p e) = p

  pub every_rest : {x : A} {xs : List A} → Every P (x ∷ xs) → Every P xs
  every_rest (also p e) = e

  pub every_one : (x : A) → Every P (x ∷ []) ↔ P x
  every_one x = (every_first, λ p. also p none)

  pub every_more : (x : A) (xs : List A) → Every P (x ∷ xs) ↔ (P x × Every P xs)
  every_more x xs = (λ e. (every_first e, every_rest e), λ e. also e.0 e.1)

  pub every_append : (xs ys : List A) → Every P (xs ++ ys) ↔ (Every P xs × Every P ys)
  every_append [] ys = (λ e. (none, e), λ e. e.1)
  every_append (x ∷ xs) ys = (
    λ e. (also (every_first e) ((every_append xs ys).0 (every_rest e)).0, ((every_append xs ys).0 (every_rest e)).1),
    λ e. also (every_first e.0) ((every_append xs ys).1 (every_rest e.0, e.1)),
  )

  pub every-split : (xs ys zs : List A) → Every P (xs ++ (ys ++ zs)) ↔ (Every P xs × Every P ys × Every P zs)
  every-split xs ys zs = (
    λ e. (
      ((every_append xs (ys ++ zs)).0 e).0,
      ((every_append ys zs).0 ((every_append xs (ys ++ zs)).0 e).1).0,
      ((every_append ys zs).0 ((every_append xs (ys ++ zs)).0 e).1).1,
    ),
    λ e. (every_append xs (ys ++ zs)).1 (e.0, (every_append ys zs).1 (e.1, e.2)),
  )

  pub every-at : {xs : List A} (i : ℕ) (other : A) → i < length xs → Every P xs → P (get_or xs i other)
  every-at i other h none = absurd (omega arith)
  every-at zero other h (also p e) = p
  every-at (suc i) other h (also p e) = every-at i other (omega arith) e

  pub every_set : {xs : List A} (i : ℕ) (x : A) → P x → Every P xs → Every P (set xs i x)
  every_set i x p none = none
  every_set zero x p (also q e) = also p e
  every_set (suc i) x p (also q e) = also q (every_set i x p e)

  pub every_of : {Q : A → Type 0} {xs : List A} → ((x : A) → P x → Q x) → Every P xs → Every Q xs
  every_of h none = none
  every_of h (also {x = x} p e) = also (h x p) (every_of h e)

  pub every-both : {Q : A → Type 0} {xs : List A} → Every P xs → Every Q xs → Every (λ x. P x × Q x) xs
  every-both none none = none
  every-both (also p e) (also q f) = also (p, q) (every-both e f)
