-- Mapped lists: two lists one after the other, one element replaced, a split of a mapped list, a property of every element, and two functions that agree.
use Prim.Native.Nat.{ℕ, zero, suc}
use mathlib.Core.Path.{◌≡◌, refl, sym, ap, ◌∙◌}
use mathlib.Core.Logic.{◌↔◌}
use mathlib.Core.List.{List, [], ◌∷◌, ◌++◌, map}
use native.Mathlib.Omega.{arith}
use lib.ListN.{set}
use Rattle.vocabulary.specs.Lists.{Every, none, also}
use Rattle.vocabulary.proofs.EveryOne.{every_first, every_rest}

pub map-append : {A B : Type 0} (f : A → B) (xs ys : List A) → map f (xs ++ ys) ≡ map f xs ++ map f ys
map-append f [] ys = refl
map-append f (x ∷ xs) ys = ap (λ (l : List _). f x ∷ l) (map-append f xs ys)

pub map-itself : {A : Type 0} (xs : List A) → map (λ (x : A). x) xs ≡ xs
map-itself [] = refl
map-itself (x ∷ xs) = ap (λ (l : List _). x ∷ l) (map-itself xs)

-- A mapped list with one element replaced.
pub map-set : {A B : Type 0} (f : A → B) (xs : List A) (i : ℕ) (x : A) → set (map f xs) i (f x) ≡ map f (set xs i x)
map-set f [] i x = refl
map-set f (y ∷ xs) zero x = refl
map-set f (y ∷ xs) (suc i) x = ap (λ (l : List _). f y ∷ l) (map-set f xs i x)

-- A split of a mapped list comes from a split of the list.
pub record MapSplit {A B : Type 0} (f : A → B) (all : List A) (before : List B) (chunk : B) (after : List B) : Type 0 where
  pub front : List A
  pub one : A
  pub back : List A
  pub splits : all ≡ front ++ (one ∷ back)
  pub front_is : before ≡ map f front
  pub one_is : chunk ≡ f one
  pub back_is : after ≡ map f back

pub map-split : {A B : Type 0} (f : A → B) (all : List A) (before after : List B) (chunk : B)
    → map f all ≡ before ++ (chunk ∷ after) → MapSplit f all before chunk after
map-split f [] [] after chunk e = let z : ◌≡◌ {A = ℕ} 0 1 = cc in absurd (omega arith)
map-split f [] (b ∷ before) after chunk e = let z : ◌≡◌ {A = ℕ} 0 1 = cc in absurd (omega arith)
map-split f (x ∷ all) [] after chunk e =
    let same : f x ≡ chunk = cc in
    let rest : map f all ≡ after = cc in
    record { front = []; one = x; back = all; splits = refl; front_is = refl; one_is = sym same; back_is = sym rest }
map-split {A} {B} f (x ∷ all) (b ∷ before) after chunk e =
    let same : f x ≡ b = cc in
    let rest : map f all ≡ before ++ (chunk ∷ after) = cc in
    let s = map-split f all before after chunk rest in
    record {
      front = x ∷ s.front;
      one = s.one;
      back = s.back;
      splits = (let rest = s.splits in λ i. x ∷ rest i);
      front_is = (let first = sym same in let rest = s.front_is in λ i. first i ∷ rest i);
      one_is = s.one_is;
      back_is = s.back_is;
    }

-- A property of every element of a mapped list.
pub every_map : {A B : Type 0} {P : B → Type 0} (f : A → B) (xs : List A) → Every P (map f xs) ↔ Every (λ x. P (f x)) xs
every_map f [] = (λ e. none, λ e. none)
every_map f (x ∷ xs) = (
  λ e. also (every_first e) ((every_map f xs).0 (every_rest e)),
  λ e. also (every_first e) ((every_map f xs).1 (every_rest e)),
)

-- Two functions that agree on every element, and a function that leaves every element unchanged.
pub map_same : {A B : Type 0} (f g : A → B) {xs : List A} → Every (λ x. f x ≡ g x) xs → map f xs ≡ map g xs
map_same f g none = refl
map_same f g (also p e) = let rest = map_same f g e in λ i. p i ∷ rest i

pub map-stays : {A : Type 0} (f : A → A) {xs : List A} → Every (λ x. f x ≡ x) xs → map f xs ≡ xs
map-stays f {xs} e = map_same f (λ x. x) e ∙ map-itself xs
