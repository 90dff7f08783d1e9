-- Joined lists: two lists of lists, one more list at the end, lists that a function does not lengthen, and the length of each list.
use Prim.Native.Nat.{◌≤◌}
use mathlib.Core.Path.{◌≡◌, refl, sym}
use mathlib.Core.List.{List, [], ◌∷◌, ◌++◌, map, append_assoc, append-nil}
use native.Mathlib.Omega.{arith}
use lib.ListN.{length, length-append}
use Rattle.vocabulary.specs.Lists.{joined, Every, none, also}
use Rattle.vocabulary.proofs.EveryOne.{every_of}

pub joined-append : {A : Type 0} (xs ys : List (List A)) → joined (xs ++ ys) ≡ joined xs ++ joined ys
joined-append [] ys = refl
joined-append (x ∷ xs) ys = rw (joined-append xs ys) (sym (append_assoc x (joined xs) (joined ys)))

-- One more list at the end; and the same with a list before them.
pub joined-last : {A : Type 0} (xs : List (List A)) (x : List A) → joined (xs ++ (x ∷ [])) ≡ joined xs ++ x
joined-last xs x = rw (joined-append xs (x ∷ []), append-nil x)

pub joined-next : {A : Type 0} (front : List A) (before : List (List A)) (x : List A) (rest : List (List A))
    → (front ++ joined before) ++ joined (x ∷ rest) ≡ (front ++ joined (before ++ (x ∷ []))) ++ joined rest
joined-next front before x rest = rw (joined-last before x) (simp append_assoc)

-- A function that lengthens no list of the list does not lengthen the joined list.
pub joined-shorter : {A : Type 0} (g : List A → List A) {xs : List (List A)}
    → Every (λ x. length (g x) ≤ length x) xs → length (joined (map g xs)) ≤ length (joined xs)
joined-shorter g none = omega arith
joined-shorter g (also {x = x} {xs = xs} h e) =
    omega (arith, length-append (g x) (joined (map g xs)), length-append x (joined xs), joined-shorter g e)

-- Each list is no longer than all of them joined.
pub each-inside : {A B : Type 0} (f : B → List A) (xs : List B) → Every (λ x. length (f x) ≤ length (joined (map f xs))) xs
each-inside f [] = none
each-inside f (x ∷ xs) =
    let all = length-append (f x) (joined (map f xs)) in
    also {x = x} (omega arith) (every_of (λ y h. omega arith) (each-inside f xs))
