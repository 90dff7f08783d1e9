-- Lists of lists joined to one list, and a property of every element of a list.
use Rattle.std.specs.Prelude.{List, [], ◌∷◌, ◌++◌}

-- The elements of all lists of a list, in order.
abbrev pub joined : {A : Type 0} → List (List A) → List A
joined [] = []
joined (x ∷ xs) = x ++ joined xs

-- Every element of a list has the property.
pub data Every {A : Type 0} (P : A → Type 0) : List A → Type 0 where
  none : Every P []
  also : {x : A} {xs : List A} → P x → Every P xs → Every P (x ∷ xs)
