-- FORMAT.md, G1 (document 02, K2, "Compare two modules"): the entries of the list of differences, and the list as it is written.
use Rattle.std.specs.Prelude.{ℕ, suc, ◌*◌, List, [], ◌∷◌, ◌++◌, map, Bool, true, false, cond, ◌&&◌, eqb}
use Rattle.vocabulary.specs.Lists.{joined}
use Rattle.numbers.specs.Numbers.{bytes16, put_at}
use Rattle.differences.specs.declared.Difference.{Difference}

-- G1: "five big-endian 2-byte numbers".
abbrev pub difference_bytes : Difference → List ℕ
difference_bytes d = bytes16 d.kind ++ (bytes16 d.number ++ (bytes16 d.row ++ (bytes16 d.track ++ bytes16 d.field)))

-- G1: an entry with "the last three 0": for something that is compared as a whole.
abbrev pub whole_difference : ℕ → ℕ → Difference
whole_difference kind number = record { kind = kind; number = number; row = 0; track = 0; field = 0 }

-- An entry if there is a difference, else none.
abbrev pub difference_if : Bool → Difference → List Difference
difference_if differs d = cond differs (d ∷ []) []

-- G1: the list as bytes.
abbrev pub list_bytes : List Difference → List ℕ
list_bytes ds = joined (map difference_bytes ds)

-- The output after entries are listed, the first of them after n others: each is written to its place. An entry for which the output has no
-- room is not written.
abbrev pub entries_listed : List Difference → ℕ → List ℕ → List ℕ
entries_listed [] n out = out
entries_listed (d ∷ ds) n out = entries_listed ds (suc n) (put_at (difference_bytes d) (10 * n) out)

-- Whether two lists have the same bytes.
abbrev pub equal_bytes : List ℕ → List ℕ → Bool
equal_bytes [] [] = true
equal_bytes [] (y ∷ ys) = false
equal_bytes (x ∷ xs) [] = false
equal_bytes (x ∷ xs) (y ∷ ys) = eqb x y && equal_bytes xs ys
