-- One cell: the number of its fields that are not 0 before and after named fields are stored in it; that the packer's mask and fields of a
-- cell, stored in an empty cell, give the cell; and that nothing else does with as few fields.
use Prim.Native.Nat.{ℕ, zero, suc, ◌+◌, ◌≤◌}
use native.Mathlib.Omega.{arith}
use mathlib.Core.Path.{◌≡◌, refl, ap}
use mathlib.Core.List.{List, [], ◌∷◌, ◌++◌, map}
use mathlib.Core.Bool.{Bool, true, false, cond, not}
use borrow.Author.Tests.{eqb-true}
use lib.ListN.{length, get_or, drop, replicate}
use lib.Dec.{eqb}
use Rattle.cells.specs.Cells.{Cell, non_zeros}
use Rattle.packed_rows.specs.Entries.{count, store}
use Rattle.packed_rows.specs.Packer.{non_zero}

-- 1 for a field that is not 0, else 0.
abbrev pub weight : ℕ → ℕ
weight f = cond (eqb f 0) 0 1

weight-most : (f : ℕ) → weight f ≤ 1
weight-most f = go (eqb f 0)
  where
    go : (b : Bool) → cond b 0 1 ≤ 1
    go true = omega arith
    go false = omega arith

pub length-non-zeros : (f : ℕ) (fs : List ℕ) → length (non_zeros (f ∷ fs)) ≡ weight f + length (non_zeros fs)
length-non-zeros f fs = go (eqb f 0)
  where
    go : (b : Bool) → length (cond b (non_zeros fs) (f ∷ non_zeros fs)) ≡ cond b 0 1 + length (non_zeros fs)
    go true = omega arith
    go false = omega arith

pub non-zeros-append : (xs ys : List ℕ) → non_zeros (xs ++ ys) ≡ non_zeros xs ++ non_zeros ys
non-zeros-append [] ys = refl
non-zeros-append (f ∷ xs) ys = rw (non-zeros-append xs ys) (go (eqb f 0))
  where
    go : (b : Bool) → cond b (non_zeros xs ++ non_zeros ys) (f ∷ (non_zeros xs ++ non_zeros ys)) ≡ cond b (non_zeros xs) (f ∷ non_zeros xs) ++ non_zeros ys
    go true = refl
    go false = refl

pub non-zeros-most : (fs : List ℕ) → length (non_zeros fs) ≤ length fs
non-zeros-most [] = omega arith
non-zeros-most (f ∷ fs) = omega (arith, length-non-zeros f fs, weight-most f, non-zeros-most fs)

pub non-zeros-none : (n : ℕ) → length (non_zeros (replicate n 0)) ≡ 0
non-zeros-none zero = refl
non-zeros-none (suc n) = non-zeros-none n

-- A cell whose fields are all 0.
pub all-zeros : (n : ℕ) (cell : Cell) → length cell ≡ n → length (non_zeros cell) ≡ 0 → cell ≡ replicate n 0
all-zeros n [] l h = rw (← l)
all-zeros n (f ∷ cell) l h = rw (← l) (go (eqb f 0) refl (omega (arith, length-non-zeros f cell)) (all-zeros (length cell) cell refl))
  where
    go : (b : Bool) → eqb f 0 ≡ b → cond b 0 1 + length (non_zeros cell) ≡ 0
        → (length (non_zeros cell) ≡ 0 → cell ≡ replicate (length cell) 0)
        → f ∷ cell ≡ 0 ∷ replicate (length cell) 0
    go true q k ih = rw (← ih (omega arith), eqb-true f 0 q)
    go false q k ih = absurd (omega arith)

-- The packer's mask and fields.
pub count-non-zero : (cell : Cell) → count (map non_zero cell) ≡ length (non_zeros cell)
count-non-zero [] = refl
count-non-zero (f ∷ cell) = go (eqb f 0) (count-non-zero cell)
  where
    go : (b : Bool) → count (map non_zero cell) ≡ length (non_zeros cell)
        → count (not b ∷ map non_zero cell) ≡ length (cond b (non_zeros cell) (f ∷ non_zeros cell))
    go true ih = ih
    go false ih = ap suc ih

pub store-packed : (n : ℕ) (cell : Cell) → length cell ≡ n → store (map non_zero cell) (non_zeros cell) (replicate n 0) ≡ cell
store-packed n [] l = rw (← l)
store-packed n (f ∷ cell) l = rw (← l) (go (eqb f 0) refl (store-packed (length cell) cell refl))
  where
    go : (b : Bool) → eqb f 0 ≡ b → store (map non_zero cell) (non_zeros cell) (replicate (length cell) 0) ≡ cell
        → store (not b ∷ map non_zero cell) (cond b (non_zeros cell) (f ∷ non_zeros cell)) (0 ∷ replicate (length cell) 0) ≡ f ∷ cell
    go true q ih = rw (ih, eqb-true f 0 q)
    go false q ih = rw ih

-- Storing adds at most as many fields that are not 0 as are named.
pub store-most : (ns : List Bool) (values : List ℕ) (cell : Cell) → length (non_zeros (store ns values cell)) ≤ length (non_zeros cell) + count ns
store-most [] values cell = omega arith
store-most (n ∷ ns) values [] = omega arith
store-most (true ∷ ns) values (f ∷ cell) =
    omega (
      arith,
      length-non-zeros (get_or values 0 0) (store ns (drop 1 values) cell),
      weight-most (get_or values 0 0),
      length-non-zeros f cell,
      store-most ns (drop 1 values) cell,
    )
store-most (false ∷ ns) values (f ∷ cell) = omega (arith, length-non-zeros f (store ns values cell), length-non-zeros f cell, store-most ns values cell)

-- If it adds that many to an empty cell, the mask and the fields are the packer's.
pub store-full : (ns : List Bool) (values : List ℕ) → length values ≡ count ns → count ns ≤ length (non_zeros (store ns values (replicate (length ns) 0)))
    → (map non_zero (store ns values (replicate (length ns) 0)) ≡ ns) × (non_zeros (store ns values (replicate (length ns) 0)) ≡ values)
store-full [] [] e h = (refl, refl)
store-full [] (v ∷ vs) e h = absurd (omega arith)
store-full (true ∷ ns) [] e h = absurd (omega arith)
store-full (true ∷ ns) (v ∷ vs) e h = go (eqb v 0) (omega (arith, length-non-zeros v rest)) (λ k. store-full ns vs (omega arith) k)
  where
    rest : Cell
    rest = store ns vs (replicate (length ns) 0)

    go : (b : Bool) → suc (count ns) ≤ cond b 0 1 + length (non_zeros rest)
        → (count ns ≤ length (non_zeros rest) → (map non_zero rest ≡ ns) × (non_zeros rest ≡ vs))
        → (not b ∷ map non_zero rest ≡ true ∷ ns) × (cond b (non_zeros rest) (v ∷ non_zeros rest) ≡ v ∷ vs)
    go true k ih = absurd (omega (arith, store-most ns vs (replicate (length ns) 0), non-zeros-none (length ns)))
    go false k ih = let same = ih (omega arith) in (rw same.0, rw same.1)
store-full (false ∷ ns) values e h = let same = store-full ns values e h in (rw same.0, same.1)
