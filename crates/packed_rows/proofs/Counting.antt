-- Counting fields that are not 0 and non-empty cells, part by part; and the six fields of a cell.
use Prim.Native.Nat.{ℕ, zero, suc, ◌+◌, ◌*◌, ◌<◌, ◌≤◌}
use mathlib.Core.Path.{◌≡◌, refl, sym, ap, ◌∙◌}
use mathlib.Core.List.{List, [], ◌∷◌, ◌++◌, append_assoc}
use mathlib.Core.Bool.{Bool, true, false, cond, not, ◌||◌}
use native.Mathlib.Omega.{arith}
use native.Mathlib.Nat.{zero-mul, add-suc, zero-add, suc-mul, add_assoc}
use native.Mathlib.Numerals.{add-one}
use borrow.Author.Tests.{lt-ltb, eqb-true, eqb-false, not-false}
use mir.Val.{bool_byte}
use lib.Dec.{eqb, ltb}
use lib.ListN.{take, take-append-drop, drop_of_length-le, length, get_or, drop, length-append}
use lib.Seq.{drop-cons, drop-drop}
use Rattle.std.specs.Simd.{first_chunks}
use Rattle.vocabulary.specs.Lists.{joined}
use Rattle.cells.specs.Cells.{groups_of, non_zeros, non_empty, non_empty_cells}
use Rattle.packed_rows.specs.Packer.{non_zero}
use Rattle.packed_rows.specs.Steps.{cell_at}
use Rattle.packed_rows.proofs.Storing.{non-zeros-append}

-- The list of a value if it is kept, else the empty list.
abbrev pub kept : Bool → ℕ → List ℕ
kept b x = cond b (x ∷ []) []

pub length-kept : (b : Bool) (x : ℕ) → length (kept b x) ≡ cond b 1 0
length-kept true x = refl
length-kept false x = refl

pub kept-first : (b : Bool) (x : ℕ) (xs : List ℕ) → cond b (x ∷ xs) xs ≡ kept b x ++ xs
kept-first true x xs = refl
kept-first false x xs = refl

pub non_zeros-first : (x : ℕ) (xs : List ℕ) → non_zeros (x ∷ xs) ≡ kept (non_zero x) x ++ non_zeros xs
non_zeros-first x xs = go (eqb x 0)
  where
    go : (b : Bool) → cond b (non_zeros xs) (x ∷ non_zeros xs) ≡ kept (not b) x ++ non_zeros xs
    go true = refl
    go false = refl

pub one-le : (b : Bool) → cond b 1 0 ≤ 1
one-le true = omega arith
one-le false = omega arith

-- A test as a number.
pub byte_one : (b : Bool) → bool_byte b ≡ cond b 1 0
byte_one true = refl
byte_one false = refl

-- The list from a place on is its first value and the rest.
pub drop-next : (xs : List ℕ) (at k : ℕ) → at + k < length xs → drop (at + k) xs ≡ get_or xs (at + k) 0 ∷ drop (at + suc k) xs
drop-next xs at k h = rw (add-suc at k) (drop-cons xs (at + k) 0 h)

-- The values that are not 0 in a list of two parts.
pub non_zeros-parts : (xs ys : List ℕ) {all : List ℕ} → all ≡ xs ++ ys → length (non_zeros all) ≡ length (non_zeros xs) + length (non_zeros ys)
non_zeros-parts xs ys e = rw (e, non-zeros-append xs ys) (length-append (non_zeros xs) (non_zeros ys))

-- Whole blocks of bytes, and the bytes after them; the blocks from one on, and what is not 0 in them.
pub blocks-parts : (n k : ℕ) (xs : List ℕ) → joined (first_chunks n k xs) ++ drop (k * n) xs ≡ xs
blocks-parts n zero xs = rw (zero-mul n) refl
blocks-parts n (suc k) xs =
    let place : suc k * n ≡ n + k * n = omega (arith, suc-mul k n) in
    rw (place, ← (drop-drop (k * n) n xs))
    (append_assoc (take n xs) (joined (first_chunks n k (drop n xs))) (drop (k * n) (drop n xs))
    ∙ ap (take n xs ++◌) (blocks-parts n k (drop n xs))
    ∙ take-append-drop n xs)

abbrev pub blocks_left : List (List ℕ) → List ℕ → ℕ → List ℕ
blocks_left blocks rest i = joined (drop i blocks) ++ rest

pub blocks-next : (blocks : List (List ℕ)) (rest : List ℕ) (i : ℕ) → i < length blocks
    → length (non_zeros (blocks_left blocks rest i))
    ≡ length (non_zeros (get_or blocks i [])) + length (non_zeros (blocks_left blocks rest (i + 1)))
blocks-next blocks rest i h =
    rw (add-one i, drop-cons blocks i [] h)
    (non_zeros-parts (get_or blocks i []) (joined (drop (suc i) blocks) ++ rest)
    (append_assoc (get_or blocks i []) (joined (drop (suc i) blocks)) rest))

pub blocks-past : (blocks : List (List ℕ)) (rest : List ℕ) (i : ℕ) → length blocks ≤ i → blocks_left blocks rest i ≡ rest
blocks-past blocks rest i h = rw (drop_of_length-le blocks {i = i} h) refl

-- The six fields of a cell.
pub cell-fields : (bytes : List ℕ) (at : ℕ) → at + 6 ≤ length bytes
    → cell_at bytes at
    ≡ get_or bytes at 0 ∷ get_or bytes (at + 1) 0 ∷ get_or bytes (at + 2) 0 ∷ get_or bytes (at + 3) 0 ∷ get_or bytes (at + 4) 0 ∷ get_or bytes (at + 5) 0 ∷ []
cell-fields bytes at h =
    rw (
      first,
      drop-next bytes at 1 (omega arith),
      drop-next bytes at 2 (omega arith),
      drop-next bytes at 3 (omega arith),
      drop-next bytes at 4 (omega arith),
      drop-next bytes at 5 (omega arith),
    )
  where
    first : drop at bytes ≡ get_or bytes at 0 ∷ drop (at + 1) bytes
    first = rw (add-one at) (drop-cons bytes at 0 (omega arith))

pub length-cell : (bytes : List ℕ) (at : ℕ) → at + 6 ≤ length bytes → length (cell_at bytes at) ≡ 6
length-cell bytes at h = rw (cell-fields bytes at h)

pub non_empty-first : (x : ℕ) (xs : List ℕ) → non_empty (x ∷ xs) ≡ non_zero x || non_empty xs
non_empty-first x xs = go (eqb x 0)
  where
    go : (b : Bool) → ltb 0 (length (cond b (non_zeros xs) (x ∷ non_zeros xs))) ≡ not b || non_empty xs
    go true = refl
    go false = lt-ltb 0 (suc (length (non_zeros xs))) (omega arith)

pub cell-filled : (bytes : List ℕ) (at : ℕ) → at + 6 ≤ length bytes
    → non_zero (get_or bytes at 0)
    || (non_zero (get_or bytes (at + 1) 0)
    || (non_zero (get_or bytes (at + 2) 0)
    || (non_zero (get_or bytes (at + 3) 0) || (non_zero (get_or bytes (at + 4) 0) || non_zero (get_or bytes (at + 5) 0)))))
    ≡ non_empty (cell_at bytes at)
cell-filled bytes at h =
    rw (cell-fields bytes at h)
    (six (get_or bytes at 0) (get_or bytes (at + 1) 0) (get_or bytes (at + 2) 0) (get_or bytes (at + 3) 0) (get_or bytes (at + 4) 0) (get_or bytes (at + 5) 0))
  where
    or-false : (b : Bool) → b || false ≡ b
    or-false true = refl
    or-false false = refl

    six : (a b c d e f : ℕ) → non_zero a || (non_zero b || (non_zero c || (non_zero d || (non_zero e || non_zero f)))) ≡ non_empty (a ∷ b ∷ c ∷ d ∷ e ∷ f ∷ [])
    six a b c d e f =
        cc (
          non_empty-first a (b ∷ c ∷ d ∷ e ∷ f ∷ []),
          non_empty-first b (c ∷ d ∷ e ∷ f ∷ []),
          non_empty-first c (d ∷ e ∷ f ∷ []),
          non_empty-first d (e ∷ f ∷ []),
          non_empty-first e (f ∷ []),
          non_empty-first f [],
          or-false (non_zero f),
        )

-- The state of counting the non-empty cells, cell by cell: the cells left and those counted give the result.
pub record CountingCells (cells : List ℕ) (n count at : ℕ) : Type 0 where
  pub left : ℕ
  pub place : at + left * 6 ≡ length cells
  pub bound : count + left ≤ n
  pub same : count + non_empty_cells (groups_of left 6 (drop at cells)) ≡ non_empty_cells (groups_of n 6 cells)

module _ (cells : List ℕ) (n : ℕ) where
  pub counts-first : length cells ≡ n * 6 → CountingCells cells n 0 0
  counts-first e = record { left = n; place = omega arith; bound = omega arith; same = zero-add _ }

  module _ (count at : ℕ) where
    pub counts-inside : CountingCells cells n count at → at < length cells → (at + 6 ≤ length cells) × (count < n)
    counts-inside c h = go c.left c.place c.bound
      where
        go : (left : ℕ) → at + left * 6 ≡ length cells → count + left ≤ n → (at + 6 ≤ length cells) × (count < n)
        go zero e b = absurd (omega arith)
        go (suc left) e b = (omega (arith, suc-mul left 6), omega arith)

    pub counts-turn : CountingCells cells n count at → at < length cells → CountingCells cells n (count + cond (non_empty (cell_at cells at)) 1 0) (at + 6)
    counts-turn c h = go c.left c.place c.bound c.same
      where
        one_more : (b : Bool) (k : ℕ) → cond b (suc k) k ≡ cond b 1 0 + k
        one_more true k = omega arith
        one_more false k = omega arith

        go : (left : ℕ) → at + left * 6 ≡ length cells → count + left ≤ n
            → count + non_empty_cells (groups_of left 6 (drop at cells)) ≡ non_empty_cells (groups_of n 6 cells)
            → CountingCells cells n (count + cond (non_empty (cell_at cells at)) 1 0) (at + 6)
        go zero e b p = absurd (omega arith)
        go (suc left) e b p =
            let p' = rw (drop-drop 6 at cells) at p in
            record {
              left = left;
              place = omega (arith, suc-mul left 6);
              bound = omega (arith, one-le (non_empty (cell_at cells at)));
              same = omega (arith, one_more (non_empty (cell_at cells at)) (non_empty_cells (groups_of left 6 (drop (at + 6) cells))), p');
            }

    pub counts-last : CountingCells cells n count at → length cells ≤ at → (count ≡ non_empty_cells (groups_of n 6 cells)) × (count ≤ n)
    counts-last c h = go c.left c.place c.bound c.same
      where
        go : (left : ℕ) → at + left * 6 ≡ length cells → count + left ≤ n
            → count + non_empty_cells (groups_of left 6 (drop at cells)) ≡ non_empty_cells (groups_of n 6 cells)
            → (count ≡ non_empty_cells (groups_of n 6 cells)) × (count ≤ n)
        go zero e b p = (omega arith, omega arith)
        go (suc left) e b p = absurd (omega (arith, suc-mul left 6))

-- The same for the six bytes as one number, in which the two in the middle occur twice.
or-none : (a b : Bool) → a || b ≡ false → (a ≡ false) × (b ≡ false)
or-none true b e = absurd (let z : ◌≡◌ {A = ℕ} 0 1 = cc in omega arith)
or-none false b e = (refl, e)

zero_of : (f : ℕ) → non_zero f ≡ false → f ≡ 0
zero_of f e = eqb-true f 0 (not-false (eqb f 0) e)

pub word-filled : (bytes : List ℕ) (at word : ℕ) → at + 6 ≤ length bytes
    → word
    ≡ get_or bytes at 0 + 256 * get_or bytes (at + 1) 0 + 65536 * get_or bytes (at + 2) 0 + 16777216 * get_or bytes (at + 3) 0
    + (get_or bytes (at + 2) 0 + 256 * get_or bytes (at + 2 + 1) 0 + 65536 * get_or bytes (at + 2 + 2) 0 + 16777216 * get_or bytes (at + 2 + 3) 0)
    → not (eqb word 0) ≡ non_empty (cell_at bytes at)
word-filled bytes at word h e' = go (eqb word 0) refl
  where
    e : word
        ≡ get_or bytes at 0 + 256 * get_or bytes (at + 1) 0 + 65536 * get_or bytes (at + 2) 0 + 16777216 * get_or bytes (at + 3) 0
        + (get_or bytes (at + 2) 0 + 256 * get_or bytes (at + 3) 0 + 65536 * get_or bytes (at + 4) 0 + 16777216 * get_or bytes (at + 5) 0)
    e = rw (add_assoc at 2 1, add_assoc at 2 2, add_assoc at 2 3) at e'

    go : (t : Bool) → eqb word 0 ≡ t → not t ≡ non_empty (cell_at bytes at)
    go true z =
        let none = eqb-true word 0 z in
        let is = e in
        let b0 : get_or bytes at 0 ≡ 0 = omega arith in
        let b1 : get_or bytes (at + 1) 0 ≡ 0 = omega arith in
        let b2 : get_or bytes (at + 2) 0 ≡ 0 = omega arith in
        let b3 : get_or bytes (at + 3) 0 ≡ 0 = omega arith in
        let b4 : get_or bytes (at + 4) 0 ≡ 0 = omega arith in
        let b5 : get_or bytes (at + 5) 0 ≡ 0 = omega arith in
        sym (rw (b0, b1, b2, b3, b4, b5) at (sym (cell-filled bytes at h)))
    go false z = some (non_empty (cell_at bytes at)) refl
      where
        some : (t : Bool) → non_empty (cell_at bytes at) ≡ t → true ≡ t
        some true f = refl
        some false f =
            let f1 = non_zero (get_or bytes (at + 1) 0) in
            let f2 = non_zero (get_or bytes (at + 2) 0) in
            let f3 = non_zero (get_or bytes (at + 3) 0) in
            let f4 = non_zero (get_or bytes (at + 4) 0) in
            let f5 = non_zero (get_or bytes (at + 5) 0) in
            let n0 = or-none (non_zero (get_or bytes at 0)) (f1 || (f2 || (f3 || (f4 || f5)))) (cell-filled bytes at h ∙ f) in
            let n1 = or-none f1 (f2 || (f3 || (f4 || f5))) n0.1 in
            let n2 = or-none f2 (f3 || (f4 || f5)) n1.1 in
            let n3 = or-none f3 (f4 || f5) n2.1 in
            let n4 = or-none f4 f5 n3.1 in
            let some_word : word ≡ 0 → ⊥ = eqb-false word 0 z in
            absurd (some_word (omega (
              arith,
              e,
              zero_of (get_or bytes at 0) n0.0,
              zero_of (get_or bytes (at + 1) 0) n1.0,
              zero_of (get_or bytes (at + 2) 0) n2.0,
              zero_of (get_or bytes (at + 3) 0) n3.0,
              zero_of (get_or bytes (at + 4) 0) n4.0,
              zero_of (get_or bytes (at + 5) 0) n4.1,
            )))
