-- The shapes of cells, rows and patterns: the length of blocks of one size, that cutting bytes into rows of cells and joining them again
-- are inverse to each other, and that the rows which entries give have the right shape.
use Prim.Native.Nat.{ℕ, zero, suc, ◌+◌, ◌-◌, ◌*◌, ◌≤◌, ◌<◌}
use native.Mathlib.Nat.{suc-mul, zero-mul, suc-add, zero-add, add_comm}
use native.Mathlib.Omega.{arith}
use mathlib.Core.Path.{◌≡◌, refl, sym, ap, ◌∙◌}
use mathlib.Core.List.{List, [], ◌∷◌, ◌++◌, map}
use mathlib.Core.Bool.{Bool, true, false}
use lib.ListN.{length, get_or, drop, set, replicate, length-append, length-drop, take-append-drop, get_or-append, get_or-map}
use lib.Seq.{length-take-le, take_at, drop_at, get_or-append-add}
use Rattle.vocabulary.specs.Lists.{joined}
use Rattle.vocabulary.proofs.JoinedLists.{joined-append}
use Rattle.cells.specs.Cells.{Cell, Row, empty_cell, empty_row, cell_bytes, groups_of, row_of, rows_of, bytes_of}
use Rattle.packed_rows.specs.Entries.{Entry, named, store, carry_out, carry_all, row_from, rows_from}

-- A list of the given length whose elements all have the property.
pub data Each {A : Type 0} (P : A → Type 0) : ℕ → List A → Type 0 where
  none : Each P zero []
  one : {n : ℕ} {x : A} {xs : List A} → P x → Each P n xs → Each P (suc n) (x ∷ xs)

-- An element of a mapped list, if it is there: the defaults do not matter.
pub get_or-mapped : {A B : Type 0} (f : A → B) (xs : List A) (i : ℕ) (first : B) (other : A) → i < length xs → get_or (map f xs) i first ≡ f (get_or xs i other)
get_or-mapped f [] i first other h = absurd (omega arith)
get_or-mapped f (x ∷ xs) zero first other h = refl
get_or-mapped f (x ∷ xs) (suc i) first other h = get_or-mapped f xs i first other (omega arith)

-- A list of n lists of one length: n blocks of bytes, or n cells of six fields.
abbrev pub Blocks : {A : Type 0} → ℕ → ℕ → List (List A) → Type 0
Blocks n size xs = Each (λ x. length x ≡ size) n xs

-- The given number of rows, each of the given number of cells of six fields.
abbrev pub Shaped : ℕ → ℕ → List Row → Type 0
Shaped rows tracks pattern = Each (Blocks tracks 6) rows pattern

module _ {A : Type 0} {P : A → Type 0} where
  pub each-count : {n : ℕ} {xs : List A} → Each P n xs → length xs ≡ n
  each-count none = refl
  each-count (one p e) = ap suc (each-count e)

  pub each_all : ((x : A) → P x) → (xs : List A) → Each P (length xs) xs
  each_all h [] = none
  each_all h (x ∷ xs) = one (h x) (each_all h xs)

  pub each-replicate : (n : ℕ) (a : A) → P a → Each P n (replicate n a)
  each-replicate zero a p = none
  each-replicate (suc n) a p = one p (each-replicate n a p)

  pub each_set : {n : ℕ} {xs : List A} (i : ℕ) (a : A) → P a → Each P n xs → Each P n (set xs i a)
  each_set i a p none = none
  each_set zero a p (one q e) = one p e
  each_set (suc i) a p (one q e) = one q (each_set i a p e)

  pub each-get_or : {n : ℕ} {xs : List A} (i : ℕ) (d : A) → P d → Each P n xs → P (get_or xs i d)
  each-get_or i d p none = p
  each-get_or zero d p (one q e) = q
  each-get_or (suc i) d p (one q e) = each-get_or i d p e

  module _ {B : Type 0} where
    pub each_map : {Q : B → Type 0} {n : ℕ} {xs : List A} (f : A → B) → ((x : A) → P x → Q (f x)) → Each P n xs → Each Q n (map f xs)
    each_map f h none = none
    each_map f h (one {x = x} p e) = one (h x p) (each_map f h e)

    pub map_back : {n : ℕ} {xs : List A} (f : A → B) (g : B → A) → ((x : A) → P x → g (f x) ≡ x) → Each P n xs → map g (map f xs) ≡ xs
    map_back f g h none = refl
    map_back f g h (one {x = x} p e) = rw (h x p, map_back f g h e)

pub length-joined : {A : Type 0} (size : ℕ) {n : ℕ} {xs : List (List A)} → Blocks n size xs → length (joined xs) ≡ n * size
length-joined size none = sym (zero-mul size)
length-joined size (one {n = n} p e) = rw (suc-mul, length-append, p, length-joined size e) (omega arith)

pub blocks-shaped : (n size : ℕ) (bytes : List ℕ) → n * size ≤ length bytes → Blocks n size (groups_of n size bytes)
blocks-shaped zero size bytes h = none
blocks-shaped (suc n) size bytes h =
    let fits : size + n * size ≤ length bytes = omega (arith, suc-mul n size) in
    one (length-take-le size bytes (omega arith)) (blocks-shaped n size (drop size bytes) (simp length-drop (omega arith)))

pub joined-blocks : (n size : ℕ) (bytes : List ℕ) → length bytes ≡ n * size → joined (groups_of n size bytes) ≡ bytes
joined-blocks zero size [] e = refl
joined-blocks zero size (b ∷ bytes) e = absurd (omega (arith, zero-mul size))
joined-blocks (suc n) size bytes e =
    rw (joined-blocks n size (drop size bytes) (simp length-drop (omega (arith, suc-mul n size)))) (take-append-drop size bytes)

pub blocks-joined : (size : ℕ) {n : ℕ} {xs : List (List ℕ)} → Blocks n size xs → groups_of n size (joined xs) ≡ xs
blocks-joined size none = refl
blocks-joined size (one {x = x} {xs = xs} p e) = rw (take_at x (joined xs) size p, drop_at x (joined xs) size p, blocks-joined size e)

-- One row.
pub joined-row : (tracks : ℕ) (bytes : List ℕ) → length bytes ≡ tracks * 6 → joined (row_of tracks bytes) ≡ bytes
joined-row tracks = joined-blocks tracks 6

pub row-joined : {tracks : ℕ} (row : Row) → Blocks tracks 6 row → row_of tracks (joined row) ≡ row
row-joined row = blocks-joined 6

-- A pattern.
pub rows-shaped : (rows tracks : ℕ) (bytes : List ℕ) → length bytes ≡ cell_bytes rows tracks → Shaped rows tracks (rows_of rows tracks bytes)
rows-shaped rows tracks bytes e =
    each_map (row_of tracks) (λ x l. blocks-shaped tracks 6 x (omega arith)) (blocks-shaped rows (tracks * 6) bytes (omega arith))

joined-shaped : {rows tracks : ℕ} {pattern : List Row} → Shaped rows tracks pattern → Blocks rows (tracks * 6) (map joined pattern)
joined-shaped s = each_map joined (λ row b. length-joined 6 b) s

pub length-bytes : {rows tracks : ℕ} {pattern : List Row} → Shaped rows tracks pattern → length (bytes_of pattern) ≡ cell_bytes rows tracks
length-bytes {rows} {tracks} s = length-joined (tracks * 6) (joined-shaped s)

pub bytes-rows : (rows tracks : ℕ) (bytes : List ℕ) → length bytes ≡ cell_bytes rows tracks → bytes_of (rows_of rows tracks bytes) ≡ bytes
bytes-rows rows tracks bytes e =
    rw (map_back (row_of tracks) joined (joined-row tracks) (blocks-shaped rows (tracks * 6) bytes (omega arith)))
    (joined-blocks rows (tracks * 6) bytes e)

pub rows-bytes : {rows tracks : ℕ} {pattern : List Row} → Shaped rows tracks pattern → rows_of rows tracks (bytes_of pattern) ≡ pattern
rows-bytes {rows} {tracks} s = rw (blocks-joined (tracks * 6) (joined-shaped s)) (map_back joined (row_of tracks) row-joined s)

-- The cells of a pattern as one list: its bytes, and its shape.
pub bytes-joined : (rows : List Row) → bytes_of rows ≡ joined (joined rows)
bytes-joined [] = refl
bytes-joined (row ∷ rows) = rw (bytes-joined rows) (sym (joined-append row (joined rows)))

module _ {A : Type 0} {P : A → Type 0} where
  pub each_append : {n m : ℕ} {xs ys : List A} → Each P n xs → Each P m ys → Each P (n + m) (xs ++ ys)
  each_append {m = m} none e = rw zero-add e
  each_append {m = m} (one p d) e = rw suc-add (one p (each_append d e))

  pub each-joined : {m n : ℕ} {xs : List (List A)} → Each (Each P m) n xs → Each P (n * m) (joined xs)
  each-joined {m = m} none = rw (zero-mul m) none
  each-joined {m = m} (one {n = n} p e) = rw (suc-mul n m, add_comm) (each_append p (each-joined e))

pub joined-rows : (rows tracks : ℕ) (bytes : List ℕ) → length bytes ≡ cell_bytes rows tracks
    → joined (rows_of rows tracks bytes) ≡ groups_of (rows * tracks) 6 bytes
joined-rows rows tracks bytes e =
    sym (blocks-joined 6 (each-joined (rows-shaped rows tracks bytes e)))
    ∙ ap (groups_of (rows * tracks) 6) (sym (bytes-joined (rows_of rows tracks bytes)) ∙ bytes-rows rows tracks bytes e)

-- An element of joined lists.
pub get_or-joined : {A : Type 0} (size : ℕ) {n : ℕ} {xs : List (List A)} → Blocks n size xs → (i j : ℕ) (other : List A) (d : A) → i < n → j < size
    → get_or (joined xs) (i * size + j) d ≡ get_or (get_or xs i other) j d
get_or-joined size none i j other d h l = absurd (omega arith)
get_or-joined size (one {x = x} {xs = xs} p e) zero j other d h l = rw (zero-mul, zero-add) (get_or-append x (joined xs) d j (omega arith))
get_or-joined size (one {x = x} {xs = xs} p e) (suc i) j other d h l =
    let at : suc i * size + j ≡ length x + (i * size + j) = omega (arith, suc-mul i size) in
    rw at (get_or-append-add x (joined xs) (i * size + j) d ∙ get_or-joined size e i j other d (omega arith) l)

pub get_or-bytes : {rows tracks : ℕ} {pattern : List Row} → Shaped rows tracks pattern → (row track field : ℕ) → row < rows → track < tracks → field < 6
    → get_or (bytes_of pattern) (row * (tracks * 6) + (track * 6 + field)) 0 ≡ get_or (get_or (get_or pattern row (empty_row tracks)) track empty_cell) field 0
get_or-bytes {tracks = tracks} {pattern} s row track field h k l =
    get_or-joined (tracks * 6) (joined-shaped s) row (track * 6 + field) (joined (empty_row tracks)) 0 h (omega arith)
    ∙ ap (λ (cells : List ℕ). get_or cells (track * 6 + field) 0) (get_or-map joined pattern row (empty_row tracks))
    ∙ get_or-joined 6 (each-get_or row (empty_row tracks) (each-replicate tracks empty_cell refl) s) track field empty_cell 0 k l

-- Carrying out entries keeps the shape of a row.
pub length-store : (ns : List Bool) (values : List ℕ) (cell : Cell) → length (store ns values cell) ≡ length cell
length-store [] values cell = refl
length-store (n ∷ ns) values [] = refl
length-store (true ∷ ns) values (f ∷ cell) = ap suc (length-store ns (drop 1 values) cell)
length-store (false ∷ ns) values (f ∷ cell) = ap suc (length-store ns values cell)

pub carry-shaped : {tracks : ℕ} {row : Row} (e : Entry) → Blocks tracks 6 row → Blocks tracks 6 (carry_out e row)
carry-shaped {tracks} {row} e b =
    each_set (e.track - 1) _
    (length-store (named e.mask) e.fields (get_or row (e.track - 1) empty_cell) ∙ each-get_or (e.track - 1) empty_cell refl b) b

pub carry-all-shaped : {tracks : ℕ} (es : List Entry) {row : Row} → Blocks tracks 6 row → Blocks tracks 6 (carry_all es row)
carry-all-shaped [] b = b
carry-all-shaped (e ∷ es) b = carry-all-shaped es (carry-shaped e b)

pub row-from-shaped : (tracks : ℕ) (es : List Entry) → Blocks tracks 6 (row_from tracks es)
row-from-shaped tracks es = carry-all-shaped es (each-replicate tracks empty_cell refl)

pub rows-from-shaped : (tracks : ℕ) (entries : List (List Entry)) → Shaped (length entries) tracks (rows_from tracks entries)
rows-from-shaped tracks entries = each_map (row_from tracks) (λ es u. row-from-shaped tracks es) (each_all {P = λ es. Unit {0}} (λ es. tt) entries)
