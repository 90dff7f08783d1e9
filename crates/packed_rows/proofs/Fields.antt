-- Storing the named fields of an entry field by field gives what `store` gives on the cell.
use Prim.Native.Nat.{ℕ, zero, suc, ◌+◌, ◌<◌, ◌≤◌, ◌/◌, ◌%◌}
use mathlib.Core.Path.{◌≡◌, refl, sym, ap, ◌∙◌}
use mathlib.Core.List.{List, [], ◌∷◌, ◌++◌, append_assoc}
use mathlib.Core.Bool.{Bool, true, false, cond}
use native.Mathlib.Omega.{arith}
use native.Mathlib.Nat.{add-suc, suc-add, add-zero, zero-add, add_assoc}
use borrow.Author.Tests.{eq-eqb, ne_eqb, eqb-true, eqb-false}
use lib.Dec.{eqb}
use native.Mathlib.Numerals.{add-one}
use lib.ListN.{length, get_or, take, drop, set, length-set, take-append-drop}
use lib.Seq.{drop-cons, take-suc, take-suc-set, drop-set-lt, get_or-drop, drop-drop, set-get_or}
use Rattle.packed_rows.specs.Entries.{bits, count}
use Rattle.packed_rows.specs.Steps.{stored_from, stored_at}
use Rattle.packed_rows.proofs.Bits.{low_bits}

module _ (ns : List Bool) (values out : List ℕ) (to : ℕ) (inside : to < length out) where
  pub stored-named : stored_from (true ∷ ns) values out to ≡ stored_from ns (drop 1 values) (set out to (get_or values 0 0)) (to + 1)
  stored-named =
      rw (
        add-one to,
        add-suc to (length ns),
        suc-add to (length ns),
        take-suc-set out to (get_or values 0 0) inside,
        drop-set-lt (suc to) out to (get_or values 0 0) (omega arith),
        drop-set-lt (suc (to + length ns)) out to (get_or values 0 0) (omega arith),
        drop-cons out to 0 inside,
      )
      (sym (append_assoc (take to out) (get_or values 0 0 ∷ []) _))

  pub stored_other : stored_from (false ∷ ns) values out to ≡ stored_from ns values out (to + 1)
  stored_other =
      rw (add-one to, add-suc to (length ns), suc-add to (length ns), take-suc out to 0 inside, drop-cons out to 0 inside)
      (sym (append_assoc (take to out) (get_or out to 0 ∷ []) _))

-- Fields stored by two lists of names, one after the other.
pub stored-both : (ns ms : List Bool) (values out : List ℕ) (to : ℕ) → to + length ns ≤ length out
    → stored_from (ns ++ ms) values out to ≡ stored_from ms (drop (count ns) values) (stored_from ns values out to) (to + length ns)
stored-both [] ms values out to h = simp (add-zero, take-append-drop)
stored-both (true ∷ ns) ms values out to h =
    let v : ℕ = get_or values 0 0 in
    let inside : to < length out = omega arith in
    let next : to + 1 + length ns ≡ to + suc (length ns) = omega arith in
    let more : 1 + count ns ≡ suc (count ns) = omega arith in
    stored-named (ns ++ ms) values out to inside
    ∙ stored-both ns ms (drop 1 values) (set out to v) (to + 1) (omega (arith, length-set out to v))
    ∙ rw (stored-named ns values out to inside, drop-drop (count ns) 1 values, next, more)
stored-both (false ∷ ns) ms values out to h =
    let inside : to < length out = omega arith in
    let next : to + 1 + length ns ≡ to + suc (length ns) = omega arith in
    stored_other (ns ++ ms) values out to inside
    ∙ stored-both ns ms values out (to + 1) (omega arith)
    ∙ rw (stored_other ns values out to inside, next)

-- No field is named.
pub stored-none : (n : ℕ) (values out : List ℕ) (to : ℕ) → to + n ≤ length out → stored_from (bits n 0) values out to ≡ out
stored-none zero values out to h = rw add-zero (take-append-drop to out)
stored-none (suc n) values out to h =
    stored_other (bits n 0) values out to (omega arith) ∙ stored-none n values out (to + 1) (omega arith)

-- The number of fields that are named: in two lists of names, and at most.
pub count-both : (ns ms : List Bool) → count (ns ++ ms) ≡ count ns + count ms
count-both [] ms = sym (zero-add (count ms))
count-both (true ∷ ns) ms = omega (arith, count-both ns ms)
count-both (false ∷ ns) ms = count-both ns ms

pub count_most : (ns : List Bool) → count ns ≤ length ns
count_most [] = omega arith
count_most (true ∷ ns) = omega (arith, count_most ns)
count_most (false ∷ ns) = omega (arith, count_most ns)

-- The fields of a cell: the first four, and then the last two if the rest of the mask names any.
abbrev pub high : ℕ → ℕ
high mask = mask / 2 / 2 / 2 / 2 % 4

all-six : (mask : ℕ) → bits 6 mask ≡ bits 4 mask ++ bits 2 (high mask)
all-six mask = ap (λ (names : List Bool). bits 4 mask ++ names) (sym (low_bits 2 (mask / 2 / 2 / 2 / 2)))

module _ (mask from size : ℕ) (h : from + count (bits 6 mask) < size) where
  counts : count (bits 6 mask) ≡ count (bits 4 mask) + count (bits 2 (high mask))
  counts = ap count (all-six mask) ∙ count-both (bits 4 mask) (bits 2 (high mask))

  pub first-inside : from + count (bits 4 mask) < size
  first-inside = omega (arith, counts)

  pub last-inside : (next : ℕ) → next ≡ from + count (bits 4 mask) → next + count (bits 2 (high mask)) < size
  last-inside next p = omega (arith, counts)

module _ (s : List ℕ) (from mask : ℕ) (out₀ : List ℕ) (to : ℕ) (room : to + 6 ≤ length out₀) (next : ℕ) (out : List ℕ)
    (place : next ≡ from + count (bits 4 mask)) (first : out ≡ stored_from (bits 4 mask) (drop from s) out₀ to) where
  pub cell-stored : stored_from (bits 2 (high mask)) (drop next s) out (to + 4) ≡ stored_at s from mask out₀ to
  cell-stored =
      rw (place, first, ← (drop-drop (count (bits 4 mask)) from s))
      (sym (stored-both (bits 4 mask) (bits 2 (high mask)) (drop from s) out₀ to (omega arith))
      ∙ ap (λ (names : List Bool). stored_from names (drop from s) out₀ to) (sym (all-six mask)))

  pub cell-short : length out ≡ length out₀ → high mask ≡ 0 → out ≡ stored_at s from mask out₀ to
  cell-short l none =
      sym (stored-none 2 (drop next s) out (to + 4) (omega arith))
      ∙ ap (λ (m : ℕ). stored_from (bits 2 m) (drop next s) out (to + 4)) (sym none)
      ∙ cell-stored

-- The state of a loop over n fields: `field` fields are done, the rest of the mask names which of the others follow at `next`, and storing
-- the rest from here gives the result.
pub record StoringTo (s : List ℕ) (from mask n : ℕ) (out₀ : List ℕ) (to : ℕ) (out : List ℕ) (next rest field : ℕ) : Type 0 where
  pub left : ℕ
  pub counts : left + field ≡ n
  pub place : next + count (bits left rest) ≡ from + count (bits n mask)
  pub same : stored_from (bits left rest) (drop next s) out (to + field) ≡ stored_from (bits n mask) (drop from s) out₀ to

module _ (s : List ℕ) (from mask n : ℕ) (out₀ : List ℕ) (to : ℕ) where
  pub stores-first : StoringTo s from mask n out₀ to out₀ from mask 0
  stores-first =
      record { left = n; counts = add-zero n; place = refl; same = ap (stored_from (bits n mask) (drop from s) out₀) (add-zero to) }

  module _ (out : List ℕ) (next rest field : ℕ) where
    stores-named : StoringTo s from mask n out₀ to out next rest field → to + field < length out → field < n → rest % 2 ≡ 1
        → StoringTo s from mask n out₀ to (set out (to + field) (get_or s next 0)) (next + 1) (rest / 2) (field + 1)
    stores-named c h f t = go c.left c.counts c.place c.same
      where
        go : (k : ℕ) → k + field ≡ n → next + count (bits k rest) ≡ from + count (bits n mask)
            → stored_from (bits k rest) (drop next s) out (to + field) ≡ stored_from (bits n mask) (drop from s) out₀ to
            → StoringTo s from mask n out₀ to (set out (to + field) (get_or s next 0)) (next + 1) (rest / 2) (field + 1)
        go zero e i p = absurd (omega arith)
        go (suc k) e i p =
            let named = eq-eqb (rest % 2) 1 t in
            let i' = rw named at i in
            let p' = rw named at p in
            let turn = stored-named (bits k (rest / 2)) (drop next s) out (to + field) h in
            let turn' = simp (get_or-drop, drop-drop, add-zero, add_assoc to field 1) at turn in
            record { left = k; counts = omega arith; place = omega arith; same = sym turn' ∙ p' }

    stores-other : StoringTo s from mask n out₀ to out next rest field → to + field < length out → field < n
        → (rest % 2 ≡ 1 → ⊥)
        → StoringTo s from mask n out₀ to (set out (to + field) (get_or out (to + field) 0)) next (rest / 2) (field + 1)
    stores-other c h f t = go c.left c.counts c.place c.same
      where
        go : (k : ℕ) → k + field ≡ n → next + count (bits k rest) ≡ from + count (bits n mask)
            → stored_from (bits k rest) (drop next s) out (to + field) ≡ stored_from (bits n mask) (drop from s) out₀ to
            → StoringTo s from mask n out₀ to (set out (to + field) (get_or out (to + field) 0)) next (rest / 2) (field + 1)
        go zero e i p = absurd (omega arith)
        go (suc k) e i p =
            let other = ne_eqb (rest % 2) 1 t in
            let i' = rw other at i in
            let p' = rw other at p in
            let turn = stored_other (bits k (rest / 2)) (drop next s) out (to + field) h in
            let turn' = simp (add_assoc to field 1) at turn in
            record { left = k; counts = omega arith; place = i'; same = rw set-get_or (sym turn' ∙ p') }

    pub stores-last : StoringTo s from mask n out₀ to out next rest field → n ≤ field
        → (next ≡ from + count (bits n mask)) × (out ≡ stored_from (bits n mask) (drop from s) out₀ to)
    stores-last c h =
        let none : c.left ≡ 0 = omega arith in (
          sym (add-zero next) ∙ rw none at c.place,
          sym (take-append-drop (to + field) out) ∙ rw (none, add-zero) at c.same,
        )

    -- One iteration, whether the field is named or not.
    pub stores-turn : StoringTo s from mask n out₀ to out next rest field → to + field < length out → field < n
        → (bit value next' : ℕ) → bit ≡ rest % 2 → value ≡ cond (eqb bit 1) (get_or s next 0) (get_or out (to + field) 0)
        → next' ≡ next + bit
        → StoringTo s from mask n out₀ to (set out (to + field) value) next' (rest / 2) (field + 1)
    stores-turn c h f bit value next' b v e = go (eqb bit 1) refl
      where
        go : (t : Bool) → eqb bit 1 ≡ t → StoringTo s from mask n out₀ to (set out (to + field) value) next' (rest / 2) (field + 1)
        go true t =
            let one : bit ≡ 1 = eqb-true bit 1 t in
            rw (v, e, one) (stores-named c h f (sym b ∙ one))
        go false t =
            let not-one : bit ≡ 1 → ⊥ = eqb-false bit 1 t in
            let none : bit ≡ 0 = omega (arith, b, not-one) in
            rw (v, e, none, add-zero next) (stores-other c h f (λ o. not-one (b ∙ o)))
