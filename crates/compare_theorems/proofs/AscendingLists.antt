-- Ascending lists of differences, one after the other: two lists, if every entry of the first comes before every entry of the second; and
-- several lists that are ordered by one number of their entries (the measure). All entries of one list have the same number, and all entries
-- agree in what comes before that number (P).
use Prim.Native.Nat.{ℕ, zero, suc, ◌+◌, ◌≤◌, ◌<◌}
use mathlib.Core.Path.{◌≡◌}
use mathlib.Core.List.{List, [], ◌++◌}
use mathlib.Core.Bool.{Bool, true, false}
use native.Mathlib.Omega.{arith}
use Rattle.vocabulary.specs.Lists.{joined, Every, none, also}
use Rattle.vocabulary.proofs.EveryOne.{every_append, every_of}
use Rattle.numbers.specs.Numbers.{each_from}
use Rattle.differences.specs.Differences.{difference_if}
use Rattle.differences.specs.declared.Difference.{Difference}
use Rattle.compare_theorems.specs.Differs.{Before, Ascending}

pub ascending-append : {xs ys : List Difference} → Ascending xs → Ascending ys → Every (λ (d : Difference). Every (Before d) ys) xs
    → Ascending (xs ++ ys)
ascending-append Ascending.no_entries after before = after
ascending-append {ys = ys} (Ascending.first_before {ds = ds} first rest) after (also each every) =
    Ascending.first_before ((every_append ds ys).1 (first, each)) (ascending-append rest after every)

-- At most one entry.
pub difference-ascending : (b : Bool) (d : Difference) → Ascending (difference_if b d)
difference-ascending true d = Ascending.first_before none Ascending.no_entries
difference-ascending false d = Ascending.no_entries

pub difference-every : {P : Difference → Type 0} (b : Bool) (d : Difference) → P d → Every P (difference_if b d)
difference-every true d p = also p none
difference-every false d p = none

-- The entries that satisfy P and have this number.
abbrev pub Having : (Difference → Type 0) → (Difference → ℕ) → ℕ → Difference → Type 0
Having P measure n d = P d × (measure d ≡ n)

module _ (P : Difference → Type 0) (measure : Difference → ℕ)
    (before : (d e : Difference) → P d → P e → measure d < measure e → Before d e) where
  -- An ascending list of entries that have this number.
  pub record Section (n : ℕ) (ds : List Difference) : Type 0 where
    pub ascending : Ascending ds
    pub every : Every (Having P measure n) ds

  -- An ascending list of entries that have at least this number.
  pub record Rising (least : ℕ) (ds : List Difference) : Type 0 where
    pub ascending : Ascending ds
    pub every : Every (λ (d : Difference). P d × (least ≤ measure d)) ds

  pub rising_none : (n : ℕ) → Rising n []
  rising_none n = record { ascending = Ascending.no_entries; every = none }

  pub rising-last : {n : ℕ} {xs : List Difference} → Section n xs → Rising n xs
  rising-last {n} s = record { ascending = s.ascending; every = every_of (λ d h. (h.0, omega (arith, h.1))) s.every }

  pub rising-more : {n : ℕ} {xs rest : List Difference} → Section n xs → Rising (n + 1) rest → Rising n (xs ++ rest)
  rising-more {n} {xs} {rest} s r = record {
    ascending = ascending-append s.ascending r.ascending
        (every_of (λ d h. every_of (λ e g. before d e h.0 g.0 (omega (arith, h.1, g.1))) r.every) s.every);
    every = (every_append xs rest).1 ((rising-last s).every, every_of (λ d h. (h.0, omega (arith, h.1))) r.every);
  }

  pub rising-each : (f : ℕ → List Difference) → ((i : ℕ) → Section i (f i)) → (n k : ℕ) → Rising k (joined (each_from f k n))
  rising-each f each zero k = rising_none k
  rising-each f each (suc n) k = rising-more (each k) (rising-each f each n (k + 1))

  -- All these entries satisfy P.
  pub rising-every : {n : ℕ} {xs : List Difference} → Rising n xs → Every P xs
  rising-every r = every_of (λ d h. h.0) r.every
