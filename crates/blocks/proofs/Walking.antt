-- A loop that goes from block to block: after n blocks from a start on, it is at the place after n blocks.
use Prim.Native.Nat.{ℕ, zero, suc, ◌+◌, ◌-◌, ◌<◌, ◌≤◌}
use mathlib.Core.Path.{◌≡◌, refl, sym, ap}
use mathlib.Core.Bool.{false}
use native.Mathlib.Omega.{arith}
use native.Mathlib.Nat.{zero-add, suc-add}
use lib.Dec.{eqb}
use borrow.Author.Tests.{ne_eqb}
use Rattle.blocks.specs.Sizes.{place_after}

module _ (size : ℕ → ℕ) where
  -- The place after some blocks and then others.
  place-on : (n others start : ℕ) → place_after size (n + others) start ≡ place_after size others (place_after size n start)
  place-on zero others start = rw (zero-add others) refl
  place-on (suc n) others start = rw (suc-add n others) (place-on n others (start + size start))

  -- The place after some blocks is not before the place of the first.
  leads-on : (n at : ℕ) → at ≤ place_after size n at
  leads-on zero at = omega arith
  leads-on (suc n) at = omega (arith, leads-on n (at + size at))

  module _ (n start : ℕ) {at : ℕ} (walked : at ≡ place_after size n start) where
    -- One block more.
    pub walk-turn : {s : ℕ} → s ≡ size at → at + s ≡ place_after size (n + 1) start
    walk-turn sized = rw (sized, walked) (sym (place-on n 1 start))

    -- A block is left, and the end is reached: the place after all blocks is past the end.
    pub walk-over : (all : ℕ) {end : ℕ} → n < all → 0 < size at → end ≤ at → false ≡ eqb (place_after size all start) end
    walk-over all {end} some grows reached =
        let others = all - n - 1 in
        let split : all ≡ n + suc others = omega arith in
        let further : place_after size (n + suc others) start ≡ place_after size others (at + size at) = rw walked (place-on n (suc others) start) in
        let counted : place_after size all start ≡ place_after size (n + suc others) start = ap (λ (k : ℕ). place_after size k start) split in
        sym (ne_eqb (place_after size all start) end (λ met. omega (arith, counted, further, leads-on others (at + size at))))
