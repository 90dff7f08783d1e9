-- Masks: the number of given bits has these bits, and the lowest bits of a number are those of its remainder by a power of 2.
use Prim.Native.Nat.{ℕ, zero, suc, ◌+◌, ◌*◌, ◌/◌, ◌%◌, ◌^◌, ◌<◌}
use native.Mathlib.Nat.{pow-suc}
use native.Mathlib.Omega.{arith}
use mathlib.Core.Path.{◌≡◌, refl, sym, ap, ◌∙◌}
use mathlib.Core.List.{List, [], ◌∷◌}
use mathlib.Core.Bool.{Bool, true, false, cond}
use borrow.Author.Tests.{eqb-true, eqb-false, eq-eqb, ne_eqb}
use lib.ListN.{length}
use lib.Arith.{mod-mul}
use lib.Pow.{pow_pos}
use lib.Dec.{eqb}
use Rattle.packed_rows.specs.Entries.{bits}
use Rattle.packed_rows.specs.Packer.{of_bits}

-- A number with lowest bit b and the bits of m above it.
low_bit : (b : Bool) (m : ℕ) → eqb ((cond b 1 0 + 2 * m) % 2) 1 ≡ b
low_bit true m = eq-eqb ((1 + 2 * m) % 2) 1 (omega arith)
low_bit false m = ne_eqb ((0 + 2 * m) % 2) 1 (λ q. omega arith)

high_bits : (b : Bool) (m : ℕ) → (cond b 1 0 + 2 * m) / 2 ≡ m
high_bits true m = omega arith
high_bits false m = omega arith

pub bits_of : (n : ℕ) (bs : List Bool) → length bs ≡ n → bits n (of_bits bs) ≡ bs
bits_of n [] l = rw (← l)
bits_of n (b ∷ bs) l = rw (← l) (rw (low_bit b (of_bits bs), high_bits b (of_bits bs), bits_of (length bs) bs refl))

-- The lowest n bits of a number are the bits of its remainder by 2 ^ n: as a number, and as bits.
pub of-bits : (n m : ℕ) → of_bits (bits n m) ≡ m % 2 ^ n
of-bits zero m = omega arith
of-bits (suc n) m = rw (of-bits n (m / 2)) (go (eqb (m % 2) 1) refl)
  where
    halves : m % 2 ^ suc n ≡ (m / 2 % 2 ^ n) * 2 + m % 2
    halves = rw (pow-suc 2 n) (mod-mul m {m = 2 ^ n} {c = 2} (pow_pos n) (omega arith))

    go : (b : Bool) → eqb (m % 2) 1 ≡ b → cond b 1 0 + 2 * (m / 2 % 2 ^ n) ≡ m % 2 ^ suc n
    go true q = omega (arith, halves, eqb-true (m % 2) 1 q)
    go false q = let even : ¬ (m % 2 ≡ 1) = eqb-false (m % 2) 1 q in omega (arith, halves)

length-bits : (n m : ℕ) → length (bits n m) ≡ n
length-bits zero m = refl
length-bits (suc n) m = ap suc (length-bits n (m / 2))

pub low_bits : (n m : ℕ) → bits n (m % 2 ^ n) ≡ bits n m
low_bits n m = ap (bits n) (sym (of-bits n m)) ∙ bits_of n (bits n m) (length-bits n m)

pub of-bits-below : (n : ℕ) (bs : List Bool) → length bs ≡ n → of_bits bs < 2 ^ n
of-bits-below n [] l = rw (← l) (omega arith)
of-bits-below n (b ∷ bs) l = rw (← l) (go b (of-bits-below (length bs) bs refl))
  where
    go : (b : Bool) → of_bits bs < 2 ^ length bs → cond b 1 0 + 2 * of_bits bs < 2 ^ suc (length bs)
    go true h = omega (arith, pow-suc 2 (length bs))
    go false h = omega (arith, pow-suc 2 (length bs))
