-- The table of entry lengths has at bits 0 to 5 of each mask the length of an entry with that mask. The number of fields that a mask names:
-- at most 6, and the sum of the mask's bits 0 to 5.
use Prim.Native.Nat.{ℕ, zero, suc, ◌+◌, ◌/◌, ◌%◌, ◌^◌, ◌<◌, ◌≤◌}
use mathlib.Core.Path.{◌≡◌, refl, sym, ap, ◌∙◌}
use mathlib.Core.List.{List, ◌∷◌}
use mathlib.Core.Bool.{Bool, true, false}
use native.Mathlib.Omega.{arith}
use native.Mathlib.Nat.{pow-suc, add-zero, add-suc, suc-add}
use borrow.Author.Tests.{eqb-true, eqb-false}
use lib.ListN.{get_or}
use lib.Dec.{eqb}
use lib.Count.{ones, ones_step}
use Rattle.std.specs.Prelude.{bit_and}
use Rattle.std.proofs.lemmas.Nat.{and_mask}
use Rattle.packed_rows.specs.Entries.{bits, count, fields_named}
use Rattle.packed_rows.specs.Steps.{entry_length, lengths_from, entry_lengths}
use Rattle.packed_rows.proofs.Bits.{low_bits}
use Rattle.packed_rows.proofs.Fields.{count_most}

pub lengths-at : (n mask k : ℕ) → k < n → get_or (lengths_from n mask) k 0 ≡ entry_length (mask + k)
lengths-at zero mask k h = absurd (omega arith)
lengths-at (suc n) mask zero h = rw (add-zero mask)
lengths-at (suc n) mask (suc k) h = lengths-at n (suc mask) k (omega arith) ∙ rw (suc-add mask k, add-suc mask k)

pub entry-length-most : (mask : ℕ) → entry_length mask < 9
entry-length-most mask = omega (arith, count_most (bits 6 mask))

-- The table read at bits 0 to 5 of a mask.
pub length-read : (lengths : List ℕ) (mask : ℕ) → lengths ≡ entry_lengths → get_or lengths (mask % 64) 0 ≡ entry_length mask
length-read lengths mask e =
    let same : 0 + mask % 64 ≡ mask % 64 = omega arith in
    ap (λ (l : List ℕ). get_or l (mask % 64) 0) e
    ∙ lengths-at 64 0 (mask % 64) (omega arith)
    ∙ ap entry_length same
    ∙ ap (λ (names : List Bool). 2 + count names) (low_bits 6 mask)

pub fields-named-most : (mask : ℕ) → fields_named mask ≤ 6
fields-named-most mask = count_most (bits 6 mask)

-- The lowest bit of a number, counted as itself.
count-bit : (m : ℕ) (bs : List Bool) → count (eqb (m % 2) 1 ∷ bs) ≡ m % 2 + count bs
count-bit m bs = go (eqb (m % 2) 1) refl
  where
    go : (b : Bool) → eqb (m % 2) 1 ≡ b → count (b ∷ bs) ≡ m % 2 + count bs
    go true q = omega (arith, eqb-true (m % 2) 1 q)
    go false q = let even : ¬ (m % 2 ≡ 1) = eqb-false (m % 2) 1 q in omega arith

-- Six bits, each added to the count of the bits after it.
six-bits : (a b c d e f x₀ x₁ x₂ x₃ x₄ x₅ : ℕ) → x₀ ≡ a + x₁ → x₁ ≡ b + x₂ → x₂ ≡ c + x₃ → x₃ ≡ d + x₄ → x₄ ≡ e + x₅ → x₅ ≡ f + 0
    → x₀ ≡ a + b + c + d + e + f
six-bits a b c d e f x₀ x₁ x₂ x₃ x₄ x₅ q₀ q₁ q₂ q₃ q₄ q₅ = omega arith

-- Theorem 22, its first half.
pub fields-named-bits : (mask : ℕ)
    → fields_named mask ≡ mask % 2 + mask / 2 % 2 + mask / 4 % 2 + mask / 8 % 2 + mask / 16 % 2 + mask / 32 % 2
fields-named-bits mask =
    let by_4 : mask / 4 ≡ mask / 2 / 2 = omega arith in
    let by_8 : mask / 8 ≡ mask / 2 / 2 / 2 = omega arith in
    let by-16 : mask / 16 ≡ mask / 2 / 2 / 2 / 2 = omega arith in
    let by-32 : mask / 32 ≡ mask / 2 / 2 / 2 / 2 / 2 = omega arith in
    rw (by_4, by_8, by-16, by-32)
    (six-bits _ _ _ _ _ _ _ _ _ _ _ _
    (count-bit mask (bits 5 (mask / 2)))
    (count-bit (mask / 2) (bits 4 (mask / 2 / 2)))
    (count-bit (mask / 2 / 2) (bits 3 (mask / 2 / 2 / 2)))
    (count-bit (mask / 2 / 2 / 2) (bits 2 (mask / 2 / 2 / 2 / 2)))
    (count-bit (mask / 2 / 2 / 2 / 2) (bits 1 (mask / 2 / 2 / 2 / 2 / 2)))
    (count-bit (mask / 2 / 2 / 2 / 2 / 2) (bits 0 (mask / 2 / 2 / 2 / 2 / 2 / 2))))

-- The set bits of a number below 2 ^ n, and of a number's lowest six.
ones-bits : (n m : ℕ) → m < 2 ^ n → ones m ≡ count (bits n m)
unfolding ones
ones-bits zero m h = let none : m ≡ 0 = omega arith in rw none refl
ones-bits (suc n) m h =
    let half : m / 2 < 2 ^ n = omega (arith, pow-suc 2 n) in
    ones_step m ∙ ap (m % 2 +◌) (ones-bits n (m / 2) half) ∙ sym (count-bit m (bits n (m / 2)))

pub ones-named : (mask : ℕ) → ones (bit_and mask 63) ≡ fields_named mask
ones-named mask = rw (and_mask mask 6) (ones-bits 6 (mask % 64) (omega arith) ∙ ap count (low_bits 6 mask))
