-- The bytes of a block that is in two modules: within the block the two have the same bytes and the same numbers.
use Prim.Native.Nat.{ℕ, zero, suc, ◌+◌, ◌≤◌, ◌<◌}
use mathlib.Core.Path.{◌≡◌, refl, sym, ◌∙◌}
use mathlib.Core.List.{List}
use mathlib.Core.Bool.{Bool, true, false, cond}
use native.Mathlib.Omega.{arith}
use native.Mathlib.Nat.{add_assoc, add-zero}
use lib.ListN.{length}
use Rattle.numbers.specs.Numbers.{byte_at, number16, number32, part_of, each_from, bytes_from}
use Rattle.numbers.proofs.Parts.{bytes-part}
use Rattle.blocks.specs.Sizes.{size_of}
use Rattle.blocks.specs.declared.BlockKind.{BlockKind}
use Rattle.acceptance.proofs.Locating.{byte_at-at, part-inside, same-number16, same-number32}
use Rattle.acceptance.proofs.Cutting.{part-size}
use Rattle.showing_theorems.proofs.Alike.{SameBlock}

-- Two functions have the same results for n numbers, counted from j and from k.
pub each_same : {A : Type 0} (f g : ℕ → A) (n j k : ℕ) → ((i : ℕ) → i < n → f (j + i) ≡ g (k + i)) → each_from f j n ≡ each_from g k n
each_same f g zero j k h = refl
each_same f g (suc n) j k h =
    let first : f j ≡ g k = simp add-zero at (h 0 (omega arith)) in
    let rest : each_from f (j + 1) n ≡ each_from g (k + 1) n = each_same f g n (j + 1) (k + 1) (λ i less. simp add_assoc (h (1 + i) (omega arith))) in
    cc

-- A conditional has the same result if its two values are equal whenever the test holds.
pub same_if : {A : Type 0} {x y : A} (test : Bool) (other : A) → (test ≡ true → x ≡ y) → cond test x other ≡ cond test y other
same_if true other h = h refl
same_if false other h = refl

module _ {kind : BlockKind} {m n : List ℕ} {at to : ℕ} (s : SameBlock kind m n at to) where
  -- The size of the block.
  size : size_of kind m at ≡ length s.block
  size = part-size kind s.here s.sized

  pub same_byte : (k : ℕ) → k < size_of kind m at → byte_at n (to + k) ≡ byte_at m (at + k)
  same_byte k h = byte_at-at s.there k (rw size at h) ∙ sym (byte_at-at s.here k (rw size at h))

  pub same-16 : (k : ℕ) → k + 2 ≤ size_of kind m at → number16 n (to + k) ≡ number16 m (at + k)
  same-16 = same-number16 n m to at (size_of kind m at) same_byte

  pub same-32 : (k : ℕ) → k + 4 ≤ size_of kind m at → number32 n (to + k) ≡ number32 m (at + k)
  same-32 = same-number32 n m to at (size_of kind m at) same_byte

  -- The numbers at the start of the block.
  pub same-first16 : 2 ≤ size_of kind m at → number16 n to ≡ number16 m at
  same-first16 h = simp add-zero at (same-16 0 h)

  pub same-first32 : 4 ≤ size_of kind m at → number32 n to ≡ number32 m at
  same-first32 h = simp add-zero at (same-32 0 h)

  -- Bytes of the block; and the part of each module with these bytes, which is not cut.
  pub same_bytes : (k count : ℕ) → k + count ≤ size_of kind m at → bytes_from n (to + k) count ≡ bytes_from m (at + k) count
  same_bytes k count h = each_same (byte_at n) (byte_at m) count (to + k) (at + k) (λ i less. simp add_assoc (same_byte (k + i) (omega arith)))

  pub same-front : (count : ℕ) → count ≤ size_of kind m at → bytes_from n to count ≡ bytes_from m at count
  same-front count h = simp add-zero at (same_bytes 0 count (omega arith))

  pub same-part : (k count : ℕ) → k + count ≤ size_of kind m at → part_of n (to + k) count ≡ part_of m (at + k) count
  same-part k count h =
      sym (bytes-part n count (to + k) (omega (arith, size, part-inside s.there)))
      ∙ same_bytes k count h
      ∙ bytes-part m count (at + k) (omega (arith, size, part-inside s.here))
