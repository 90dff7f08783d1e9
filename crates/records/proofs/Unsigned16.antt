-- A signed number as stored in 2 bytes: the code adds 65,536, so that the sum is not negative, and takes the remainder by 65,536.
use Prim.Native.Nat.{ℕ, suc, ◌+◌, ◌-◌, ◌%◌, ◌<◌}
use mathlib.Core.Path.{◌≡◌, refl, ap, ◌∙◌}
use native.Mathlib.Omega.{arith}
use lib.Dec.{T}
use lib.IntN.{ℤ, pos, negsuc, ◌+ℤ◌, nat_abs}
use lib.Signed.{mag, non_neg}
use mir.Syntax.{w32}
use mir.Val.{Fits, SFits, to_z, of_z}
use mir.ValLaws.{to_z-of_z}
use borrow.Author.Tests.{le-ltb}
use Rattle.numbers.specs.Numbers.{unsigned16}

-- The number plus 65,536.
abbrev raised : ℤ → ℕ
raised (pos n) = n + 65536
raised (negsuc n) = 65535 - n

raised_is : (v : ℤ) → mag v < 65536 → v +ℤ pos 65536 ≡ pos (raised v)
raised_is (pos n) h = refl
raised_is (negsuc n) h = simp (le-ltb 65536 (suc n) (omega arith)) (ap pos (omega arith))

raised_below : (v : ℤ) → mag v < 65536 → raised v < 131072
raised_below (pos n) h = omega arith
raised_below (negsuc n) h = omega arith

raised-left : (v : ℤ) → mag v < 65536 → raised v % 65536 ≡ unsigned16 v
raised-left (pos n) h = omega arith
raised-left (negsuc n) h = omega arith

module _ (v : ℤ) (h : mag v < 65536) where
  abbrev sum : ℤ
  sum = to_z w32 (of_z w32 v) +ℤ pos 65536

  sum_is : sum ≡ pos (raised v)
  sum_is = ap (λ (z : ℤ). z +ℤ pos 65536) (to_z-of_z w32 v (record { sfits = omega (arith, h) })) ∙ raised_is v h

  pub raised-fits : SFits w32 sum
  raised-fits = rw sum_is (record { sfits = omega (arith, raised_below v h) })

  read_again : to_z w32 (of_z w32 sum) ≡ pos (raised v)
  read_again = to_z-of_z w32 sum raised-fits ∙ sum_is

  pub raised-unsigned : T (non_neg (to_z w32 (of_z w32 sum))) × Fits w32 (nat_abs (to_z w32 (of_z w32 sum)))
  raised-unsigned = rw read_again (tt, record { fits = omega (arith, raised_below v h) })

  pub raised-stored : nat_abs (to_z w32 (of_z w32 sum)) % 65536 ≡ unsigned16 v
  raised-stored = rw read_again (raised-left v h)
