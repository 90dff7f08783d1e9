-- The number of digits of a number.
use Prim.Native.Nat.{ℕ, zero, suc, ◌-◌, ◌/◌, ◌^◌, ◌<◌, ◌≤◌}
use native.Mathlib.Nat.{pow-zero, pow-suc, mul-le-mul}
use native.Mathlib.Omega.{arith}
use mathlib.Core.Path.{◌≡◌, refl}
use borrow.Author.Tests.{lt-ltb, le-ltb}
use Rattle.io.specs.Digits.{last_digits, IsDigitCount}
use Rattle.conformance_text.specs.Text.{figures, decimal64}

power-some : (b k : ℕ) → 1 ≤ b → 1 ≤ b ^ k
power-some b zero h = omega (arith, pow-zero b)
power-some b (suc k) h = rw (pow-suc b k) (mul-le-mul (power-some b k h) h)

less : (k : ℕ) → suc k - 1 ≡ k
less k = omega arith

-- The least number of digits that hold a number.
fewest-figures : (more k n : ℕ) → IsDigitCount 10 1 n (suc k) → n < 10 ^ suc more → figures more n ≡ suc k
fewest-figures zero zero n h b = refl
fewest-figures zero (suc k) n h b =
    let least : 10 ^ suc k ≤ n = rw (← less (suc k)) (h.2 (omega arith)) in
    let some : 1 ≤ 10 ^ k = power-some 10 k (omega arith) in
    absurd (omega (arith, pow-suc 10 k))
fewest-figures (suc more) zero n h b = simp (lt-ltb n 10 (omega (arith, h.1)))
fewest-figures (suc more) (suc k) n h b =
    let least : 10 ^ suc k ≤ n = rw (← less (suc k)) (h.2 (omega arith)) in
    let some : 1 ≤ 10 ^ k = power-some 10 k (omega arith) in
    let two_digits : 10 ≤ n = omega (arith, pow-suc 10 k) in
    let below : n / 10 < 10 ^ suc k = omega (arith, h.1, pow-suc 10 (suc k)) in
    let above : 1 < suc k → 10 ^ (suc k - 1) ≤ n / 10 = λ one. rw (less k) (omega (arith, pow-suc 10 k)) in
    simp (le-ltb n 10 two_digits, fewest-figures more k (n / 10) (omega arith, below, above) (omega (arith, pow-suc 10 (suc more))))

-- The digits that `io::decimal` writes.
pub fewest-decimal : (k n : ℕ) → IsDigitCount 10 1 n k → n < 2 ^ 64 → last_digits 10 k n ≡ decimal64 n
unfolding decimal64
fewest-decimal zero n h b = absurd (omega (arith, h.0))
fewest-decimal (suc k) n h b = rw (fewest-figures 19 k n h (omega arith))

-- A byte has two hexadecimal digits.
pub fewest-byte : (k n : ℕ) → IsDigitCount 16 2 n k → n < 256 → k ≡ 2
fewest-byte zero n h b = absurd (omega (arith, h.0))
fewest-byte (suc zero) n h b = absurd (omega (arith, h.0))
fewest-byte (suc (suc zero)) n h b = refl
fewest-byte (suc (suc (suc k))) n h b =
    let least : 16 ^ suc (suc k) ≤ n = rw (← less (suc (suc k))) (h.2 (omega arith)) in
    let some : 1 ≤ 16 ^ k = power-some 16 k (omega arith) in
    absurd (omega (arith, pow-suc 16 k, pow-suc 16 (suc k)))
