-- The decimal digits of a number: the laws of `decimal` without its steps, the number of digits, and the loop that counts them.
use Prim.Native.Nat.{ℕ, zero, suc, ◌+◌, ◌-◌, ◌*◌, ◌/◌, ◌%◌, ◌^◌, ◌<◌, ◌≤◌}
use mathlib.Core.Path.{◌≡◌, refl, ap}
use mathlib.Core.List.{List, [], ◌∷◌, ◌++◌}
use mathlib.Core.Bool.{Bool, true, false, cond}
use native.Mathlib.Omega.{arith}
use native.Mathlib.Nat.{pow-suc}
use lib.ListN.{length, get_or, length-append, get_or-append}
use lib.Dec.{ltb}
use borrow.Author.Tests.{lt-ltb, le-ltb, ltb-true, ltb-false}
use Rattle.listing_text.specs.Lines.{digit, digits_within, decimal}

-- If there are enough steps, their number does not matter.
enough : (steps more n : ℕ) → n < steps → n < more → digits_within steps n ≡ digits_within more n
unfolding digits_within
enough zero more n h k = absurd (omega arith)
enough (suc steps) zero n h k = absurd (omega arith)
enough (suc steps) (suc more) n h k =
    go (ltb n 10) refl (enough steps more (n / 10))
  where
    go : (b : Bool) → ltb n 10 ≡ b
        → (n / 10 < steps → n / 10 < more → digits_within steps (n / 10) ≡ digits_within more (n / 10))
        → cond b (digit n ∷ []) (digits_within steps (n / 10) ++ (digit (n % 10) ∷ []))
        ≡ cond b (digit n ∷ []) (digits_within more (n / 10) ++ (digit (n % 10) ∷ []))
    go true e same = refl
    go false e same = let t : 10 ≤ n = ltb-false _ _ e in rw (same (omega arith) (omega arith))

-- A number below ten is one digit.
pub decimal-short : (n : ℕ) → n < 10 → decimal n ≡ digit n ∷ []
unfolding decimal digits_within
decimal-short n h = simp (lt-ltb n 10 h)

-- Any other number is its tenth and then its last digit.
pub decimal-long : (n : ℕ) → 10 ≤ n → decimal n ≡ decimal (n / 10) ++ (digit (n % 10) ∷ [])
unfolding decimal digits_within
decimal-long n h = simp (le-ltb n 10 h) (ap (λ (l : List ℕ). l ++ (digit (n % 10) ∷ [])) (enough n (suc (n / 10)) (n / 10) (omega arith) (omega arith)))

pub decimal-longer : (n : ℕ) → 10 ≤ n → length (decimal n) ≡ length (decimal (n / 10)) + 1
decimal-longer n h = rw (decimal-long n h) (length-append (decimal (n / 10)) (digit (n % 10) ∷ []))

pub decimal-some : (n : ℕ) → 1 ≤ length (decimal n)
decimal-some n =
    go (ltb n 10) refl
  where
    go : (b : Bool) → ltb n 10 ≡ b → 1 ≤ length (decimal n)
    go true e = rw (decimal-short n (ltb-true _ _ e)) (omega arith)
    go false e = omega (arith, decimal-longer n (ltb-false _ _ e))

-- A number below 10 ^ k has at most k digits, for k from 1 on.
pub decimal-within : (k n : ℕ) → n < 10 ^ suc k → length (decimal n) ≤ suc k
decimal-within zero n h = rw (decimal-short n h) (omega arith)
decimal-within (suc k) n h =
    go (ltb n 10) refl (decimal-within k (n / 10) (omega (arith, pow-suc 10 (suc k))))
  where
    go : (b : Bool) → ltb n 10 ≡ b → length (decimal (n / 10)) ≤ suc k → length (decimal n) ≤ suc (suc k)
    go true e less = rw (decimal-short n (ltb-true _ _ e)) (omega arith)
    go false e less = omega (arith, decimal-longer n (ltb-false _ _ e))

-- A number of 64 bits has at most 20 digits.
pub decimal-64 : (n : ℕ) → n < 2 ^ 64 → length (decimal n) ≤ 20
decimal-64 n h = decimal-within 19 n (omega arith)

-- The meaning of `decimal`: read from the front as digits, it is the number; and it does not begin with 0 unless the number is 0.
unfoldable pub number_from : ℕ → List ℕ → ℕ
number_from n [] = n
number_from n (d ∷ ds) = number_from (n * 10 + (d - 48)) ds

number-after : (n : ℕ) (ds : List ℕ) (d : ℕ) → number_from n (ds ++ (digit d ∷ [])) ≡ number_from n ds * 10 + d
unfolding number_from
number-after n [] d = omega arith
number-after n (first ∷ ds) d = number-after (n * 10 + (first - 48)) ds d

value-within : (steps n : ℕ) → n < steps → number_from 0 (decimal n) ≡ n
unfolding number_from
value-within zero n h = absurd (omega arith)
value-within (suc steps) n h =
    go (ltb n 10) refl (value-within steps (n / 10))
  where
    go : (b : Bool) → ltb n 10 ≡ b → (n / 10 < steps → number_from 0 (decimal (n / 10)) ≡ n / 10) → number_from 0 (decimal n) ≡ n
    go true e tenth = rw (decimal-short n (ltb-true _ _ e)) (omega arith)
    go false e tenth =
        let t : 10 ≤ n = ltb-false _ _ e in
        rw (decimal-long n t, number-after 0 (decimal (n / 10)) (n % 10), tenth (omega arith)) (omega arith)

pub decimal-value : (n : ℕ) → number_from 0 (decimal n) ≡ n
decimal-value n = value-within (suc n) n (omega arith)

leading-within : (steps n : ℕ) → n < steps → 0 < n → 48 < get_or (decimal n) 0 0
leading-within zero n h k = absurd (omega arith)
leading-within (suc steps) n h k =
    go (ltb n 10) refl (leading-within steps (n / 10))
  where
    go : (b : Bool) → ltb n 10 ≡ b → (n / 10 < steps → 0 < n / 10 → 48 < get_or (decimal (n / 10)) 0 0) → 48 < get_or (decimal n) 0 0
    go true e tenth = rw (decimal-short n (ltb-true _ _ e)) (omega arith)
    go false e tenth =
        let t : 10 ≤ n = ltb-false _ _ e in
        rw (decimal-long n t, get_or-append (decimal (n / 10)) (digit (n % 10) ∷ []) 0 0 (decimal-some (n / 10))) (tenth (omega arith) (omega arith))

pub decimal-leading : (n : ℕ) → 0 < n → 48 < get_or (decimal n) 0 0
decimal-leading n h = leading-within (suc n) n (omega arith) h

-- One more digit is counted.
pub count_turn : (count rest all : ℕ) → 10 ≤ rest → count + length (decimal rest) ≡ all → count + 1 + length (decimal (rest / 10)) ≡ all
count_turn count rest all h e = let l = decimal-longer rest h in omega arith
